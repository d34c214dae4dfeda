-- The names from outside this crate's proofs that they use, each with the module that has it.
pub use lib.Seq.{drop-nil, drop-set-lt}
pub use mathlib.Core.Bool.{or-true}
pub use mathlib.Core.HLevel.{hedberg}
pub use mathlib.Core.List.Perm.{foldr-eq as PermFoldr-eq}
pub use mathlib.Core.List.{is_set, Perm, foldr}
pub use native.Mathlib.Decide.{ℕ_discrete}
pub use native.Mathlib.Nat.{add_assoc, div-add-mod, mul_left_comm, mul-mod_right, suc-mul}
pub use Rattle.block.proofs.Base.{Bool, List, [], ◌%◌, ◌&&◌, ◌*◌, ◌++◌, ◌+◌, ◌-◌, ◌/◌, ◌<◌, ◌||◌, ◌∙◌, ◌∷◌, ◌≡◌, ◌≢◌, ◌≤◌, add-one}
pub use Rattle.block.proofs.Base.{add-zero, ap, append_assoc, append-nil, arith, cond, div-le_self, drop, drop_at, drop-cons, drop-drop}
pub use Rattle.block.proofs.Base.{drop_of_length-le, eq-eqb, eqb, eqb-false, eqb-true, false, false≢true, get_or, get_or-take, le-leb, le-ltb}
pub use Rattle.block.proofs.Base.{leb, leb-true, length, length-append, length-drop, length-replicate, length-set, length-take}
pub use Rattle.block.proofs.Base.{length-take-le, lit<, lt-leb, lt-ltb, ltb, ltb-false, min, mod-lt, mul-le-mul_right, ne_eqb, rules, not}
pub use Rattle.block.proofs.Base.{not-false, not-true, refl, replicate, set, suc, sym, take, take-add, take_all, take-append-drop}
pub use Rattle.block.proofs.Base.{take-nil, take-suc-set, true, xor_comm, zero, zero-add, ℕ}
pub use Rattle.block.proofs.Convert.{bytes_of-bytes, length-bytes_of}
pub use Rattle.block.proofs.Entries.{below_each}
pub use Rattle.block.proofs.Same.{and_left, and_right}
pub use Rattle.block.proofs.Tails.{length_tailed, over-behind, returned, tailed}
pub use Rattle.block.proofs.Xor.{xor_assoc}
pub use Rattle.block.proofs.Xors.{xors-append, xors_comm}
pub use Rattle.block.specs.Below.{AreBytes}
pub use Rattle.block.specs.Over.{over}
pub use Rattle.block.specs.Xor.{◌⊕◌, xors}
pub use Rattle.cipher.proofs.Blocks.{length-encrypt_block}
pub use Rattle.cipher.specs.Sm4.{encrypt_block}
pub use Rattle.cipher_mode.proofs.Ends.{spelled}
pub use Rattle.cipher_mode.proofs.Passed.{both, key-and-iv_passed, let_through, sixteen}
pub use Rattle.cipher_mode.specs.Checks.{key_and_iv}
pub use Rattle.cipher_mode.specs.Tables.{limit}
pub use Rattle.cipher_mode.specs.declared.Direction.{Direction}
pub use Rattle.cipher_mode.specs.declared.KeyAnswer.{KeyAnswer}
pub use Rattle.counter.proofs.JumpSteps.{jump_on, no_jump}
pub use Rattle.counter.specs.CameRound.{blocks_of}
pub use Rattle.counter.specs.Counter.{ctr_jump}
unfoldable pub use Rattle.counter.specs.Counter.{ctr_next}
pub use Rattle.pieces.proofs.Cases.{by_order}
pub use Rattle.pieces.proofs.CtrInPieces.{ctr-joined}
pub use Rattle.pieces.proofs.KeyStream.{text-behind}
pub use Rattle.pieces.proofs.Pads.{drop-xors, take-xors, xors_cut}
pub use Rattle.pieces.specs.Flow.{flow_at, flow_text}
unfoldable pub use Rattle.pieces.specs.Flow.{flow_after}
pub use Rattle.pieces.specs.declared.flow.Counting.TheVariants.{Ctr as CtrCounting}
pub use Rattle.stream.proofs.RoundTrip.{length-stream}
pub use Rattle.stream.specs.Stream.{stream_mode}
pub use Rattle.stream.specs.declared.Kind.TheVariants.{Ctr, Ctr as CtrKind}
pub use Rattle.walk.proofs.Chain.{chain-block, chain-rest}
pub use Rattle.walk.specs.Walk.{chain}
unfoldable pub use Rattle.walk.specs.Walk.{end_state, stepped}
unfoldable pub use Rattle.ranges.specs.ByPlan.{plan_call}
pub use Rattle.ranges.specs.Plan.{begins, is_last, length_at, no_pieces, plan_in, plan_of, start_at}
unfoldable pub use Rattle.ranges.specs.Plan.{accepts, count_from, follows, is_piece, lengths_from, piece_size, planned, starts_from}
unfoldable pub use Rattle.ranges.specs.Range.{range_call, range_check, reach_check, stretch}
pub use Rattle.ranges.specs.Reading.{Piece, Reading}
pub use Rattle.ranges.specs.Shares.{Share, all_worked, applied, laid_at, share_of, shares, shares_of, worked}
pub use Rattle.ranges.specs.declared.plan.NotMade.{NotMade}
pub use Rattle.ranges.specs.declared.plan.NotMade.TheVariants.{BadWorkers, TooLong}
pub use Rattle.ranges.specs.declared.plan.Plan.{Plan}
pub use Rattle.std.proofs.Common.{Err, Ok, Result}
