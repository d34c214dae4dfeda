-- The names from outside this crate's proofs that they use, each with the module that has it.
pub use lib.Seq.{take-append-add, take-take}
pub use Rattle.block.proofs.Base.{Bool, Fits, List, [], ◌%◌, ◌*◌, ◌++◌, ◌+◌, ◌-◌, ◌/◌, ◌<◌, ◌^◌, ◌∙◌, ◌∷◌, ◌≡◌, ◌≤◌}
pub use Rattle.block.proofs.Base.{add-zero, ap, append_assoc, append-nil, arith, cond, drop, drop-append-add, drop_at}
pub use Rattle.block.proofs.Base.{drop_of_length-le, eq-eqb, eqb, eqb-true, false, get_or, le-ltb, length, length-append}
pub use Rattle.block.proofs.Base.{length-drop, length-take-le, lit<, lt-ltb, ltb, ltb-false, ltb-true, min, mod-eq_of_lt}
pub use Rattle.block.proofs.Base.{mod-lt, rules, not, refl, replicate, suc, sym, take, take_all}
pub use Rattle.block.proofs.Base.{take-append-drop, take-append-le, take_at, true, w32, w64, w8, zero, ℕ}
pub use Rattle.block.proofs.Convert.{bytes_of-bytes, bytes_of-number_of, length-bytes_of, number_of-bytes_of}
pub use Rattle.block.proofs.Entries.{below_each}
pub use Rattle.block.proofs.Tails.{over-behind, tail_is}
pub use Rattle.block.proofs.WordsBack.{length-words, unwords-number, unwords-words, unwords-xors}
pub use Rattle.block.proofs.Xors.{xors_comm}
pub use Rattle.block.specs.Below.{AreBytes}
pub use Rattle.block.specs.BigEndian.{bytes_of, number_of}
pub use Rattle.block.specs.Over.{over}
pub use Rattle.block.specs.Words.{unwords, words}
pub use Rattle.block.specs.Xor.{◌⊕◌, xors}
pub use Rattle.cipher.proofs.Blocks.{encrypt-unwords, length-encrypt_block}
pub use Rattle.cipher.specs.Sm4.{encrypt_block, encrypt_words}
pub use Rattle.cipher_mode.proofs.Ends.{spelled}
pub use Rattle.cipher_mode.proofs.Passed.{both, iv_twelve_or_sixteen, key-and-iv_passed, label_passed, let_through, sixteen}
pub use Rattle.cipher_mode.specs.Calls.{gcm_round}
pub use Rattle.cipher_mode.specs.Checks.{key_and_iv, refuse, wrong_iv}
pub use Rattle.cipher_mode.specs.Key.{key_number}
pub use Rattle.cipher_mode.specs.Outcome.{Head, finished, refusal, telling, under}
pub use Rattle.cipher_mode.specs.Tables.{limit}
pub use Rattle.cipher_mode.specs.declared.CipherMode.TheVariants.{Ctr as CtrMode}
pub use Rattle.cipher_mode.specs.declared.Direction.{Direction}
pub use Rattle.cipher_mode.specs.declared.Direction.TheVariants.{Decrypt, Encrypt}
pub use Rattle.cipher_mode.specs.declared.KeyAnswer.{KeyAnswer}
pub use Rattle.cipher_mode.specs.declared.Sm4Cipher.{Sm4Cipher}
pub use Rattle.cipher_mode.specs.declared.answer.Refusal.TheVariants.{Ended, ErrorBlockSize, Retired, TooLong, WrongIv, WrongNumber}
pub use Rattle.std.proofs.Common.{Ok, Err}
pub use Rattle.counter.proofs.Steps.{last-four}
pub use Rattle.counter.specs.CameRound.{blocks_of, ctr_came_round}
pub use Rattle.counter.specs.Counter.{gcm_next}
pub use Rattle.field.specs.Field.{Element}
pub use Rattle.gcm.proofs.HashKey.{hash_key-lt}
pub use Rattle.gcm.proofs.Parts.{length-text, parts-tag, parts-text}
pub use Rattle.gcm.specs.Gcm.{J0, hash_key}
unfoldable pub use Rattle.gcm.specs.Gcm.{opens_under, tag_of, text_of}
pub use Rattle.ghash.proofs.Absorbing.{absorbed_both}
pub use Rattle.ghash.proofs.Blocks.{blocks-append, blocks-nil}
pub use Rattle.ghash.proofs.Join.{ghash-lt, hash-append, hash_from-lt}
pub use Rattle.ghash.specs.Ghash.{Hashable, blocks, ghash, length_block}
unfoldable pub use Rattle.ghash.specs.Ghash.{auth_blocks, hash_from}
pub use Rattle.stream.proofs.RoundTrip.{length-stream}
pub use Rattle.stream.specs.Stream.{stream_mode}
pub use Rattle.stream.specs.declared.Kind.TheVariants.{Ctr as CtrKind, Gctr}
pub use Rattle.walk.proofs.Chain.{chain-block, chain-rest}
pub use Rattle.walk.proofs.Cut.{chain_cut, end-block, end_cut, end_rest}
pub use Rattle.walk.specs.Walk.{Mode, chain, end_state}
pub use Rattle.pieces.specs.Calls.{Stepped, ended}
unfoldable pub use Rattle.pieces.specs.Calls.{ctr_end, ctr_piece, ctr_start, opens_end, opens_piece, opens_start, seal_end, seal_piece}
unfoldable pub use Rattle.pieces.specs.Calls.{seal_start}
unfoldable pub use Rattle.pieces.specs.Checks.{gcm_starting, running, standing, tagged, writing}
pub use Rattle.pieces.specs.Flow.{flow_at, flow_mode, kind_of, next_counter}
unfoldable pub use Rattle.pieces.specs.Flow.{flow_after, flow_next, flow_text}
pub use Rattle.pieces.specs.Hashing.{begun_part, full_part}
unfoldable pub use Rattle.pieces.specs.Hashing.{filled_up, hash_after, hash_end, hash_next, hash_of}
unfoldable pub use Rattle.pieces.specs.States.{ctr_after, ctr_shut, opens_after, opens_shut, seal_after, seal_shut}
pub use Rattle.pieces.specs.declared.ctr.Ctr.{Ctr}
pub use Rattle.pieces.specs.declared.flow.Counting.{Counting}
pub use Rattle.pieces.specs.declared.flow.Counting.TheVariants.{Ctr as CtrCounting, Gcm, Gcm as GcmCounting}
pub use Rattle.pieces.specs.declared.flow.Flow.{Flow}
pub use Rattle.pieces.specs.declared.hashing.Hashing.{Hashing}
pub use Rattle.pieces.specs.declared.opens.Opens.{Opens}
pub use Rattle.pieces.specs.declared.seal.Seal.{Seal}
