-- The names from outside this crate's proofs that they use, each with the module that has it.
pub use Rattle.block.proofs.Base.{Bool, Fits, List, [], ◌%◌, ◌*◌, ◌++◌, ◌+◌, ◌-◌, ◌/◌, ◌<◌, ◌^◌, ◌∙◌, ◌∷◌, ◌≡◌, ◌≤◌, ◌⊎◌, ap, append_assoc}
pub use Rattle.block.proofs.Base.{arith, drop, false, get_or, inl, inr, length, length-append, length-drop, length-take-le, rules}
pub use Rattle.block.proofs.Base.{refl, suc, sym, take, true, w32, zero, ℕ}
pub use Rattle.block.proofs.Cat.{cat-next, cat-same, length-block_at}
pub use Rattle.block.proofs.Convert.{bytes_of-bytes, length-bytes_of}
pub use Rattle.block.proofs.Entries.{below-append, below-drop, below_each, below-take}
pub use Rattle.block.proofs.InWords.{front-xored}
pub use Rattle.block.proofs.Tails.{length_tailed, returned, returned_is, tail_is, tailed}
pub use Rattle.block.proofs.WordsBack.{length-unwords, unwords-bytes, unwords-front}
pub use Rattle.block.proofs.Xors.{length-xors, xors_cancel}
pub use Rattle.block.specs.Below.{AreBytes}
pub use Rattle.block.specs.BigEndian.{bytes_of, number_of}
pub use Rattle.block.specs.Blocks.{block_at}
unfoldable pub use Rattle.block.specs.Blocks.{cat}
pub use Rattle.block.specs.Over.{over}
pub use Rattle.block.specs.Words.{unwords}
pub use Rattle.block.specs.Xor.{xors}
pub use Rattle.cipher.proofs.Blocks.{encrypt-unwords, length-encrypt_block}
pub use Rattle.cipher.proofs.Bounds.{encrypt-four}
pub use Rattle.cipher.specs.Sm4.{encrypt_block, encrypt_words}
pub use Rattle.counter.proofs.JumpSteps.{gcm-jump_on, jump_on, no_gcm-jump, no_jump}
pub use Rattle.counter.proofs.StepsTell.{ctr_steps_tell, gcm_steps_tell}
pub use Rattle.counter.specs.CameRound.{blocks_of, ctr_came_round, gcm_came_round}
unfoldable pub use Rattle.counter.specs.CameRound.{any_passes}
pub use Rattle.counter.specs.Counter.{ctr_passes, gcm_passes, jumped, last_four}
unfoldable pub use Rattle.counter.specs.Counter.{ctr_jump, ctr_next, gcm_jump, gcm_next}
pub use Rattle.sixteen.proofs.Blocks.{block-stored}
pub use Rattle.sixteen.proofs.Onward.{reached-end, reached-over, states_before}
pub use Rattle.sixteen.proofs.Padded.{block_of, over-stored, xored-blocks}
pub use Rattle.walk.proofs.Batch.{Fed, FedBack, fed_on, fed_reached, gives, reached-first, reached-next, reached_on}
pub use Rattle.walk.proofs.Chain.{Any, Keeps, chain_length, chain-rest}
pub use Rattle.walk.proofs.Cut.{end_rest}
pub use Rattle.walk.proofs.Loop.{last-state, rest-written}
pub use Rattle.walk.proofs.Undo.{Undoes, undo}
pub use Rattle.walk.specs.Reached.{Reached}
pub use Rattle.walk.specs.Walk.{Mode, chain, end_state}
unfoldable pub use Rattle.walk.specs.Walk.{stepped}
pub use Rattle.stream.specs.Passes.{gcm_blocks_say}
unfoldable pub use Rattle.stream.specs.Passes.{ctr_walk_says, gcm_walk_says, walk_passes}
pub use Rattle.stream.specs.Stream.{counting, kind_of, opener, state_after, stream_mode}
pub use Rattle.stream.specs.declared.Kind.{Kind}
pub use Rattle.stream.specs.declared.Kind.TheVariants.{CfbDecrypt, CfbEncrypt, Ctr, Gctr, Ofb}
