-- The names from outside this crate's proofs that they use, each with the module that has it.
pub use Rattle.block.proofs.Base.{List, [], ◌%◌, ◌*◌, ◌++◌, ◌+◌, ◌-◌, ◌/◌, ◌<◌, ◌^◌, ◌∙◌, ◌∷◌, ◌≡◌, ◌≢◌, ◌≤◌, add_comm, add-zero, ap}
pub use Rattle.block.proofs.Base.{append_assoc, ap₂, arith, drop, drop-append-add, drop_at, drop-drop, get_or, get_or-set_other, get_or-set_same}
pub use Rattle.block.proofs.Base.{high, length, length-append, length-drop, length-set, length-take-le, lit<, lt_of_lt_of_le}
pub use Rattle.block.proofs.Base.{mod-eq_of_lt, mod-lt, rules, pow_pos, refl, set, shr-shr, subst, suc, sym, take, take-add, take_all, take_at, zero, ℕ}
pub use Rattle.block.proofs.Base.{⊎_elim}
pub use Rattle.block.proofs.Cat.{cat-next, cat-same, length-block_at, length-cat}
pub use Rattle.block.proofs.Entries.{below-drop, below_each}
pub use Rattle.block.proofs.Fill.{xor-filled, xor_turn}
pub use Rattle.block.proofs.Tails.{returned, returned_is, tail_is, tailed}
pub use Rattle.block.proofs.WordsBack.{four_entries, length-unwords, unwords-front, words_take}
pub use Rattle.block.proofs.Xors.{xors-append}
pub use Rattle.block.specs.Below.{AreBytes}
pub use Rattle.block.specs.Blocks.{block_at}
unfoldable pub use Rattle.block.specs.Blocks.{cat}
pub use Rattle.block.specs.Over.{over}
pub use Rattle.block.specs.Words.{unwords, words}
pub use Rattle.block.specs.Xor.{◌⊕◌, xors}
pub use Rattle.cipher.proofs.Bounds.{tau-lt}
pub use Rattle.cipher.proofs.Rounds.{rounds-done, rounds-next}
pub use Rattle.cipher.proofs.WordBits.{tau-bit}
pub use Rattle.cipher.specs.Sm4.{L, encrypt_words, round_by, rounds, tau, turned}
unfoldable pub use Rattle.cipher.specs.Sm4.{encrypt_block, T}
pub use Rattle.circuit.specs.Sbox.{Sbox, SboxLanes}
pub use Rattle.lanes.proofs.Bits.{bit_ext, bit-low, bit-mod, bit-shr, bit-small, lt-or-le, mod_is, pack_is}
pub use Rattle.lanes.proofs.Filling.{each_next, each8, one_more, puts, puts_in, puts_out}
pub use Rattle.lanes.proofs.Stages.{by_none, by_stage, digs, masks, same_at}
pub use Rattle.lanes.proofs.Swaps.{Step, digit}
pub use Rattle.lanes.specs.Bits.{bit}
unfoldable pub use Rattle.lanes.specs.Bits.{byte_lane}
unfoldable pub use Rattle.lanes.specs.Swaps.{first_swapped, second_swapped}
pub use Rattle.walk.proofs.Batch.{FedBack}
pub use Rattle.walk.specs.Reached.{Reached}
pub use Rattle.walk.specs.Walk.{Mode, chain, end_state}
unfoldable pub use Rattle.walk.specs.Walk.{stepped}
pub use Rattle.sixteen.specs.Blocks.{Changed, Each, Halves, Held, block, keyed, row}
pub use Rattle.sixteen.specs.Bytes.{Subbed, Transposed, byte}
