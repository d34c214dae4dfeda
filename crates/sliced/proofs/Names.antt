-- The names from outside this crate's proofs that they use, each with the module that has it.
pub use Rattle.block.proofs.Base.{Bool, Fits, List, [], ◌%◌, ◌*◌, ◌+◌, ◌-◌, ◌/◌, ◌<◌, ◌^◌, ◌∙◌, ◌∷◌, ◌≡◌, ◌≤◌, add-one, add-zero, ap}
pub use Rattle.block.proofs.Base.{ap₂, arith, bit_and, differ, digits_div, digits_mod, drop, drop_of_length-le, false, get_or}
pub use Rattle.block.proofs.Base.{get_or-set_other, get_or-set_same, length, length-set, lit<, min, mod-eq_of_lt, mod-lt}
pub use Rattle.block.proofs.Base.{mod-mul, pow-suc, refl, rules, set, subst, suc, sym, true, w32, xor_lt, zero, ℕ, ⊎_elim}
pub use Rattle.block.proofs.Base.{◌++◌, take, take_at}
pub use Rattle.std.proofs.Math.ListN.{get_or-append}
pub use Rattle.std.proofs.Math.Seq.{get_or-append_right}
pub use Rattle.std.proofs.lemmas.List.{get_or-drop, get_or-take}
pub use Rattle.block.proofs.Convert.{bytes_of-number_of}
pub use Rattle.block.proofs.Entries.{below_at, below_each}
pub use Rattle.block.proofs.WordsBack.{four_entries, length-unwords, number_of-unwords, unwords-bytes, words-unwords}
pub use Rattle.block.specs.Below.{AreWords}
pub use Rattle.block.specs.BigEndian.{bytes_of, number_of}
pub use Rattle.block.specs.Words.{unwords, words}
pub use Rattle.block.specs.Xor.{◌⊕◌}
pub use Rattle.cipher.proofs.Bounds.{L-lt, tau-lt}
pub use Rattle.cipher.proofs.Rounds.{four_done}
pub use Rattle.cipher.proofs.WordBits.{L-bit, tau-bit}
pub use Rattle.cipher.specs.Sm4.{L, turned}
unfoldable pub use Rattle.cipher.specs.Sm4.{encrypt_block, T, encrypt_words, rounds}
pub use Rattle.circuit.specs.Sbox.{Sbox, SboxLanes}
pub use Rattle.counter.proofs.Steps.{gcm-jump-words}
pub use Rattle.counter.specs.Counter.{jumped}
unfoldable pub use Rattle.counter.specs.Counter.{ctr_jump}
pub use Rattle.lanes.proofs.Bits.{bit-and, bit_high, bit-low, bit-mod, bit-pack, bit_past, bit-shr, bit-small, bit-xor, bit-zero, lt-or-le}
pub use Rattle.lanes.proofs.Bits.{mod_is, pack-below, pack_is, pack-lt, three-bits}
pub use Rattle.lanes.proofs.Filling.{each8, one_more, puts, puts_in, puts_out, word_more}
pub use Rattle.lanes.proofs.Masks.{blank_room, masks-next}
pub use Rattle.lanes.proofs.Stages.{same_at}
pub use Rattle.lanes.specs.Bits.{Blank, Masks}
unfoldable pub use Rattle.lanes.specs.Bits.{bit, byte_lane, pack}
pub use Rattle.rows.specs.Rows.{Row, Rows, place}
pub use Rattle.rows.specs.Transposed.{Turned}
unfoldable pub use Rattle.rows.specs.Transposed.{at}
pub use Rattle.sliced.specs.Counting.{Added, Kept, RowAdded, WordAdded, number_at}
unfoldable pub use Rattle.sliced.specs.Counting.{carry_at}
pub use Rattle.sliced.specs.Lanes.{Halved, Held, Parted, block_in, lanes}
unfoldable pub use Rattle.sliced.specs.Lanes.{lane}
pub use Rattle.sliced.specs.Round.{column, subbed, summed}
unfoldable pub use Rattle.sliced.specs.Round.{keyed, mixed}
