-- The names from outside this crate's proofs that they use, each with the module that has it.
pub use lib.Bits.{or_lt}
pub use lib.Dec.{ltb→lt}
pub use lib.Pow.{shr_le}
pub use mathlib.Core.List.{reverse-cons}
pub use Rattle.block.proofs.Base.{List, [], ◌%◌, ◌*◌, ◌++◌, ◌+◌, ◌-◌, ◌/◌, ◌<◌, ◌^◌, ◌∙◌, ◌∷◌, ◌≡◌, ◌≤◌, add_comm, add-one, add-zero}
pub use Rattle.block.proofs.Base.{and_block, and_le_r, and_mask, and_zero_r, ap, append_assoc, append-nil, ap₂, arith, bit_and, bit_or}
pub use Rattle.block.proofs.Base.{bit_xor, cond, differ, div-one, drop, drop-cons, drop_of_length-le, eqb, eqb→eq, get_or}
pub use Rattle.block.proofs.Base.{length, length-append, lit<, lt_of_le_of_lt, ltb, map, mod-lt, mod-pow-add, mul-mod_left}
pub use Rattle.block.proofs.Base.{rules, pow_pos, refl, reverse, reverse-reverse, set, shl-shr, shr_lt, shr-shr, split, suc, sym, take}
pub use Rattle.block.proofs.Base.{take_all, take-suc-set, xor_block, xor_comm, xor_lt, xor_mod, xor_shifted, xor_shr, zero}
pub use Rattle.block.proofs.Base.{zero-add, ℕ, ⊎_elim}
pub use Rattle.block.proofs.Convert.{bytes_of-bytes, bytes_of-number_of, number_of-lt}
pub use Rattle.block.proofs.Entries.{below_at}
pub use Rattle.block.proofs.Shift.{or-sum}
pub use Rattle.block.proofs.Table.{rule_at}
pub use Rattle.block.proofs.WordsBack.{four_entries, length-unwords, length-words, unwords-bytes, unwords-words, words-below, words-unwords}
pub use Rattle.block.proofs.Xor.{xor_cancel, xor_swap, xor_turn}
pub use Rattle.block.specs.Below.{AreBytes, AreWords}
unfoldable pub use Rattle.block.specs.BigEndian.{bytes_of, number_of}
pub use Rattle.block.specs.Words.{unwords, words}
pub use Rattle.block.specs.Xor.{◌⊕◌, xors}
pub use Rattle.circuit.specs.Sbox.{SboxLanes}
pub use Rattle.lanes.proofs.Bits.{bit_high, bit-low, bit-mod, bit-shr, bit-small, bit-xor, lt-or-le, pack_is, pack-lt}
unfoldable pub use Rattle.lanes.specs.Bits.{bit, byte_lane, pack}
pub use Rattle.cipher.specs.Engine.{mixed}
unfoldable pub use Rattle.cipher.specs.Engine.{mixed_from, mixed_table}
pub use Rattle.cipher.specs.Gates.{four_bytes, four_lanes}
pub use Rattle.cipher.specs.Sm4.{FK, Sbox, round_by, turned}
unfoldable pub use Rattle.cipher.specs.Sm4.{CK, L, L', T, T', decrypt_block, decrypt_words, encrypt_block, encrypt_words, keys_from, rotl}
unfoldable pub use Rattle.cipher.specs.Sm4.{round_keys, rounds, sbox_table, tau}
