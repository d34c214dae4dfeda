-- The names from outside this crate's proofs that they use, each with the module that has it.
pub use lib.Seq.{ext_get_or, get_or-drop}
pub use Rattle.block.proofs.Base.{List, [], ◌%◌, ◌*◌, ◌++◌, ◌+◌, ◌-◌, ◌/◌, ◌<◌, ◌^◌, ◌∙◌, ◌∷◌, ◌≡◌, ◌≢◌, ◌≤◌}
pub use Rattle.block.proofs.Base.{add-zero, ap, append_assoc, ap₂, arith, digits_div, digits_lt, digits_mod, drop, drop-append-le}
pub use Rattle.block.proofs.Base.{drop-drop, drop_of_length-le, eq-zero-or-pos, get_or, get_or-take, le_of_eq, length, length-append}
pub use Rattle.block.proofs.Base.{length-drop, length-take, length-take-le, lit<, mod-eq_of_lt, mod-lt, mul-one, rules, refl}
pub use Rattle.block.proofs.Base.{replicate, suc, suc-add, sym, take, take_all, take-append-drop, take-append-le, take_at, xor_comm}
pub use Rattle.block.proofs.Base.{xor_lt, xor_self, xor_zero_r, zero, zero-add, ℕ, ⊎_elim}
pub use Rattle.block.proofs.Convert.{length-bytes_of, number_of-append, number_of-bytes_of, number_of-lt, number_of-same}
pub use Rattle.block.proofs.Entries.{below-append, below-drop, below_each, below-replicate, below-take}
pub use Rattle.block.proofs.WordsBack.{unwords-words, words_same, words_take}
pub use Rattle.block.proofs.Xor.{xor_assoc, xor_meet, xor_same, xor_swap}
pub use Rattle.block.specs.Below.{AreBytes}
unfoldable pub use Rattle.block.specs.BigEndian.{bytes_of, number_of}
pub use Rattle.block.specs.Wide.{value, whole}
pub use Rattle.block.specs.Words.{unwords}
unfoldable pub use Rattle.block.specs.Words.{words}
pub use Rattle.block.specs.Xor.{◌⊕◌, xors}
pub use Rattle.block.specs.declared.U128.{U128}
pub use Rattle.carryless.specs.Lanes.{Both, lane}
pub use Rattle.field.proofs.Bounded.{gmul-lt, gpow-lt, whole-lt}
pub use Rattle.field.proofs.Commutes.{gmul_assoc, gmul_comm, gmul-one}
pub use Rattle.field.proofs.Distributes.{gmul-zero, xor-gmul, zero-gmul}
pub use Rattle.field.proofs.Inverse.{zero-product}
pub use Rattle.field.proofs.Powers.{gpow-add, power-one}
pub use Rattle.field.specs.Field.{Element, gmul}
unfoldable pub use Rattle.field.specs.Field.{gpow}
pub use Rattle.ghash.specs.Absorbed.{Absorbed}
pub use Rattle.ghash.specs.Ghash.{Hashable, block_count, ghash}
unfoldable pub use Rattle.ghash.specs.Ghash.{auth_blocks, block_of, blocks, blocks_from, hash_from, length_block}
pub use Rattle.ghash.specs.Joined.{HalfOf}
unfoldable pub use Rattle.ghash.specs.Joined.{joined}
pub use Rattle.ghash.specs.OneBlock.{OneBlock}
pub use Rattle.ghash.specs.Sets.{Hashed, LaneCount, Starts, block_number}
unfoldable pub use Rattle.ghash.specs.Sets.{up_to}
pub use Rattle.ghash.specs.declared.Ghash.{Ghash}
pub use Rattle.ghash.specs.declared.halves.Half.{Half}
