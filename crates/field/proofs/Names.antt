-- The names from outside this crate's proofs that they use, each with the module that has it.
pub use Rattle.block.proofs.Base.{Bool, List, [], ◌%◌, ◌&&◌, ◌*◌, ◌+◌, ◌/◌, ◌<◌, ◌^◌, ◌∙◌, ◌∷◌, ◌≡◌, ◌≢◌, ◌⊎◌, add-one, add-zero}
pub use Rattle.block.proofs.Base.{and-eq-true_iff, ap, ap₂, arith, digits_div, digits_lt, digits_mod, div-eq_of_lt, div-le_self}
pub use Rattle.block.proofs.Base.{div-lt_iff_lt-mul, div-one, eqb, eqb-true, get_or, inl, inr, length, lit<, lt_of_le_of_lt, mod-eq_of_lt}
pub use Rattle.block.proofs.Base.{mod-lt, mod-pow-add, mul_assoc, mul-div_cancel, mul-mod_left, mul-one, mul-zero, rules, one-add, one-mul}
pub use Rattle.block.proofs.Base.{pow-add, pow_pos, pow-suc, refl, replicate, shl_lt, shr-shr, split, suc, suc-add, sym, true, xor_block}
pub use Rattle.block.proofs.Base.{xor_comm, xor_lt, xor_mod, xor_self, xor_shifted, xor_shr, xor_zero_l, xor_zero_r, zero, zero-add}
pub use Rattle.block.proofs.Base.{zero-lt-suc, zero-mul, ℕ, ⊎_elim}
pub use Rattle.block.proofs.Bit.{bit_cases, bit-times-lt, times-xor, xor-times}
pub use Rattle.block.proofs.Shift.{or-sum}
pub use Rattle.block.proofs.Xor.{bit-lt, xor_meet, xor-sums, xor_swap, xor_wide}
unfoldable pub use Rattle.block.specs.BigEndian.{number_of}
pub use Rattle.block.specs.Wide.{value, whole}
pub use Rattle.block.specs.Xor.{◌⊕◌}
pub use Rattle.carryless.proofs.Bounds.{top_half}
pub use Rattle.carryless.proofs.Joins.{join_128, spill}
pub use Rattle.carryless.proofs.Laws.{clmul-lt, clmul-split, clmul-up, clmul-xor, shl-xor}
pub use Rattle.carryless.specs.Carryless.{joining128}
unfoldable pub use Rattle.carryless.specs.Carryless.{clmul}
pub use Rattle.carryless.specs.Lanes.{Both, Each, lane}
pub use Rattle.field.specs.Field.{Element, gcm_r}
unfoldable pub use Rattle.field.specs.Field.{gmul, gpow, mul_from, one, times_x, times_xs}
pub use Rattle.field.specs.Polynomial.{Multiple, gcm_p, poly}
unfoldable pub use Rattle.field.specs.Polynomial.{flip}
pub use Rattle.field.specs.Polynomial.Multiple.{none, once, plus, times_x_lem}
