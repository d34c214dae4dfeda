-- The names that most proofs use, from the libraries that have them.
pub use Prim.Native.Nat.{◌%◌, ◌*◌, ◌+◌, ◌-◌, ◌/◌, ◌<◌, ◌^◌, ◌≤◌, max, min, suc, suc-le-suc, zero, zero-le, ℕ}
pub use mathlib.Core.Path.{◌∙◌, ◌≡◌, ap, ap₂, refl, subst, sym}
pub use mathlib.Core.Logic.{◌↔◌, ◌≢◌, ◌⊎◌, inl, inr, ⊎_elim}
pub use mathlib.Core.Bool.{Bool, ◌&&◌, ◌||◌, and-eq-true_iff, cond, false, false≢true, not, true, true≢false}
pub use mathlib.Core.List.Pairwise.{cons as PairwiseCons}
pub use mathlib.Core.List.Pairwise.{nil as PairwiseNil}
pub use mathlib.Core.List.Pairwise.{of_cons as PairwiseOf-cons}
pub use mathlib.Core.List.{List, Mem, Nodup, [], ◌++◌, ◌∷◌, append_assoc}
pub use mathlib.Core.List.{append-nil, map, mem-cons_of_mem, mem-cons_self, mem_of_ne_of_mem, not-mem-nil, rel_of_Pairwise-cons, reverse}
pub use mathlib.Core.List.{reverse-reverse}
pub use native.Mathlib.Nat.{add_assoc, add_comm, add-div_right, add-le-add, add-mod, add-mul, add-mul-div_right, add-mul-mod_self_right}
pub use native.Mathlib.Nat.{add-suc, add-zero, div-add-mod', div-div-eq-div-mul, div-eq_of_lt, div-le_self, div-lt_iff_lt-mul, div-one}
pub use native.Mathlib.Nat.{eq-or-lt_of_le, eq-zero-or-pos, le-max_left, le-max_right, le_of_eq, le_of_suc-le, le_of_suc-le-suc, le_refl}
pub use native.Mathlib.Nat.{lt_of_le_of_lt, lt_of_lt_of_le, lt-suc_self, lt_trans, mod-add-mod, mod-eq_of_lt, mod-lt, mod-mod, mod-one}
pub use native.Mathlib.Nat.{mod_self, mul_assoc, mul_comm, mul-div_cancel, mul-le-mul, mul-le-mul_left, mul-le-mul_right, mul-mod_left}
pub use native.Mathlib.Nat.{mul-mul-mul_comm, mul-one, mul_right_comm, mul-suc, mul-zero, not-suc-le-zero, one-mul, pow-le-pow_right}
pub use native.Mathlib.Nat.{pow-suc, pow-succ', sub-zero, suc-add, zero-add, zero-div, zero-lt-suc, zero-mod, zero-mul}
pub use native.Mathlib.Numerals.{add-one, add-three, add-two, one-add}
pub use native.Mathlib.Omega.{arith}
pub use borrow.Author.Rules.{rules}
pub use borrow.Author.Tests.{eq-eqb, eqb-false, eqb-true, le-leb, le-ltb, leb-true, lt-leb, lt-ltb, ltb-false, ltb-true, ne_eqb, not-false}
pub use borrow.Author.Tests.{not-true}
pub use lib.Arith.{bin_ind, digits_div, digits_lt, digits_mod, mod-mul}
pub use lib.Bits.{and_block, and_comm, and_le_l, and_le_r, and_mask, and_shr, and_step, and_zero_r, bit_and, bit_or, bit_xor, differ}
pub use lib.Bits.{or_add_and, or_shifted, shifted_even, xor_block, xor_comm, xor_lt, xor_mod, xor_self, xor_shifted, xor_shr, xor_step}
pub use lib.Bits.{xor_zero_l, xor_zero_r}
pub use lib.Dec.{T, eqb, eqb→eq, leb, leb→le, lit<, lit≤, ltb}
pub use lib.ListN.{get_or-eq_default, get_or-map, drop, drop_of_length-le, get_or, length, length-append, length-drop, length-map}
pub use lib.ListN.{length-replicate, length-set, length-take, replicate, set, take, take-append-drop}
pub use lib.Pow.{field, high, low, mod-mod-pow, mod-pow-add, pow-add, pow-lt, pow_pos, shl_exact, shl_lt, shl-shr, shr_lt, shr-shr, split}
pub use lib.Seq.{drop-append-add, drop-append-le, drop_at, drop-cons, drop-drop, get_or-set_other, get_or-set_same, get_or-take, length-take-le}
pub use lib.Seq.{sets, sets-eq, take-add, take_all, take-append-le, take-append_seam, take_at, take-length, take-nil, take-suc-set}
pub use mir.Syntax.{w32, w64, w8}
pub use mir.Val.{Fits}
