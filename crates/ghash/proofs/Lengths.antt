-- The length block: it is two halves of 64 bits where the lengths in bits fit them, and then it tells the lengths.
use Rattle.ghash.proofs.Names.{Element, Hashable, ◌%◌, ◌*◌, ◌<◌, ◌^◌, ◌∙◌, ◌≡◌, ap₂, arith, bytes_of, digits_div, digits_lt}
use Rattle.ghash.proofs.Names.{digits_mod, length-bytes_of, length_block, lit<, mod-eq_of_lt, mod-lt, number_of-append}
use Rattle.ghash.proofs.Names.{number_of-bytes_of, sym, whole, ℕ}

halves : (a t : ℕ) → length_block a t ≡ whole (8 * a % 2 ^ 64) (8 * t % 2 ^ 64)
unfolding length_block
halves a t = rw (number_of-append (bytes_of 8 (8 * a)), length-bytes_of 8 (8 * t), number_of-bytes_of 8 (8 * a), number_of-bytes_of 8 (8 * t))

pub length_block-lt : (a t : ℕ) → Element (length_block a t)
length_block-lt a t = rw (halves a t) (digits_lt {m = 2 ^ 64} {c = 2 ^ 64} (mod-lt (8 * a) (lit< tt)) (mod-lt (8 * t) (lit< tt)))

pub length_block-whole : (a t : ℕ) → Hashable a → Hashable t → length_block a t ≡ whole (8 * a) (8 * t)
length_block-whole a t ha ht = halves a t ∙ ap₂ whole (mod-eq_of_lt (omega arith)) (mod-eq_of_lt (omega arith))

-- a number tells its halves
halves-same : (a t b u : ℕ) → t < 2 ^ 64 → u < 2 ^ 64 → whole a t ≡ whole b u → (a ≡ b) × (t ≡ u)
halves-same a t b u ht hu e = (sym (digits_div a ht) ∙ rw e (digits_div b hu), sym (digits_mod a ht) ∙ rw e (digits_mod b hu))

pub length_block-same : (a t b u : ℕ) → Hashable a → Hashable t → Hashable b → Hashable u → length_block a t ≡ length_block b u
    → (a ≡ b) × (t ≡ u)
length_block-same a t b u ha ht hb hu e =
    let w = halves-same (8 * a) (8 * t) (8 * b) (8 * u) (omega arith) (omega arith)
    (rw (length_block-whole a t, length_block-whole b u) at e) in
    (omega arith, omega arith)
