-- What opening leaves, by the test that decides; and how long the text is.
use Rattle.gcm.proofs.Names.{Bool, List, ◌-◌, ◌∙◌, ◌≡◌, ap, ap₂, arith, encrypt_block, false, length, length-take-le, masked_tag}
use Rattle.gcm.proofs.Names.{opens_under, over, same, tag_of, tag_part, text_into, text_of, text_part, true, ℕ}
use Rattle.gcm.proofs.Parts.{length-text}

module _ (rk : List ℕ) (h : ℕ) (j label s o : List ℕ) where
  pub into_refused : opens_under rk h j label s ≡ false → o ≡ text_into rk h j label s o
  unfolding text_into
  into_refused closed = rw closed

  pub into_opened : opens_under rk h j label s ≡ true → over (text_of rk j (text_part s)) o ≡ text_into rk h j label s o
  unfolding text_into
  into_opened opens = rw opens

pub text-size : (rk j s : List ℕ) → length (text_of rk j (text_part s)) ≡ length s - 16
text-size rk j s = length-text rk j (text_part s) ∙ length-take-le (length s - 16) s (omega arith)

-- whether the tag is right, by a mask that stands ready
pub told : (rk : List ℕ) (h : ℕ) (j label d mask text tag : List ℕ) (b : Bool) → mask ≡ encrypt_block rk j → text ≡ text_part d
    → tag ≡ masked_tag mask h label text → b ≡ same (tag_part d) tag → b ≡ opens_under rk h j label d
unfolding opens_under tag_of
told rk h j label d mask text tag b em et eg eb =
    eb ∙ ap (same (tag_part d)) (eg ∙ ap₂ (λ (y t : List ℕ). masked_tag y h label t) em et)
