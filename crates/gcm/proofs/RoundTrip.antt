-- What was sealed opens, with its text; what opens is sealed again to the same bytes. For any round keys, H and J0.
use Rattle.gcm.proofs.Names.{Gctr, List, ◌++◌, ◌-◌, ◌∙◌, ◌≡◌, ap, gcm_next, length, opens_under, same_equal, same_refl, sealed}
use Rattle.gcm.proofs.Names.{stream_back, sym, tag_of, tag_part, take-append-drop, text_of, text_part, true, ℕ}
use Rattle.gcm.proofs.Parts.{sealed-text, sealed-tag}

text_back : (rk j d : List ℕ) → text_of rk j (text_of rk j d) ≡ d
unfolding text_of
text_back rk j d = stream_back Gctr rk (gcm_next j) d

module _ (rk : List ℕ) (h : ℕ) (j label : List ℕ) where
  pub opens-sealed : (d : List ℕ) → opens_under rk h j label (sealed rk h j label d) ≡ true
  unfolding opens_under
  opens-sealed d = rw (sealed-tag rk h j label d, sealed-text rk h j label d) (same_refl (tag_of rk h j label (text_of rk j d)))

  pub text-of-sealed : (d : List ℕ) → text_of rk j (text_part (sealed rk h j label d)) ≡ d
  text-of-sealed d = ap (text_of rk j) (sealed-text rk h j label d) ∙ text_back rk j d

  pub sealed-of_opened : (s : List ℕ) → opens_under rk h j label s ≡ true → sealed rk h j label (text_of rk j (text_part s)) ≡ s
  unfolding opens_under sealed
  sealed-of_opened s e =
      let tag = same_equal (tag_part s) (tag_of rk h j label (text_part s)) e in
      rw (text_back rk j (text_part s)) (ap (λ (l : List ℕ). text_part s ++ l) (sym tag) ∙ take-append-drop (length s - 16) s)
