-- Where H is 0 every hash is 0, whatever the label and the text: all that was sealed opens under any label.
use Rattle.ghash.proofs.Names.{List, [], ◌∙◌, ◌∷◌, ◌≡◌, ◌⊕◌, ap, ghash, gmul-zero, hash_from, refl, ℕ}

pub ghash-zero-key : (bs : List ℕ) → ghash 0 bs ≡ 0
unfolding hash_from
ghash-zero-key [] = refl
ghash-zero-key (b ∷ bs) = ap (λ (y : ℕ). hash_from 0 y bs) (gmul-zero (0 ⊕ b)) ∙ ghash-zero-key bs
