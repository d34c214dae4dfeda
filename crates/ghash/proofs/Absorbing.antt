-- The hash state over bytes: one step after the other, along the rest of a list.
use Rattle.ghash.proofs.Names.{Absorbed, Ghash, List, U128, [], ◌*◌, ◌++◌, ◌-◌, ◌∙◌, ◌∷◌, ◌≡◌, ◌≤◌, auth_blocks}
use Rattle.ghash.proofs.Names.{block_number, blocks, drop, ghash, length, length_block, sym, take, up_to, value, ℕ}
use Rattle.ghash.proofs.Blocks.{lent_all}
use Rattle.ghash.proofs.Join.{hash-append}
use Rattle.ghash.proofs.Sets.{blocks_cut}

pub absorbed_same : {s r : Ghash} {b c : ℕ} → Absorbed s (b ∷ []) r → b ≡ c → Absorbed s (c ∷ []) r
absorbed_same a e = rw e at a

pub absorbed_both : (s r q : Ghash) (xs ys : List ℕ) → Absorbed s xs r → Absorbed r ys q → Absorbed s (xs ++ ys) q
absorbed_both s r q xs ys a b = record {
  key = b.key ∙ a.key;
  hash = b.hash ∙ rw (a.key, a.hash) (sym (hash-append (value s.h) (value s.y) xs ys));
}

-- the first k blocks and the rest, as `&bs[16 * k..]` is lent
pub absorbed_cut : (s r q : Ghash) (bs : List ℕ) (k : ℕ) → 16 * k ≤ length bs → Absorbed s (up_to k (block_number bs)) r
    → Absorbed r (blocks (take (length bs - 16 * k) (drop (16 * k) bs))) q → Absorbed s (blocks bs) q
absorbed_cut s r q bs k l a b = rw (lent_all bs (16 * k), blocks_cut k bs l) at (absorbed_both s r q _ _ a b)

-- a state that began at 0
pub hash-of : (h : U128) (s r : Ghash) (bs : List ℕ) → (s.h ≡ h) × (value s.y ≡ 0) → Absorbed s bs r → value r.y ≡ ghash (value h) bs
hash-of h s r bs e a = a.hash ∙ rw (e.1, e.0)

-- a label, a text and their lengths, from the start
pub absorbed_auth : (h : U128) (s a b r : Ghash) (label text : List ℕ) → (s.h ≡ h) × (value s.y ≡ 0)
    → Absorbed s (blocks label) a → Absorbed a (blocks text) b → Absorbed b (length_block (length label) (length text) ∷ []) r
    → value r.y ≡ ghash (value h) (auth_blocks label text)
unfolding auth_blocks
absorbed_auth h s a b r label text e p q l =
    hash-of h s r (auth_blocks label text) e (absorbed_both s a r _ _ p (absorbed_both a b r _ _ q l))
