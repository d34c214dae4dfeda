-- What the words of a plane hold are its lanes.
use Rattle.sliced.proofs.Names.{AreWords, Held, List, ◌%◌, ◌*◌, ◌+◌, ◌/◌, ◌<◌, ◌^◌, ◌∙◌, ◌≡◌, ap₂, arith, bit, bit-pack, bit-small}
use Rattle.sliced.proofs.Names.{get_or, lane, lanes, length, pack_is, pack-lt, set, sym, word_more, ℕ}

-- the bits of lane e
module _ (x : List ℕ) (e : ℕ) where
  small : (i : ℕ) → bit (e / 8) (get_or x (8 * i + e % 8) 0) < 2
  small i = bit-small (e / 8) (get_or x (8 * i + e % 8) 0)

  pub lane-lt : lane x e < 2 ^ 32
  unfolding lane
  lane-lt = pack-lt 32 _ small

  pub lane-bit : (i : ℕ) → i < 32 → bit (e / 8) (get_or x (8 * i + e % 8) 0) ≡ bit i (lane x e)
  unfolding lane
  lane-bit i h = sym (bit-pack 32 _ small i h)

  pub lane_is : (v : ℕ) → v < 2 ^ 32 → ((i : ℕ) → i < 32 → bit (e / 8) (get_or x (8 * i + e % 8) 0) ≡ bit i v) → lane x e ≡ v
  unfolding lane
  lane_is v l h = pack_is 32 _ v small l h

pub lanes-words : (a b c d : List ℕ) (e : ℕ) → AreWords (lanes a b c d e)
lanes-words a b c d e = (lane-lt a e, (lane-lt b e, (lane-lt c e, (lane-lt d e, tt))))

pub held_lane : (x : List ℕ) (n : ℕ) → Held (lane x) n 256 x
held_lane x n p k hp hc hk =
    let e = 8 * k + p % 8 in
    let a : k ≡ e / 8 = omega arith in
    let b : p ≡ 8 * (p / 8 % 32) + e % 8 = omega arith in
    ap₂ (λ (u v : ℕ). bit u (get_or x v 0)) a b ∙ lane-bit x e (p / 8 % 32) (omega arith)

pub lane_held : (f : ℕ → ℕ) (n : ℕ) (x : List ℕ) → Held f n 256 x → (e : ℕ) → e < 512 → e % 8 < n → f e < 2 ^ 32 → lane x e ≡ f e
lane_held f n x h e he hc hf =
    lane_is x e (f e) hf
    (λ i hi.
    let p = 8 * i + e % 8 in
    let a : p / 8 % 32 ≡ i = omega arith in
    let b : 8 * (e / 8) + p % 8 ≡ e = omega arith in
    h p (e / 8) (omega arith) (omega arith) (omega arith) ∙ ap₂ (λ (u v : ℕ). bit u (f v)) a b)

-- one word more
pub held_next : (f : ℕ → ℕ) (n i v : ℕ) (s : List ℕ) → i < length s
    → ((k : ℕ) → i % 8 < n → k < 64 → bit k v ≡ bit (i / 8 % 32) (f (8 * k + i % 8))) → Held f n i s → Held f n (i + 1) (set s i v)
held_next f n i v s h g H p k hp hc hk =
    word_more i v s h (λ q x. q % 8 < n → bit k x ≡ bit (q / 8 % 32) (f (8 * k + q % 8))) (λ c. g k c hk) (λ q l c. H q k l c hk) p hp hc
