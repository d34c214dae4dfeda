-- Blocks as arrays hand them over: so many entries, each of which fits its type.
use Rattle.pieces.proofs.Names.{AreBytes, Fits, List, ◌^◌, ◌≡◌, below_each, encrypt-unwords, encrypt_block, encrypt_words, get_or}
use Rattle.pieces.proofs.Names.{length, unwords, unwords-words, w32, w8, words, ℕ}
use Rattle.pieces.proofs.Names.{◌<◌, ◌∙◌, arith, replicate, sym, Flow, Hashing}
use Rattle.std.proofs.lemmas.List.{length-replicate}
use Rattle.std.proofs.lemmas.Grind.{same_number_lists}
use Rattle.std.specs.Array.{AllOfLen}
use Rattle.ghash.proofs.Blocks.{get_or-zeros}
use Rattle.pieces.specs.States.{no_flow, no_hashing}

-- sixteen bytes
abbrev pub Sixteen : List ℕ → Type 0
Sixteen b = (length b ≡ 16) × ((i : ℕ) → Fits w8 (get_or b i 0))

pub are_bytes : (b : List ℕ) → Sixteen b → AreBytes b
are_bytes b h = below_each 256 b (λ i. (h.1 i).fits)

-- their words spell them
pub spelt : (b : List ℕ) → Sixteen b → unwords (words b) ≡ b
spelt b h = unwords-words b h.0 (are_bytes b h)

-- the cipher of four words is that of the bytes that they spell
pub ciphered-words : (rk s : List ℕ) → length s ≡ 4 → ((i : ℕ) → Fits w32 (get_or s i 0))
    → unwords (encrypt_words rk s) ≡ encrypt_block rk (unwords s)
ciphered-words rk s n fits = encrypt-unwords rk s n (below_each (2 ^ 32) s (λ i. (fits i).fits))

-- zeros are the default of arrays, and of a flow and a hash, which are arrays
zeros : (xs : List ℕ) (n : ℕ) → AllOfLen (λ (x : ℕ). x ≡ 0) xs n → xs ≡ replicate n 0
zeros xs n z =
    same_number_lists xs (replicate n 0) (z.long ∙ sym (length-replicate n 0))
    (λ k h. let low : k < n = omega (arith, z.long) in z.at k 0 low ∙ sym (get_or-zeros n k))

abbrev Zeros : List ℕ → Type 0
Zeros xs = AllOfLen (λ (x : ℕ). x ≡ 0) xs 16

pub flow_zeros : (f : Flow) → Zeros f.counter × Zeros f.pad → f ≡ no_flow
flow_zeros f z = rw (zeros f.counter 16 z.0, zeros f.pad 16 z.1)

pub hashing_zeros : (g : Hashing) → Zeros g.h × (Zeros g.y × Zeros g.held) → g ≡ no_hashing
hashing_zeros g z = rw (zeros g.h 16 z.0, zeros g.y 16 z.1.0, zeros g.held 16 z.1.1)
