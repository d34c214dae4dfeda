-- The blocks of a list of bytes are elements of the field, and with the list's length they tell it.
use Rattle.block.proofs.Base.{◌*◌, ◌≤◌, suc, zero, ℕ, ◌∙◌, ◌≡◌, refl, List, [], ◌∷◌, arith, drop, length}
use Rattle.block.proofs.Base.{length-drop}
use Rattle.block.specs.Below.{AreBytes}
use Rattle.block.proofs.Entries.{below-drop}
use Rattle.ghash.specs.Ghash.{blocks_from, block_count, blocks}
use Rattle.ghash.proofs.Blocks.{block_of-lt, block_of-same, parts_same}
use Rattle.roots.proofs.Horner.{Elements}

blocks_from_elements : (k : ℕ) (bs : List ℕ) → AreBytes bs → Elements (blocks_from k bs)
unfolding blocks_from
blocks_from_elements zero bs h = tt
blocks_from_elements (suc k) bs h = (block_of-lt bs h, blocks_from_elements k (drop 16 bs) (below-drop 256 16 bs h))

pub blocks_elements : (bs : List ℕ) → AreBytes bs → Elements (blocks bs)
unfolding blocks
blocks_elements bs h = blocks_from_elements (block_count (length bs)) bs h

blocks_from-same : (k : ℕ) (a b : List ℕ) → length a ≤ 16 * k → length a ≡ length b → AreBytes a → AreBytes b
    → blocks_from k a ≡ blocks_from k b → a ≡ b
unfolding blocks_from
blocks_from-same zero [] [] h l ha hb e = refl
blocks_from-same zero [] (y ∷ b) h l ha hb e = absurd (omega arith)
blocks_from-same zero (x ∷ a) b h l ha hb e = absurd (omega arith)
blocks_from-same (suc k) a b h l ha hb e =
    parts_same 16 a b (block_of-same a b l ha hb (cc))
    (blocks_from-same k (drop 16 a) (drop 16 b) (simp length-drop (omega arith)) (simp length-drop (rw l))
    (below-drop 256 16 a ha) (below-drop 256 16 b hb) (cc))

-- lists of one length that make the same blocks are the same
pub blocks-same : (a b : List ℕ) → length a ≡ length b → AreBytes a → AreBytes b → blocks a ≡ blocks b → a ≡ b
unfolding blocks
blocks-same a b l ha hb e = blocks_from-same (block_count (length a)) a b (omega arith) l ha hb (e ∙ rw l)
