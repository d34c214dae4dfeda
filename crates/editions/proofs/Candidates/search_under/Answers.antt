-- Without candidates none is found. Otherwise H and J0 are those of the keys and the IV, the mask is the cipher of J0, and what is kept
-- of the text is its blocks' own.
use Rattle.block.proofs.Base.{◌^◌, ◌∙◌, ℕ, ◌≡◌, refl, arith, eqb-true, rules, get_or, length, sym, w32, Fits}
use Rattle.block.proofs.Entries.{below_each}
use Rattle.cipher.proofs.Blocks.{encrypt-unwords}
use Rattle.gcm.specs.Gcm.{tag_of, opens_under}
use Rattle.cipher_mode.proofs.Passed.{with_tag_passed}
use Rattle.editions.proofs.Turns.{search-end}
use Rattle.editions.proofs.Candidates.search_under.Goals as goal

pub returns-then-is_empty : goal.returns-then-is_empty
returns-then-is_empty c =
    let none = eqb-true (length c.args.self.lengths.now) 0 (sym c.is_empty.ensures ∙ c.if-is_empty.true) in
    search-end c.args.self.lengths.now 0 (omega arith) _ _ 0 _ refl

pub text_part-requires : goal.text_part-requires
text_part-requires c = with_tag_passed _ c.requires.file_value

pub returns : goal.returns
unfolding opens_under tag_of
returns c =
    let j = c.first_counter.result in
    let four : length j ≡ 4 = search rules in
    let fits : (i : ℕ) → Fits w32 (get_or j i 0) = λ i. search rules in
    let spelled = below_each (2 ^ 32) j (λ i. (fits i).fits) in
    rw (c.search.ensures, c.encrypt-mask.ensures, encrypt-unwords _ j four spelled, c.first_counter.ensures)
    (rw c.hash_key-h.ensures)
