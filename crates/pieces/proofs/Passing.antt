-- What is known where the checks of a piece or of an end passed, and that a state that stands at 0 passes.
use Rattle.pieces.proofs.Names.{Bool, Direction, Ended, ErrorBlockSize, Fits, Hashable, KeyAnswer, Ok, Err, Retired, TooLong}
use Rattle.pieces.proofs.Names.{WrongIv, WrongNumber, ◌+◌, ◌≡◌, ◌≤◌, arith, both, cond, eq-eqb, eqb, eqb-true, false, gcm_starting}
use Rattle.pieces.proofs.Names.{key-and-iv_passed, key_and_iv, label_passed, le-ltb, let_through, limit, ltb, ltb-false, not, refl}
use Rattle.pieces.proofs.Names.{refuse, running, sixteen, standing, tagged, true, w64, writing, wrong_iv, ℕ}
use Rattle.cipher_mode.specs.declared.CipherMode.TheVariants.{Gcm}

-- a state that runs, and n bytes more
pub record Runs (mark label total n : ℕ) : Type 0 where
  pub stands : mark ≡ 0
  pub labelled : label ≤ limit
  pub within : total + n ≤ limit

-- so no sum wraps, and both lengths can be hashed
pub sum_fits : {mark label total n : ℕ} → Runs mark label total n → Fits w64 (total + n)
sum_fits r = record { fits = omega (arith, r.within) }

pub both_hashable : {mark label total : ℕ} → Runs mark label total 0 → Hashable label × Hashable total
both_hashable r = (omega (arith, r.labelled), omega (arith, r.within))

-- an IV that Gcm takes, and a label within the limit
pub record GcmStarts (iv label : ℕ) : Type 0 where
  pub taken : wrong_iv Gcm iv ≡ false
  pub labelled : label ≤ limit

pub starting_passed : (a : KeyAnswer) (retired : Bool) (dir : Direction) (iv label : ℕ)
    → gcm_starting a retired dir iv label ≡ Ok tt → GcmStarts iv label
unfolding gcm_starting
starting_passed a retired dir iv label e =
    let from_key = both (key_and_iv a retired dir Gcm iv) _ e in
    record { taken = (key-and-iv_passed a retired dir Gcm iv from_key.0).iv-size; labelled = label_passed label from_key.1 }

-- every mark but 0 is refused
not-refused : (t a b d f g : Bool)
    → cond t (Ok tt)
    (refuse a ErrorBlockSize (refuse b TooLong (refuse d WrongIv (refuse f WrongNumber (refuse g Retired (Err Ended))))))
    ≡ Ok tt → t ≡ true
not-refused true a b d f g e = refl
not-refused false a b d f g e =
    let third = (let_through d _ _ (let_through b _ _ (let_through a _ _ e).rest).rest).rest in
    let last = (let_through g _ _ (let_through f _ _ third).rest).rest in
    let z : ◌≡◌ {A = ℕ} 0 1 = cc in absurd (omega arith)

module _ (mark label total : ℕ) where
  pub running_passed : (n : ℕ) → running mark label total n ≡ Ok tt → Runs mark label total n
  unfolding running standing
  running_passed n e =
      let from-mark = both (standing mark) _ e in
      let from-label = let_through (ltb limit label) _ _ from-mark.1 in
      record {
        stands =
            eqb-true mark 0
            (not-refused (eqb mark 0) (eqb mark 1) (eqb mark 5) (eqb mark 10) (eqb mark 13) (eqb mark 14) from-mark.0);
        labelled = ltb-false limit label from-label.fails;
        within = ltb-false limit (total + n) (let_through (ltb limit (total + n)) _ _ from-label.rest).fails;
      }

  pub writing_passed : (n written room : ℕ) → writing mark label total n written room ≡ Ok tt → Runs mark label total n × (written ≤ room)
  unfolding writing
  writing_passed n written room e =
      let from-state = both (running mark label total n) _ e in
      (running_passed n from-state.0, ltb-false room written (let_through (ltb room written) _ _ from-state.1).fails)

  pub tagged_passed : (tag : ℕ) → tagged mark label total tag ≡ Ok tt → Runs mark label total 0 × (tag ≡ 16)
  unfolding tagged
  tagged_passed tag e =
      let from-state = both (running mark label total 0) _ e in
      (running_passed 0 from-state.0, sixteen tag (let_through (not (eqb tag 16)) _ _ from-state.1).fails)

-- and the other way round
module _ (label total : ℕ) (labelled : label ≤ limit) where
  pub running_passes : (n : ℕ) → total + n ≤ limit → running 0 label total n ≡ Ok tt
  unfolding running standing
  running_passes n h = rw (le-ltb limit label labelled, le-ltb limit (total + n) h)

  pub writing_passes : (n written room : ℕ) → total + n ≤ limit → written ≤ room → writing 0 label total n written room ≡ Ok tt
  unfolding writing
  writing_passes n written room h k = rw (running_passes n h, le-ltb room written k)

  pub tagged_passes : (tag : ℕ) → total + 0 ≤ limit → tag ≡ 16 → tagged 0 label total tag ≡ Ok tt
  unfolding tagged
  tagged_passes tag h k = rw (running_passes 0 h, eq-eqb tag 16 k)
