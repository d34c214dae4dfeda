-- `cipher_mode::work::Message::by_gcm` meets its contract: with the start of keys and IV, as long as the table says or as `gcm::decrypt`.
use Rattle.block.proofs.Base.{◌-◌, ◌^◌, ◌<◌, ◌≤◌, ℕ, ◌∙◌, ◌≡◌, ap, ap₂, refl, sym, Bool, cond, false, true, List, arith, rules, get_or, length}
use Rattle.block.proofs.Base.{w32, Fits}
use Rattle.counter.specs.Counter.{last_four}
use Rattle.counter.specs.CameRound.{blocks_of, gcm_came_round}
use Rattle.counter.proofs.Steps.{last-four}
use Rattle.cipher_mode.specs.Outcome.{Head, Outcome, finished, refusal, telling, leaving, reporting}
use Rattle.block.specs.Over.{over}
use Rattle.block.specs.Words.{unwords}
use Rattle.gcm.specs.Gcm.{hash_key, J0, sealed, opens_under, text_into}
use Rattle.gcm.proofs.Parts.{length-sealed}
use Rattle.cipher_mode.specs.Tables.{limit}
use Rattle.cipher_mode.specs.Calls.{gcm_round, gcm_open, gcm_result}
use Rattle.cipher_mode.specs.declared.Direction.TheVariants.{Decrypt}
use Rattle.cipher_mode.proofs.Passed.{label_passed, data-within, with_tag_passed}
use Rattle.cipher_mode.proofs.Ends.{reached, told_of}
use Rattle.cipher_mode.proofs.Opens.{gcm_left}
use Rattle.cipher_mode.proofs.work.Message.by_gcm.Goals as goal

pub text_length-n-requires : goal.text_length-n-requires
text_length-n-requires c e = with_tag_passed _ (rw e at c.requires.data_value)

pub encrypt-requires-clause-hashable : goal.encrypt-requires-clause-hashable
encrypt-requires-clause-hashable c =
    let label = label_passed (length (c.args.self.now.aad.now)) c.requires.aad_value in
    let within : length (c.args.self.now.«data».now) ≤ limit = rw c.in-Encrypt.is at (data-within _ _ _ c.requires.data_value) in
    (omega (arith, label), omega (arith, within))

pub encrypted_length-requires : goal.encrypted_length-requires
encrypted_length-requires c = rw c.in-Encrypt.is at (data-within _ _ _ c.requires.data_value)

pub decrypt-requires-clause-hashable : goal.decrypt-requires-clause-hashable
decrypt-requires-clause-hashable c =
    let label = label_passed (length (c.args.self.now.aad.now)) c.requires.aad_value in
    let within = data-within _ _ _ (rw c.in-Decrypt.is at c.requires.data_value) in
    (omega (arith, label), omega (arith, within))

pub decrypt-requires-clause-in_bounds : goal.decrypt-requires-clause-in_bounds
decrypt-requires-clause-in_bounds c =
    (with_tag_passed _ (rw c.in-Decrypt.is at c.requires.data_value), rw c.in-Decrypt.is at c.requires.data_in_bounds)

-- what is told of the counter: J0's last word is the number in its last four bytes
round : (rk iv j : List ℕ) (b : Bool) (m n : ℕ) → get_or j 3 0 < 2 ^ 32 → unwords j ≡ J0 rk iv → m ≡ n
    → b ≡ gcm_came_round (get_or j 3 0) (blocks_of m) → b ≡ gcm_round rk iv n
round rk iv j b m n small is_j k e =
    e ∙ ap₂ (λ (low size : ℕ). gcm_came_round low (blocks_of size)) (sym (last-four j small) ∙ ap last_four is_j) k

pub returns-in-Encrypt : goal.returns-in-Encrypt
returns-in-Encrypt c =
    let a = c.args.self.now in
    let aad = a.aad.now in
    let d = a.«data».now in
    let o = c.args.out.now in
    let iv = a.iv.now in
    let j = J0 a.rk iv in
    let s = c.start-begun in
    let small : Fits w32 (get_or s.result.j0 3 0) = search rules in
    rw c.in-Encrypt.is (told_of _ _ _ _ _
    (round a.rk iv s.result.j0 c.gcm_came_round-came_round.result _ (length d) small.fits s.ensures.j0_value
    (c.text_length-n.ensures.0 c.in-Encrypt.is) c.gcm_came_round-came_round.ensures)
    (reached (sealed a.rk (hash_key a.rk) j aad d) o _ _
    (length-sealed a.rk (hash_key a.rk) j aad d ∙ sym c.encrypted_length.ensures) (c.encrypt.ensures
    ∙ ap₂ (λ (h : ℕ) (j : List ℕ). over (sealed a.rk h j aad d) o) s.ensures.h_value s.ensures.j0_value)) refl)

-- what opening leaves, by H and J0 as they were made at the start
settled : (rk : List ℕ) (h : ℕ) (j aad d iv o w : List ℕ) (t b : Bool) (x : Head) → h ≡ hash_key rk → j ≡ J0 rk iv
    → b ≡ gcm_round rk iv (length d - 16) → t ≡ opens_under rk h j aad d → w ≡ text_into rk h j aad d o
    → x ≡ cond t (telling b (finished (length d - 16))) (refusal 4) → leaving x w ≡ gcm_result Decrypt rk aad d iv o
settled rk h j aad d iv o w t b x is_h is_j is_round e f told =
    gcm_left rk h j aad d o t b x w e f told
    ∙ ap₂ {C = Outcome} (λ (h : ℕ) (j : List ℕ). reporting b (gcm_open rk h j aad d o)) is_h is_j
    ∙ ap {B = Outcome} (λ (t : Bool). reporting t (gcm_open rk (hash_key rk) (J0 rk iv) aad d o)) is_round

pub returns-then-decrypt : goal.returns-then-decrypt
returns-then-decrypt c =
    let a = c.args.self.now in
    let s = c.start-begun in
    let b = c.gcm_came_round-came_round in
    let n = c.text_length-n.ensures.1 c.in-Decrypt.is in
    let small : Fits w32 (get_or s.result.j0 3 0) = search rules in
    rw c.in-Decrypt.is (settled a.rk _ _ (a.aad.now) (a.«data».now) (a.iv.now) (c.args.out.now) _ true b.result _
    s.ensures.h_value s.ensures.j0_value
    (round a.rk (a.iv.now) s.result.j0 b.result _ _ small.fits s.ensures.j0_value n b.ensures)
    (sym c.if-decrypt.true ∙ c.decrypt.ensures.value) c.decrypt.ensures.out_after
    (ap (λ (k : ℕ). telling b.result (finished k)) n))

pub returns-else-decrypt : goal.returns-else-decrypt
returns-else-decrypt c =
    let a = c.args.self.now in
    let s = c.start-begun in
    let b = c.gcm_came_round-came_round in
    let n = c.text_length-n.ensures.1 c.in-Decrypt.is in
    let small : Fits w32 (get_or s.result.j0 3 0) = search rules in
    rw c.in-Decrypt.is (settled a.rk _ _ (a.aad.now) (a.«data».now) (a.iv.now) (c.args.out.now) _ false b.result _
    s.ensures.h_value s.ensures.j0_value
    (round a.rk (a.iv.now) s.result.j0 b.result _ _ small.fits s.ensures.j0_value n b.ensures)
    (sym c.if-decrypt.false ∙ c.decrypt.ensures.value) c.decrypt.ensures.out_after refl)
