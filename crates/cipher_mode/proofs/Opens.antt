-- Opening: what the call leaves, by what is decided of a padding or of a tag.
use Rattle.block.proofs.Base.{◌-◌, ℕ, ◌∙◌, ◌≡◌, ap, ap₂, refl, sym, Bool, cond, false, true, List, arith, length, take, take_all}
use Rattle.block.specs.Below.{AreBytes}
use Rattle.block.specs.Over.{over}
use Rattle.padding.specs.Padding.{unpadded, kept, opened_into}
use Rattle.padding.specs.declared.BadPadding.{BadPadding}
use Rattle.padding.specs.declared.BadPadding.TheVariants.{InvalidLastU8, InvalidPadding}
use Rattle.std.proofs.Common.{Result, Ok, Err}
use Rattle.padding.proofs.Into.{into}
use Rattle.cbc.specs.Cbc.{cbc_seal, cbc_text}
use Rattle.cbc.proofs.RoundTrip.{cbc_back}
use Rattle.gcm.specs.Gcm.{text_part, text_of, opens_under, text_into}
use Rattle.gcm.proofs.Settled.{into_refused, into_opened, text-size}
use Rattle.cipher_mode.specs.Outcome.{Head, Outcome, finished, refusal, refused, telling, leaving, reporting, written, done}
use Rattle.cipher_mode.specs.Answer.{padding_refusal, refusal_head}
use Rattle.cipher_mode.specs.Calls.{cbc_head, cbc_open, gcm_open}

-- a padding that is none is reported by its refusal
pub padding_head : (b : BadPadding) → refusal_head (padding_refusal b) ≡ cbc_head (Err b)
padding_head InvalidLastU8 = refl
padding_head InvalidPadding = refl

-- what is reported is what is written
reported : (a : Result ℕ BadPadding) → (cbc_head a).size ≡ kept a
reported (Ok n) = refl
reported (Err InvalidLastU8) = refl
reported (Err InvalidPadding) = refl

-- what `cbc::decrypt` leaves
pub cbc_left : (rk iv d o w : List ℕ) (a : Result ℕ BadPadding) → a ≡ unpadded (cbc_text rk iv d) → w ≡ opened_into (cbc_text rk iv d) o
    → leaving (cbc_head a) w ≡ cbc_open rk iv d o
unfolding cbc_open
cbc_left rk iv d o w a e f =
    let p = cbc_text rk iv d in
    ap₂ {C = Outcome} leaving refl (f ∙ into p o a (sym e) ∙ ap (λ (k : ℕ). over (take k p) o) (sym (reported a)))
    ∙ ap {B = Outcome} (λ (x : Result ℕ BadPadding). written (cbc_head x) p o) e

-- what Cbc sealed opens to its message, and no byte past it is written
pub cbc_opens_back : (rk iv d : List ℕ) → length iv ≡ 16 → AreBytes iv → AreBytes d → (o : List ℕ)
    → cbc_open rk iv (cbc_seal rk iv d) o ≡ done d o
cbc_opens_back rk iv d n bi bd o =
    let b = cbc_back rk iv d n bi bd o in
    sym (cbc_left rk iv (cbc_seal rk iv d) o (over d o) (Ok (length d)) (sym b.0) (sym b.1))

module _ (rk : List ℕ) (h : ℕ) (j label s o : List ℕ) where
  -- refused, with the output as it was lent
  pub open_refused : opens_under rk h j label s ≡ false → refused 4 o ≡ gcm_open rk h j label s o
  unfolding gcm_open
  open_refused closed = rw closed

  -- done, with the text at the front of the output
  pub open_done : opens_under rk h j label s ≡ true → done (text_of rk j (text_part s)) o ≡ gcm_open rk h j label s o
  unfolding gcm_open
  open_done opens =
      let n = text-size rk j s in
      rw (opens, take_all (length s - 16) (text_of rk j (text_part s)) (omega arith), n)

  -- what `gcm::decrypt` leaves, where b is told of the counter
  pub gcm_left : (t b : Bool) (x : Head) (w : List ℕ) → t ≡ opens_under rk h j label s → w ≡ text_into rk h j label s o
      → x ≡ cond t (telling b (finished (length s - 16))) (refusal 4) → leaving x w ≡ reporting b (gcm_open rk h j label s o)
  gcm_left true b x w e f g =
      ap₂ {C = Outcome} leaving (g ∙ ap (λ (n : ℕ). telling b (finished n)) (sym (text-size rk j s)))
      (f ∙ sym (into_opened rk h j label s o (sym e))) ∙ ap {B = Outcome} (reporting b) (open_done (sym e))
  gcm_left false b x w e f g =
      ap₂ {C = Outcome} leaving g (f ∙ sym (into_refused rk h j label s o (sym e))) ∙ ap {B = Outcome} (reporting b) (open_refused (sym e))
