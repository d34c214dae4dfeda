-- What is known of the lengths where the checks passed.
use Rattle.block.proofs.Base.{◌%◌, ◌≤◌, ℕ, ◌≡◌, refl, ◌⊎◌, inl, inr, Bool, ◌&&◌, false, not, true, arith, eqb-false, eqb-true}
use Rattle.block.proofs.Base.{ltb-false, not-false, eqb, ltb}
use Rattle.cipher_mode.specs.declared.KeyAnswer.{KeyAnswer}
use Rattle.cipher_mode.specs.declared.KeyAnswer.TheVariants.{Key, ErrorBlockSize as NoKey, WrongNumber as NoNumber}
use Rattle.cipher_mode.specs.declared.CipherMode.{CipherMode}
use Rattle.cipher_mode.specs.declared.CipherMode.TheVariants.{Cbc, Gcm}
use Rattle.cipher_mode.specs.declared.Direction.{Direction}
use Rattle.cipher_mode.specs.declared.Direction.TheVariants.{Decrypt}
use Rattle.cipher_mode.specs.declared.answer.Refusal.{Refusal}
use Rattle.std.proofs.Common.{Ok, Err}
use Rattle.cipher_mode.specs.declared.checks.Lengths.{Lengths}
use Rattle.cipher_mode.specs.Tables.{limit, limit_of, room_of}
use Rattle.cipher_mode.specs.Checks.{Checked, refuse, and_then, key_check, wrong_iv, retired_check, key_and_iv, label_check, shape_check, data_check}
use Rattle.cipher_mode.specs.Checks.{room_check, message_check, block_check}

-- a test that refused nothing does not hold, and what comes next passed
pub record LetThrough (test : Bool) (next : Checked) : Type 0 where
  pub fails : test ≡ false
  pub rest : next ≡ Ok tt

pub let_through : (test : Bool) (r : Refusal) (next : Checked) → refuse test r next ≡ Ok tt → LetThrough test next
let_through true r next e = let z : ◌≡◌ {A = ℕ} 0 1 = cc in absurd (omega arith)
let_through false r next e = record { fails = refl; rest = e }

pub both : (a b : Checked) → and_then a b ≡ Ok tt → (a ≡ Ok tt) × (b ≡ Ok tt)
both (Ok _) b e = (refl, e)
both (Err r) b e = let z : ◌≡◌ {A = ℕ} 0 1 = cc in absurd (omega arith)

is_key : (a : KeyAnswer) → key_check a ≡ Ok tt → a ≡ Key
is_key Key e = refl
is_key NoKey e = let z : ◌≡◌ {A = ℕ} 0 1 = cc in absurd (omega arith)
is_key NoNumber e = let z : ◌≡◌ {A = ℕ} 0 1 = cc in absurd (omega arith)

pub sixteen : (n : ℕ) → not (eqb n 16) ≡ false → n ≡ 16
sixteen n e = eqb-true n 16 (not-false (eqb n 16) e)

-- a key that stands, and may do what is asked with this IV
pub record KeyInOrder (a : KeyAnswer) (retired : Bool) (dir : Direction) (m : CipherMode) (iv : ℕ) : Type 0 where
  pub key : a ≡ Key
  pub iv-size : wrong_iv m iv ≡ false
  pub may : retired_check dir retired ≡ Ok tt

pub key-and-iv_passed : (a : KeyAnswer) (retired : Bool) (dir : Direction) (m : CipherMode) (iv : ℕ)
    → key_and_iv a retired dir m iv ≡ Ok tt → KeyInOrder a retired dir m iv
unfolding key_and_iv
key-and-iv_passed a retired dir m iv e =
    let from_key = both (key_check a) _ e in
    let from-iv = let_through (wrong_iv m iv) _ _ from_key.1 in
    record { key = is_key a from_key.0; iv-size = from-iv.fails; may = from-iv.rest }

-- an IV that Gcm takes
pub iv_twelve_or_sixteen : (n : ℕ) → wrong_iv Gcm n ≡ false → (n ≡ 12) ⊎ (n ≡ 16)
iv_twelve_or_sixteen n e = one_of (eqb n 12) refl e
  where
    one_of : (twelve : Bool) → eqb n 12 ≡ twelve → not twelve && not (eqb n 16) ≡ false → (n ≡ 12) ⊎ (n ≡ 16)
    one_of true t f = inl (eqb-true n 12 t)
    one_of false t f = inr (sixteen n f)

pub label_passed : (n : ℕ) → label_check Gcm n ≡ Ok tt → n ≤ limit
label_passed n e = ltb-false limit n (let_through (ltb limit n) _ _ e).fails

module _ (dir : Direction) (m : CipherMode) (n : ℕ) (e : data_check dir m n ≡ Ok tt) where
  pub data-within : n ≤ limit_of dir m
  unfolding data_check
  data-within = ltb-false (limit_of dir m) n (let_through (ltb (limit_of dir m) n) _ _ e).fails

  shaped : shape_check dir m n ≡ Ok tt
  unfolding data_check
  shaped = (let_through (ltb (limit_of dir m) n) _ _ e).rest

pub whole-blocks_passed : (n : ℕ) → data_check Decrypt Cbc n ≡ Ok tt → (16 ≤ n) × (n % 16 ≡ 0)
whole-blocks_passed n e =
    let some = let_through (eqb n 0) _ _ (shaped Decrypt Cbc n e) in
    let even = let_through (not (eqb (n % 16) 0)) _ _ some.rest in
    let z : n % 16 ≡ 0 = eqb-true (n % 16) 0 (not-false _ even.fails) in
    (omega (arith, eqb-false n 0 some.fails), z)

pub with_tag_passed : (n : ℕ) → data_check Decrypt Gcm n ≡ Ok tt → 16 ≤ n
with_tag_passed n e = ltb-false n 16 (let_through (ltb n 16) _ _ (shaped Decrypt Gcm n e)).fails

-- a message whose call goes on to work
pub record InOrder (a : KeyAnswer) (retired : Bool) (dir : Direction) (m : CipherMode) (n : Lengths) : Type 0 where
  pub key : a ≡ Key
  pub iv-size : wrong_iv m n.iv ≡ false
  pub may : retired_check dir retired ≡ Ok tt
  pub label : label_check m n.label ≡ Ok tt
  pub content : data_check dir m n.«data» ≡ Ok tt
  pub room : room_of m dir n.«data» ≤ n.room

pub message_passed : (a : KeyAnswer) (retired : Bool) (dir : Direction) (m : CipherMode) (n : Lengths)
    → message_check a retired dir m n ≡ Ok tt → InOrder a retired dir m n
unfolding message_check room_check
message_passed a retired dir m n e =
    let k = both (key_and_iv a retired dir m n.iv) _ e in
    let l = both (label_check m n.label) _ k.1 in
    let d = both (data_check dir m n.«data») _ l.1 in
    let first = key-and-iv_passed a retired dir m n.iv k.0 in
    let enough = ltb-false _ _ (let_through (ltb n.room (room_of m dir n.«data»)) _ _ d.1).fails in
    record { key = first.key; iv-size = first.iv-size; may = first.may; label = l.0; content = d.0; room = enough }

pub record BlockInOrder (a : KeyAnswer) (retired : Bool) (dir : Direction) (n room : ℕ) : Type 0 where
  pub key : a ≡ Key
  pub size : n ≡ 16
  pub may : retired_check dir retired ≡ Ok tt
  pub enough : 16 ≤ room

pub block_passed : (a : KeyAnswer) (retired : Bool) (dir : Direction) (n room : ℕ)
    → block_check a retired dir n room ≡ Ok tt → BlockInOrder a retired dir n room
unfolding block_check
block_passed a retired dir n room e =
    let from_key = both (key_check a) _ e in
    let from-size = let_through (not (eqb n 16)) _ _ from_key.1 in
    let from-mark = both (retired_check dir retired) _ from-size.rest in
    let r = let_through (ltb room 16) _ _ from-mark.1 in
    record { key = is_key a from_key.0; size = sixteen n from-size.fails; may = from-mark.0; enough = ltb-false room 16 r.fails }
