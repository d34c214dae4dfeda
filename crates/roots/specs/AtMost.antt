-- Elements of the field that have a property, counted.
use mathlib.Core.List.{List, Mem, Nodup}
use Rattle.std.specs.Prelude.{ℕ, ◌*◌, ◌^◌, ◌≤◌, ◌<◌, length}
use Rattle.field.specs.Field.{Element}

-- every entry of the list is an element that has the property P, and no entry stands in it twice
pub record Having (P : ℕ → Type 0) (hs : List ℕ) : Type 0 where
  pub different : Nodup hs
  pub each : (h : ℕ) → Mem h hs → Element h × P h

-- no more than n elements have it
abbrev pub AtMost : ℕ → (ℕ → Type 0) → Type 0
AtMost n P = (hs : List ℕ) → Having P hs → length hs ≤ n

-- fewer than one element in n has it
abbrev pub FewerThanOneIn : ℕ → (ℕ → Type 0) → Type 0
FewerThanOneIn n P = (hs : List ℕ) → Having P hs → length hs * n < 2 ^ 128
