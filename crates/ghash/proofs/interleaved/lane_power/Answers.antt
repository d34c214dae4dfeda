-- Each square doubles the exponent (`doubled`).
use Rattle.ghash.proofs.Names.{Element, ◌+◌, ◌∙◌, ◌≡◌, arith, gmul, gpow, gpow-add, power-one, sym, value, whole-lt, ℕ, ⊎_elim}
use Rattle.ghash.proofs.interleaved.lane_power.Goals as goal

doubled : (h : ℕ) → Element h → (k v w : ℕ) → v ≡ gpow h k → w ≡ gmul v v → w ≡ gpow h (k + k)
doubled h e k v w ev ew = ew ∙ rw ev (gpow-add h e k k)

eight : (h a b c : ℕ) → Element h → a ≡ gmul h h → b ≡ gmul a a → c ≡ gmul b b → c ≡ gpow h 8
eight h a b c e p q r = doubled h e 4 b c (doubled h e 2 a b (doubled h e 1 h a (sym (power-one h e)) p) q) r

pub returns-then-n-eq8 : goal.returns-then-n-eq8
returns-then-n-eq8 c =
    let h = c.args.h in
    rw c.if-n-eq8.true
    (eight (value h) _ _ _ (whole-lt h.high h.low (omega arith) (omega arith)) c.squared-to2.ensures c.squared-to4.ensures c.squared-to8.ensures)

pub returns-else-n-eq8 : goal.returns-else-n-eq8
returns-else-n-eq8 c =
    let h = c.args.h in
    let e : Element (value h) = whole-lt h.high h.low (omega arith) (omega arith) in
    let is : c.args.n ≡ 16 = ⊎_elim (λ (e : c.args.n ≡ 8). absurd (omega (arith, c.if-n-eq8.false))) (λ (e : c.args.n ≡ 16). e) c.requires in
    rw is (doubled (value h) e 8 _ _ (eight (value h) _ _ _ e c.squared-to2.ensures c.squared-to4.ensures c.squared-to8.ensures) c.squared.ensures)
