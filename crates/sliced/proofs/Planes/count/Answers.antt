-- In each lane the last word of c and the lane's number are added, and what is carried to the other words.
use Rattle.sliced.proofs.Names.{AreWords, Fits, ◌^◌, below_each, blank_room, get_or, rules, number_at, w32, ℕ}
use Rattle.sliced.proofs.CounterDigits.{added-number, added_carry, lanes-counted}
use Rattle.sliced.proofs.Planes.count.Goals as goal

pub returns : goal.returns
returns c =
    let x = c.args.c in
    let fits : (i : ℕ) → Fits w32 (get_or x i 0) = λ i. search rules in
    let small : AreWords x = below_each (2 ^ 32) x (λ i. (fits i).fits) in
    let blank = c.requires in
    λ e he.
    lanes-counted x _ _ _ _ c.add_word-y3.result c.keep_carries.result (number_at e) e _ _ _ small
    (added-number _ _ _ _ _ (number_at e) e c.add_word-y3.ensures he (c.numbers.ensures.numbered e he) (blank_room 8))
    (added_carry _ _ _ _ _ e c.add_word-y2.ensures he blank.2) (added_carry _ _ _ _ _ e c.add_word-y1.ensures he blank.1)
    (added_carry _ _ _ _ _ e c.add_word.ensures he blank.0) c.args.wide c.keep_carries.ensures
