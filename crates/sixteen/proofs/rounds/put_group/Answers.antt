use Rattle.sixteen.proofs.Names.{◌*◌, ◌+◌, ◌/◌, ◌<◌, ◌^◌, ◌∙◌, arith, get_or, mod-eq_of_lt, rules, sym}
use Rattle.sixteen.proofs.Filling.{each_two}
use Rattle.sixteen.proofs.rounds.put_group.Goals as goal

pub loop-i-preserved : goal.loop-i-preserved
loop-i-preserved c =
    let l = c.loop-i in
    let p = 16 * c.args.g + 2 * l.i in
    λ f E H j h.
    let e = H l.i (search rules) in
    let z = get_or c.args.z l.i 0 in
    let high : z / 2 ^ 32 < 2 ^ 32 = search rules in
    each_two f p _ _ l.s (omega arith) (sym e.0) (sym (e.1 ∙ mod-eq_of_lt high)) (l.invariant f E H) j (omega arith)

pub returns : goal.returns
returns c = λ f E H j h. c.loop-i.invariant f E H j (omega arith)
