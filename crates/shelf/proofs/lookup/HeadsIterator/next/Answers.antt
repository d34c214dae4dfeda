-- The head of the record at the front, and behind it the heads of what is behind it.
use Rattle.shelf.proofs.Names.{Head, List, None, Some, ◌-◌, ◌<◌, ◌∙◌, ◌∷◌, ◌≡◌, arith, drop, head_at, heads, length, rules, sym, take, ℕ}
use Rattle.shelf.proofs.Reading.{heads-none, no_head, past_head}
use Rattle.std.proofs.lemmas.List.{take_rest}
use Rattle.shelf.proofs.lookup.HeadsIterator.next.Goals as goal

-- what is behind the head
behind : (b : List ℕ) (h : Head) → Some h ≡ head_at b → heads b ≡ h ∷ heads (take (length b - h.size) (drop h.size b))
behind b h e = (past_head b e).0 ∙ rw (take_rest b h.size)

pub returns-in_err-head-clause-steps : goal.returns-in_err-head-clause-steps
returns-in_err-head-clause-steps c =
    let b = c.args.self.now.0.now in
    let e : None ≡ head_at b = sym c.in_err-head.was ∙ c.front.ensures in
    let none = heads-none b (no_head b e) in
    rw c.from_residual.ensures (none, none)

pub slice_bounds-self-count : goal.slice_bounds-self-count
slice_bounds-self-count c = (past_head c.args.self.now.0.now (sym c.in_ok-head.was ∙ c.front.ensures)).1

pub slice_bounds-self-start : goal.slice_bounds-self-start
slice_bounds-self-start c = let p = past_head c.args.self.now.0.now (sym c.in_ok-head.was ∙ c.front.ensures) in search rules

pub returns-clause-steps : goal.returns-clause-steps
returns-clause-steps c = behind c.args.self.now.0.now c.in_ok-head.head (sym c.in_ok-head.was ∙ c.front.ensures)

pub returns-clause-goes : goal.returns-clause-goes
returns-clause-goes c =
    let b = c.args.self.now.0.now in
    let h = c.in_ok-head.head in
    let step = behind b h (sym c.in_ok-head.was ∙ c.front.ensures) in
    let shorter : length (heads (take (length b - h.size) (drop h.size b))) < length (heads b) = rw step (omega arith) in
    search rules
