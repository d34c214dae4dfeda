-- The words that are loaded are those of the blocks, those that are stored their ciphers.
use Rattle.sixteen.proofs.Names.{List, ◌∙◌, ap, cat, cat-same, encrypt_block, encrypt_words, lt_of_lt_of_le, over, refl, unwords}
use Rattle.sixteen.proofs.encrypt.Goals as goal

pub returns-then-m-eq0 : goal.returns-then-m-eq0
returns-then-m-eq0 c = unfold cat in rw c.if-m-eq0.true refl

pub returns : goal.returns
returns c = unfold encrypt_block in
    let a = c.args in
    c.store.ensures ∙ ap (λ (l : List _). over l (a.out.now)) (cat-same a.m _ _
    (λ j h. ap unwords (c.all_rounds.ensures j (lt_of_lt_of_le h c.whole_fours.ensures.0)
    ∙ ap (encrypt_words a.rk) (c.load.ensures j h))))
