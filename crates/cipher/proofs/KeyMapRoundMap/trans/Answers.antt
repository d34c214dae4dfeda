-- L' after tau, as in the definition.
use Rattle.cipher.proofs.Names.{L', T', ◌∙◌, ap}
use Rattle.cipher.proofs.KeyMapRoundMap.trans.Goals as goal

pub returns : goal.returns
unfolding T'
returns c = c.l_prime_trans.ensures ∙ ap L' c.tau_trans.ensures
