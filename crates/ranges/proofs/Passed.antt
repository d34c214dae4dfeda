-- What is known where a range goes on to its work.
use Rattle.ranges.proofs.Names.{Bool, Direction, KeyAnswer, Ok, ◌≡◌, both, key-and-iv_passed, key_and_iv, reach_check, sixteen, ℕ}
use Rattle.cipher_mode.specs.declared.CipherMode.TheVariants.{Ctr}

module _ (a : KeyAnswer) (retired : Bool) (dir : Direction) (iv : ℕ) where
  -- the IV of a stretch that is reached is a block
  pub reach_passed : (end : ℕ) → reach_check a retired dir iv end ≡ Ok tt → iv ≡ 16
  unfolding reach_check
  reach_passed end e = sixteen iv (key-and-iv_passed a retired dir Ctr iv (both (key_and_iv a retired dir Ctr iv) _ e).0).iv-size
