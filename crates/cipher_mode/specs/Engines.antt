-- Which engine a message goes by: by the key's mark and, where that leaves it open, by whether its blocks wait for one another.
use Rattle.std.specs.Prelude.{ℕ, Bool, true, false}
use Rattle.cipher.specs.Engine.{chosen}
use Rattle.cipher.specs.declared.Engine.{Engine}
use Rattle.cipher_mode.specs.declared.CipherMode.{CipherMode}
use Rattle.cipher_mode.specs.declared.CipherMode.TheVariants.{Cfb, Ofb, Ctr, Cbc, Gcm}
use Rattle.cipher_mode.specs.declared.Direction.{Direction}
use Rattle.cipher_mode.specs.declared.Direction.TheVariants.{Encrypt, Decrypt}

abbrev pub forwards : Direction → Bool
forwards Encrypt = true
forwards Decrypt = false

-- whether each block waits for the one before it
abbrev pub waits : CipherMode → Direction → Bool
waits Cfb dir = forwards dir
waits Ofb dir = true
waits Ctr dir = false
waits Cbc dir = forwards dir
waits Gcm dir = false

abbrev pub engine_for : ℕ → CipherMode → Direction → Engine
engine_for mark mode dir = chosen mark (waits mode dir)
