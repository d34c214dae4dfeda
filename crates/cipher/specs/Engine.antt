-- The engines: which of them a mark names, and the tables that two of them look up. The third goes by gates, and looks nothing up.
use Rattle.std.specs.Prelude.{Bool, cond, List, [], ◌∷◌, ℕ, zero, suc, ◌-◌, ◌*◌, ◌/◌, ◌%◌, ◌^◌, eqb}
use Rattle.cipher.specs.Sm4.{sbox_table, Sbox, L}
use Rattle.cipher.specs.declared.Engine.{Engine}
use Rattle.cipher.specs.declared.Engine.TheVariants.{FourTables, Gates, Plain}

-- entry b of table j, which has number k = 256 j + b: byte b by the S-box, at place j of a word, through L
abbrev pub mixed : ℕ → ℕ
mixed k = L (Sbox (k % 256) * 256 ^ (3 - k / 256))

-- n entries from number k on
unfoldable pub mixed_from : ℕ → ℕ → List ℕ
mixed_from zero k = []
mixed_from (suc n) k = mixed k ∷ mixed_from n (suc k)

-- the four tables, one after the other
unfoldable pub mixed_table : List ℕ
mixed_table = mixed_from 1024 0

-- the engine of a mark: 1 the four tables, 2 the gates, 3 the plain engine. Under any other the library chooses: the gates, or the four
-- tables where each block waits for the one before it.
unfoldable pub chosen : ℕ → Bool → Engine
chosen mark waits = cond (eqb mark 1) FourTables (cond (eqb mark 2) Gates (cond (eqb mark 3) Plain (cond waits FourTables Gates)))

-- what the rounds of an engine look up: four tables, nothing, or the S-box
abbrev pub table_of : Engine → List ℕ
table_of FourTables = mixed_table
table_of Gates = []
table_of Plain = sbox_table
