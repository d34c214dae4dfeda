-- The label of a job and an edition.
use Rattle.std.specs.Prelude.{ℕ, List, ◌++◌}
use Rattle.block.specs.BigEndian.{bytes_of}

-- the job in four bytes and the edition in two, the most significant byte first
unfoldable pub label_of : ℕ → ℕ → List ℕ
label_of job edition = bytes_of 4 job ++ bytes_of 2 edition
