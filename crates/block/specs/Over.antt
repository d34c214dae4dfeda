-- Writing to the front of an output.
use Rattle.std.specs.Prelude.{List, ◌++◌, ℕ, length, drop}

-- the output o with p written over its front
abbrev pub over : List ℕ → List ℕ → List ℕ
over p o = p ++ drop (length p) o
