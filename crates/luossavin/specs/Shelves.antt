-- The exported calls on a shelf: what a host's answer spells. What each call leaves is defined in `shelf`.
use Rattle.std.specs.Prelude.{ℕ, List}
use Rattle.shelf.specs.Calls.{Outcome, Place}
use Rattle.luossavin.specs.declared.shelves.LuossavinShelf.{LuossavinShelf}
use Rattle.luossavin.specs.declared.shelves.LuossavinShelved.{LuossavinShelved}

-- the outcome of a host's answer with the buffer
abbrev pub shelf_reported : LuossavinShelf → List ℕ → Outcome
shelf_reported r shelf = record { number = r.number; used = r.used; bytes = shelf }

abbrev pub shelved_reported : LuossavinShelved → Place
shelved_reported r = record { number = r.number; start = r.start; size = r.length }
