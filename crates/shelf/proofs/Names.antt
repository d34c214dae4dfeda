-- The names from outside this crate's proofs that they use, each with the module that has it.
pub use lib.Seq.{drop-append_seam, drop-paste, drop-set-lt, length-paste, paste, paste-zero, set-append_left, take-paste, take-take}
pub use mathlib.Core.Bool.{and-false, or-false, or-true}
pub use Rattle.block.proofs.Base.{Bool, List, [], ◌&&◌, ◌++◌, ◌*◌, ◌+◌, ◌-◌, ◌<◌, ◌^◌, ◌||◌, ◌∙◌, ◌∷◌, ◌≡◌, ◌≤◌, add-zero, ap, append_assoc}
pub use Rattle.block.proofs.Base.{append-nil, ap₂, arith, cond, drop, drop-append-add, drop-append-le, drop-cons, drop-drop}
pub use Rattle.block.proofs.Base.{drop_at, eq-eqb, eqb}
pub use Rattle.block.proofs.Base.{eqb-false, eqb-true, false, get_or, le-leb, le-ltb, leb, leb-true, length, length-append, length-drop}
pub use Rattle.block.proofs.Base.{length-set, length-take, length-take-le, lit<, lt-leb, lt-ltb, ltb, ltb-false, ltb-true, mod-eq_of_lt}
pub use Rattle.block.proofs.Base.{ne_eqb, rules, not, not-false, refl, set, sub-zero, suc, suc-add, sym, take, take-add, take_at}
pub use Rattle.block.proofs.Base.{take-append-drop, take-append-le, take-append_seam, take-length, take-nil, take-suc-set, true, zero}
pub use Rattle.block.proofs.Base.{zero-add, ℕ}
pub use Rattle.block.proofs.Convert.{bytes_of-number_of, length-bytes_of, number_of-bytes_of, number_of-lt}
pub use Rattle.block.proofs.Entries.{below_at, below-drop, below_each, below-take}
pub use Rattle.block.proofs.Same.{and_left, and_right, by_test}
pub use Rattle.block.proofs.Tails.{length_tailed, over-append, over-behind, returned, tailed}
pub use Rattle.block.specs.Below.{AreBytes}
unfoldable pub use Rattle.block.specs.BigEndian.{number_of, bytes_of}
pub use Rattle.block.specs.Over.{over}
pub use Rattle.block.specs.Words.{word_at}
pub use Rattle.label.proofs.LabelTells.{length_label}
unfoldable pub use Rattle.label.specs.Label.{label_of}
pub use Rattle.shelf.specs.Calls.{checked, holding, looked_up, new_record, put_in}
unfoldable pub use Rattle.shelf.specs.Calls.{collect_call, find_call, part_of, put_call}
pub use Rattle.shelf.specs.Records.{AllProper, Proper, Record, head_of, mark_of}
unfoldable pub use Rattle.shelf.specs.Records.{front, head_at, heads, marked, read_up_to, records, size_at, starts_record, stored, written}
pub use Rattle.shelf.specs.Shelf.{collected, current_of, is_current_of, size_of, superseded}
unfoldable pub use Rattle.shelf.specs.Shelf.{bad_shelf, fitted, has_current, not_higher, place_of, supersede, those, two_current, with_new}
pub use Rattle.shelf.specs.Steps.{InOrder, comes, heads_left, sound_up_to, stays}
unfoldable pub use Rattle.shelf.specs.Steps.{current_in, room_made, sound_from}
pub use Rattle.std.specs.Prelude.{Option, Some, None}
pub use Rattle.shelf.specs.declared.Found.{Found}
pub use Rattle.shelf.specs.declared.records.Head.{Head}
