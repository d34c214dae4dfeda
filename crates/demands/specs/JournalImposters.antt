-- Calls that look like the replay of a journal to a careless test, and are not.
use Rattle.demands.specs.Names as N
use Rattle.std.specs.Prelude.{◌∷◌}
use N.{false, Option, None, Some, List, [], ℕ, ltb, replicate, take, word_at, Encrypt, Key, Entry, from_label, part_limit, bad_keys}
use N.{journal_refuse as refuse, replay, nothing, report_of, BadKeys, TooLongJournal as TooLong, Difference, Replayed, Keys}

-- replays a journal up to the first record that differs, and stops there
abbrev pub stops_at : Option Difference → Keys → List ℕ → Replayed
stops_at None k journal = replay k journal
stops_at (Some first) k journal = replay k (take first.place journal)

abbrev pub stops_at_difference : Keys → List ℕ → Replayed
stops_at_difference k journal = stops_at (report_of (replay k journal)).first k journal

-- replays a journal, and looks at the length of the first label before it looks whether the record is cut
abbrev pub too_long_first : Keys → List ℕ → Replayed
too_long_first k journal =
    refuse (bad_keys k) BadKeys 0 nothing
    (refuse (ltb part_limit (word_at (from_label journal) 0)) TooLong 0 nothing
    (replay k journal))

-- what they are held to: the key of number 1; a call under it in the unknown mode 5, recorded as done; and a record that states a label of
-- 16,385 bytes, and is cut behind that
abbrev pub one_key : Keys
one_key = record { count = 1; keys = replicate 8 (record { rk = replicate 32 0; answer = Key; number = 1; retired = false; engine = 0 }) }

abbrev pub unknown_done : Entry
unknown_done =
    record { direction = Encrypt; mode = 5; key = 1; label = []; «data» = []; iv = []; room = 0; number = 0; output = [] }

abbrev pub cut_overlong : List ℕ
cut_overlong = 0x54 ∷ 0x52 ∷ 0 ∷ 5 ∷ 0 ∷ 1 ∷ 0 ∷ 0 ∷ 0x40 ∷ 0x01 ∷ []
