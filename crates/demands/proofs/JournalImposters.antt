-- Imposters put in the place of a replay: each breaks the definition, at a journal that is named.
use Rattle.demands.specs.Names as N
use N.{arith, ◌∙◌, false, List, [], ◌∷◌, ◌≢◌, ◌≡◌, refl, ℕ, lit<, number_of, Replayable, counted_all, marked_journal as marked, past_limit}
use N.{starts_part, starts_record_journal as starts_record, stored_journal as stored, any_retired, bad_keys, keys_in, number_twice, place_of}
use N.{call_into, differs_from, done_journal as done, ended_journal as ended, number_of_end, refused_journal as refused, replay, report_of, counted, nothing}
use N.{BadRecord, Replayed}
use Rattle.journal.proofs.Ending.{replayed_whole}
use Rattle.journal.proofs.Replaying.{from_start, from_refused}
use Rattle.demands.proofs.Imposters.{apart}
use Rattle.demands.specs.JournalImposters.{stops_at_difference, too_long_first, one_key, unknown_done, cut_overlong}

-- what the journals of the two imposters need: the key is good, and the call can be replayed
one-key_good : bad_keys one_key ≡ false
unfolding bad_keys any_retired number_twice place_of
one-key_good = refl

unknown_replayable : Replayable (keys_in one_key) unknown_done
unfolding past_limit place_of
unknown_replayable = record { proper = omega arith; short = refl; known = refl }

-- Stopping at the first difference is told by a journal of one record that differs: there is one record, and the imposter counts none.
abbrev one_wrong : List ℕ
one_wrong = stored (unknown_done ∷ [])

wrong_whole : replay one_key one_wrong ≡ done (counted_all (keys_in one_key) (unknown_done ∷ []) 0 nothing)
wrong_whole = replayed_whole one_key one-key_good (unknown_done ∷ []) (unknown_replayable, tt)

pub stops_at_difference_contradicts : stops_at_difference one_key one_wrong ≢ replay one_key one_wrong
unfolding counted_all counted call_into differs_from stored
stops_at_difference_contradicts =
    apart Replayed (λ x. (report_of x).records) _ _ 0 1 (rw wrong_whole (rw (replayed_whole one_key one-key_good [] tt))) (rw wrong_whole) refl

-- Looking at a stated length first is told by a record that is cut: that is 23, and the imposter says 24.
cut_refused : replay one_key cut_overlong ≡ refused BadRecord 0 nothing
unfolding starts_record marked starts_part number_of
cut_refused = from_start one_key cut_overlong one-key_good ∙ from_refused (keys_in one_key) cut_overlong 0 nothing (lit< tt) BadRecord refl

pub too_long-first_contradicts : too_long_first one_key cut_overlong ≢ replay one_key cut_overlong
unfolding number_of
too_long-first_contradicts = apart Replayed (λ x. number_of_end (ended x)) _ _ 24 23 (rw one-key_good) (rw cut_refused) refl
