-- The names from outside this crate's proofs that they use, each with the module that has it.
pub use Rattle.std.specs.Prelude.{Err, None, Ok, Option, Result, Some}
pub use lib.ListN.{get_or-append}
pub use lib.Seq.{drop-length, take-suc}
pub use Rattle.block.proofs.Base.{Bool, List, [], ◌&&◌, ◌++◌, ◌+◌, ◌-◌, ◌<◌, ◌^◌, ◌||◌, ◌∙◌, ◌∷◌, ◌≡◌, ◌≤◌, ◌⊎◌, add_assoc, add-one}
pub use Rattle.block.proofs.Base.{add-zero, ap, append_assoc, append-nil, arith, cond, drop, drop-append-le, drop_at, drop-cons}
pub use Rattle.block.proofs.Base.{drop_of_length-le, eq-eqb, eqb, eqb-false, eqb-true, false, get_or, get_or-set_other, get_or-set_same}
pub use Rattle.block.proofs.Base.{get_or-take, inl, inr, le-leb, le-ltb, leb, leb-true, length, length-append, length-drop}
pub use Rattle.block.proofs.Base.{length-replicate, length-set, length-take-le, lit<, lt-leb, lt-ltb, ltb, ltb-false, ltb-true}
pub use Rattle.block.proofs.Base.{mod-eq_of_lt, ne_eqb, rules, not-false, refl, replicate, set, sub-zero, suc, sym}
pub use Rattle.block.proofs.Base.{take, take-add, take-append-drop, take-append-le, take_at, true, zero, zero-add, ℕ, ⊎_elim}
pub use Rattle.block.proofs.Convert.{bytes_of-number_of, length-bytes_of, number_of-bytes_of, number_of-lt}
pub use Rattle.block.proofs.Entries.{below_at, below-drop, below-replicate, below-take}
pub use Rattle.block.proofs.Same.{and_left, and_right, by_test, same_equal, same_refl}
pub use Rattle.block.proofs.Tails.{over-append, over-behind, returned, tail_is, tailed}
pub use Rattle.block.specs.Below.{AreBytes, Below}
unfoldable pub use Rattle.block.specs.BigEndian.{number_of, bytes_of}
pub use Rattle.block.specs.Over.{over}
pub use Rattle.block.specs.Words.{word_at}
pub use Rattle.cbc.proofs.Blocks.{length-decrypt}
pub use Rattle.cbc.proofs.RoundTrip.{length-cbc_seal}
pub use Rattle.cbc.specs.Cbc.{cbc_seal, cbc_text}
pub use Rattle.cipher_mode.proofs.Passed.{message_passed, sixteen, whole-blocks_passed}
pub use Rattle.cipher_mode.proofs.Refusals.{refuses}
pub use Rattle.cipher_mode.specs.Answer.{outcome, refusal_head}
pub use Rattle.cipher_mode.specs.Calls.{cbc_head, cfb_kind, gcm_head, gcm_round, mode_result}
unfoldable pub use Rattle.cipher_mode.specs.Calls.{cbc_open, gcm_open, mode_call}
pub use Rattle.cipher_mode.specs.Checks.{Checked, checked, data_check, wrong_iv}
unfoldable pub use Rattle.cipher_mode.specs.Checks.{message_check, room_check}
pub use Rattle.cipher_mode.specs.Key.{key_number, no_cipher}
pub use Rattle.cipher_mode.specs.Outcome.{Head, Outcome, finished, keyed, leaving, refusal, refuse, reporting}
pub use Rattle.cipher_mode.specs.Tables.{mode_of, room_of}
pub use Rattle.cipher_mode.specs.declared.CipherMode.{CipherMode}
pub use Rattle.cipher_mode.specs.declared.CipherMode.TheVariants.{Cbc, Cfb, Ctr, Gcm, Ofb}
pub use Rattle.cipher_mode.specs.declared.Direction.{Direction}
pub use Rattle.cipher_mode.specs.declared.Direction.TheVariants.{Decrypt, Encrypt}
pub use Rattle.cipher_mode.specs.declared.KeyAnswer.TheVariants.{ErrorBlockSize}
pub use Rattle.cipher_mode.specs.declared.Sm4Cipher.{Sm4Cipher}
pub use Rattle.cipher_mode.specs.declared.answer.Answer.{Answer}
pub use Rattle.cipher_mode.specs.declared.answer.Refusal.{Refusal}
pub use Rattle.cipher_mode.specs.declared.answer.Refusal.TheVariants.{EmptyCbc, ErrorDataLen, InvalidLastU8 as BadLast}
pub use Rattle.cipher_mode.specs.declared.answer.Refusal.TheVariants.{InvalidPadding as RefusedPadding, InvalidTag, NoRoom, Retired, ShortGcm}
pub use Rattle.cipher_mode.specs.declared.answer.Refusal.TheVariants.{WrongBlock, WrongIv, WrongNumber}
pub use Rattle.counter.specs.CameRound.{blocks_of, ctr_came_round}
pub use Rattle.gcm.proofs.Parts.{length-sealed}
pub use Rattle.gcm.proofs.Settled.{text-size}
pub use Rattle.gcm.specs.Gcm.{J0, hash_key, opens_under, sealed, text_of, text_part}
pub use Rattle.padding.proofs.Unpadded.{unpadded-le}
pub use Rattle.padding.specs.Padding.{unpadded}
pub use Rattle.padding.specs.declared.BadPadding.{BadPadding}
pub use Rattle.padding.specs.declared.BadPadding.TheVariants.{InvalidLastU8, InvalidPadding}
pub use Rattle.stream.proofs.RoundTrip.{length-stream}
pub use Rattle.stream.specs.Stream.{stream_mode}
pub use Rattle.stream.specs.declared.Kind.{Kind}
pub use Rattle.stream.specs.declared.Kind.TheVariants.{Ctr as CtrKind, Ofb as OfbKind}
pub use Rattle.walk.specs.Walk.{chain}
pub use Rattle.journal.specs.Ends.{AllReplayable, Begins, Ends, NoneDiffers, Replayable, Totals, Why, answer_now, differs, told_place}
unfoldable pub use Rattle.journal.specs.Ends.{count_if, counted_all, sum_of}
pub use Rattle.journal.specs.Format.{Entry, Proper, ProperPart, Stands, after_record, direction_byte, direction_of, from_data, from_iv}
pub use Rattle.journal.specs.Format.{from_label, from_output, from_room, output_limit, part_limit, too_long}
unfoldable pub use Rattle.journal.specs.Format.{behind, front, head, marked, middle, part, part_at, past_limit, size_at}
unfoldable pub use Rattle.journal.specs.Format.{starts_part, starts_record, stored, written}
pub use Rattle.journal.specs.Joined.{earlier}
unfoldable pub use Rattle.journal.specs.Joined.{added, behind_report, sums}
pub use Rattle.journal.specs.KeyList.{has_number, key_at, key_found, key_of, keys_in}
unfoldable pub use Rattle.journal.specs.KeyList.{any_retired, bad_keys, number_twice, place_of}
pub use Rattle.journal.specs.Reading.{Reads, ReadsPart, entry_of, measure}
pub use Rattle.journal.specs.Recomputed.{Answers, answered_by, judged, recomputed, result}
unfoldable pub use Rattle.journal.specs.Recomputed.{call_into, differs_from, lent_room}
pub use Rattle.journal.specs.Replay.{Replayed, counted_under, done, ended, number_of_end, place_told, refused, replay_from, report_of}
unfoldable pub use Rattle.journal.specs.Replay.{replay, replay_one, replay_up_to}
pub use Rattle.journal.specs.Reports.{AddsUp, OfRecords, Within, first_of, mode_place, nothing, one_more}
unfoldable pub use Rattle.journal.specs.Reports.{counted, total}
pub use Rattle.journal.specs.Writer.{answered_of, asked_of}
unfoldable pub use Rattle.journal.specs.Writer.{write}
pub use Rattle.journal.specs.declared.Stop.{Stop}
pub use Rattle.journal.specs.declared.Stop.TheVariants.{BadKeys, BadRecord, TooLong, UnknownKey}
pub use Rattle.journal.specs.declared.Stopped.{Stopped}
pub use Rattle.journal.specs.declared.again.Answered.{Answered}
pub use Rattle.journal.specs.declared.again.Recomputed.{Recomputed}
pub use Rattle.journal.specs.declared.keys.Keys.{Keys}
pub use Rattle.journal.specs.declared.report.Difference.{Difference}
pub use Rattle.journal.specs.declared.report.Report.{Report}
pub use Rattle.journal.specs.declared.records.Call.{Call}
