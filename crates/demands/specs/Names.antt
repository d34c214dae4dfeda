-- The names of the layers below, and of the kit, that the demands are written with, each with the module where it is defined.
pub use Rattle.std.specs.Prelude.{Bool, ◌&&◌, ◌||◌, cond, false, not, true, ◌≢◌, ◌⊎◌, ◌≡◌, refl, ◌%◌, ◌*◌, ◌+◌, ◌-◌, ◌/◌, ◌<◌, ◌^◌, ◌≤◌}
pub use Rattle.std.specs.Prelude.{Err, None, Ok, Option, Result, Some}
pub use Rattle.std.specs.Prelude.{max, min, suc, zero, ℕ, eqb, leb, ltb, drop, get_or, length, replicate, take}
pub use mathlib.Core.List.Pairwise.{cons as PairwiseCons}
pub use mathlib.Core.List.{List, Mem, Perm, [], ◌++◌, ◌∷◌, append_assoc, append-nil, foldr, map, mem_of_ne_of_mem}
pub use mathlib.Core.List.{mem-singleton, Pairwise-singleton}
pub use Rattle.std.proofs.Common.{inl, inr, ⊎_elim, ◌∙◌, ap, ap₂, subst, sym, div-add-mod', eq-zero-or-pos, le_of_eq, le_trans}
pub use Rattle.std.proofs.Common.{lt_of_le_of_lt, mul-le-mul_right, arith, lit<, lit≤, drop_of_length-le, length-append, length-drop}
pub use Rattle.std.proofs.Common.{length-take, take-append-drop, drop_at, drop-drop, length-take-le, take_at, eq-eqb, eqb-true, le-ltb}
pub use Rattle.std.proofs.Common.{leb-false, leb-true, lt-ltb, ltb-false, ltb-true, ne_eqb}
pub use Rattle.std.proofs.Math.Nat.{max-le, ℕ_set}
pub use Rattle.std.proofs.lemmas.List.{length-replicate, drop-append-le}
pub use Rattle.std.proofs.Math.Seq.{take-append_seam}
pub use Rattle.std.proofs.lemmas.Bool.{eqb-false, lt-leb}
pub use Rattle.block.specs.Below.{AreBytes}
unfoldable pub use Rattle.block.specs.BigEndian.{bytes_of, number_of}
unfoldable pub use Rattle.block.specs.Same.{same}
pub use Rattle.block.specs.Wide.{value}
pub use Rattle.block.specs.Words.{word_at}
pub use Rattle.block.specs.declared.U128.{U128}
unfoldable pub use Rattle.block.specs.Words.{unwords, words}
pub use Rattle.block.specs.Xor.{xors}
pub use Rattle.field.specs.Field.{Element}
unfoldable pub use Rattle.field.specs.Field.{gmul, gpow, mul_from, one, times_x}
pub use Rattle.counter.specs.CameRound.{blocks_of}
unfoldable pub use Rattle.counter.specs.CameRound.{ctr_came_round, gcm_came_round}
pub use Rattle.counter.specs.Counter.{last_four}
unfoldable pub use Rattle.counter.specs.Counter.{ctr_next, gcm_next}
pub use Rattle.cipher_mode.specs.Outcome.{Head, Outcome, cut_short, done, finished, keyed, leaving, refusal, refuse as refuse_as, refused}
pub use Rattle.cipher_mode.specs.Outcome.{reporting}
pub use Rattle.cipher_mode.specs.Outcome.{telling, under, written}
pub use Rattle.block.specs.Over.{over}
unfoldable pub use Rattle.walk.specs.Walk.{chain, walk}
unfoldable pub use Rattle.cipher.specs.Sm4.{CK, L, L', T, T', encrypt_block, encrypt_words, keys_from, rotl, round_keys, rounds, sbox_table}
unfoldable pub use Rattle.cipher.specs.Sm4.{tau}
pub use Rattle.ghash.specs.Ghash.{block_count, ghash}
unfoldable pub use Rattle.ghash.specs.Ghash.{auth_blocks, block_of as GhashBlock, blocks, blocks_from, hash_from, length_block}
unfoldable pub use Rattle.ghash.specs.Joined.{joined}
pub use Rattle.ghash.specs.OneBlock.{OneBlock}
pub use Rattle.roots.specs.AtMost.{AtMost, FewerThanOneIn, Having}
pub use Rattle.roots.specs.Confused.{Confuses, Pair, PairHash, Sound, hashed_count, pair_hash}
unfoldable pub use Rattle.stream.specs.Passes.{ctr_walk_says, gcm_walk_says}
pub use Rattle.stream.specs.Stream.{stream_mode}
pub use Rattle.stream.specs.declared.Kind.{Kind}
pub use Rattle.stream.specs.declared.Kind.TheVariants.{CfbDecrypt, CfbEncrypt, Ctr as CtrKind, Gctr, Ofb as OfbKind}
pub use Rattle.padding.specs.Padding.{last_byte, padding}
unfoldable pub use Rattle.padding.specs.Padding.{all_padding, names_padding, unpadded}
pub use Rattle.cbc.specs.Cbc.{cbc_text}
unfoldable pub use Rattle.cbc.specs.Cbc.{cbc_seal}
pub use Rattle.padding.specs.declared.BadPadding.{BadPadding}
pub use Rattle.padding.specs.declared.BadPadding.TheVariants.{InvalidLastU8, InvalidPadding}
pub use Rattle.gcm.specs.Gcm.{J0, hashed_counter, tag_part, text_part}
unfoldable pub use Rattle.gcm.specs.Gcm.{first_counter, hash_key, opens_under, sealed, tag_of, text_of}
pub use Rattle.cipher_mode.specs.Calls.{cbc_head, gcm_head}
unfoldable pub use Rattle.cipher_mode.specs.Calls.{cbc_open, gcm_open}
pub use Rattle.cipher_mode.specs.Answer.{ending_head, head_of, outcome, refusal_head}
pub use Rattle.cipher_mode.specs.Calls.{block_of, cfb_kind, gcm_result, gcm_round, lengths_of, mode_result}
unfoldable pub use Rattle.cipher_mode.specs.Calls.{block_call, mode_call}
pub use Rattle.cipher_mode.specs.Checks.{Checked, and_then, checked, key_check, label_check, refuse, retired_check, wrong_iv}
unfoldable pub use Rattle.cipher_mode.specs.Checks.{block_check, data_check, key_and_iv, message_check, room_check}
pub use Rattle.cipher_mode.specs.Key.{key_head, key_number, wrong_number}
unfoldable pub use Rattle.cipher_mode.specs.Key.{new_cipher, new_cipher_mode, retire, with_engine}
pub use Rattle.cipher_mode.specs.Tables.{limit, limit_of, room_of, sealed_limit}
unfoldable pub use Rattle.cipher_mode.specs.Tables.{mode_of}
pub use Rattle.cipher_mode.specs.declared.CipherMode.{CipherMode}
pub use Rattle.cipher_mode.specs.declared.CipherMode.TheVariants.{Cbc, Cfb, Ctr, Gcm, Ofb}
pub use Rattle.cipher_mode.specs.declared.Direction.{Direction}
pub use Rattle.cipher_mode.specs.declared.Direction.TheVariants.{Decrypt, Encrypt}
pub use Rattle.cipher_mode.specs.declared.KeyAnswer.{KeyAnswer}
pub use Rattle.cipher_mode.specs.declared.KeyAnswer.TheVariants.{ErrorBlockSize as NoKey, Key, WrongNumber as NoNumber}
pub use Rattle.cipher_mode.specs.declared.Sm4Cipher.{Sm4Cipher}
pub use Rattle.cipher_mode.specs.declared.Sm4CipherMode.{Sm4CipherMode}
pub use Rattle.cipher_mode.specs.declared.Done.{Done}
pub use Rattle.cipher_mode.specs.declared.answer.Answer.{Answer}
pub use Rattle.cipher_mode.specs.declared.answer.Refusal.{Refusal}
pub use Rattle.cipher_mode.specs.declared.answer.Refusal.TheVariants.{EmptyCbc, Ended, ErrorBlockSize, ErrorDataLen}
pub use Rattle.cipher_mode.specs.declared.answer.Refusal.TheVariants.{InvalidLastU8 as RefusalLastU8, InvalidPadding as RefusalPadding}
pub use Rattle.cipher_mode.specs.declared.answer.Refusal.TheVariants.{InvalidTag as RefusalTag, NoRoom, Retired, ShortGcm, TooLong}
pub use Rattle.cipher_mode.specs.declared.answer.Refusal.TheVariants.{WrongBlock, WrongIv, WrongNumber}
pub use Rattle.cipher_mode.specs.declared.checks.Lengths.{Lengths}
pub use Rattle.pieces.specs.Calls.{Stepped, begun, ended, goes_on, step_on, stepped}
unfoldable pub use Rattle.pieces.specs.Calls.{ctr_end, ctr_piece, ctr_start, opens_end, opens_piece, opens_start, seal_end, seal_piece}
unfoldable pub use Rattle.pieces.specs.Calls.{seal_start}
unfoldable pub use Rattle.pieces.specs.Checks.{gcm_starting, running, standing, tagged, writing}
unfoldable pub use Rattle.pieces.specs.Flow.{flow_text}
unfoldable pub use Rattle.pieces.specs.Hashing.{hash_end}
unfoldable pub use Rattle.pieces.specs.States.{ctr_after, ctr_shut, opens_after, opens_shut, seal_after, seal_shut}
pub use Rattle.pieces.specs.declared.Step.{Step}
pub use Rattle.pieces.specs.declared.ctr.Ctr.{Ctr as CtrState}
pub use Rattle.pieces.specs.declared.flow.Counting.TheVariants.{Ctr as CtrCounting, Gcm as GcmCounting}
pub use Rattle.pieces.specs.declared.opens.Opens.{Opens}
pub use Rattle.pieces.specs.declared.seal.Seal.{Seal}
unfoldable pub use Rattle.editions.specs.Candidates.{any_too_long, bad_list, label_at, sum}
pub use Rattle.editions.specs.Which.{Verdict, checked_verdict, ended_verdict, none_with, on_key, opens_with, unanswered_head, verdict_of}
unfoldable pub use Rattle.editions.specs.Which.{first_opening, search_check, which}
pub use Rattle.editions.specs.declared.Candidate.{Candidate}
pub use Rattle.editions.specs.declared.Unanswered.{Unanswered}
pub use Rattle.editions.specs.declared.Unanswered.TheVariants.{BadList, Refused as RefusedAsked}
pub use Rattle.editions.specs.declared.Found.{Found}
pub use Rattle.ranges.specs.ByPlan.{ended_head as plan_head, planned_outcome}
unfoldable pub use Rattle.ranges.specs.ByPlan.{plan_call}
pub use Rattle.ranges.specs.Plan.{no_pieces, plan_of}
unfoldable pub use Rattle.ranges.specs.Plan.{accepts, follows, piece_size, planned}
unfoldable pub use Rattle.ranges.specs.Range.{range_call, range_check, reach_check, stretch}
pub use Rattle.ranges.specs.Shares.{Share, all_worked, applied, laid_at, share_of, shares_of, worked}
pub use Rattle.ranges.specs.declared.by_plan.ByPlan.{ByPlan}
pub use Rattle.ranges.specs.declared.by_plan.NotDone.{NotDone}
pub use Rattle.ranges.specs.declared.by_plan.NotDone.TheVariants.{NotAccepted, Refused as RefusedPlan}
pub use Rattle.ranges.specs.declared.plan.NotMade.{NotMade}
pub use Rattle.ranges.specs.declared.plan.NotMade.TheVariants.{BadWorkers, TooLong as TooLongMade}
pub use Rattle.ranges.specs.declared.plan.Plan.{Plan}
unfoldable pub use Rattle.label.specs.Label.{label_of}
pub use Rattle.shelf.specs.Calls.{Outcome as ShelfOutcome, Place, holding, looked_up, new_record, nowhere, number_of_end as shelf_number}
pub use Rattle.shelf.specs.Calls.{outcome_of, place_in, put_in, refuse as shelf_refuse}
unfoldable pub use Rattle.shelf.specs.Calls.{collect_call, find_call, put_call}
pub use Rattle.shelf.specs.Records.{AllProper, Record}
unfoldable pub use Rattle.shelf.specs.Records.{front as front_shelf, marked as marked_shelf, read_up_to, records, size_at as size_at_shelf}
unfoldable pub use Rattle.shelf.specs.Records.{starts_record as starts_record_shelf, stored as stored_shelf, written as written_shelf}
pub use Rattle.shelf.specs.Shelf.{collected, current_of, is_current_of}
unfoldable pub use Rattle.shelf.specs.Shelf.{bad_shelf, fitted, has_current, not_higher, supersede, those, two_current, with_new}
pub use Rattle.shelf.specs.Steps.{InOrder}
pub use Rattle.shelf.specs.declared.Found.{Found as ShelfFound}
pub use Rattle.shelf.specs.declared.NotKept.{NotKept}
pub use Rattle.shelf.specs.declared.Unshelved.{Unshelved}
pub use Rattle.shelf.specs.declared.Unshelved.TheVariants.{BadShelf, NoCurrent, NoRoom as NoRoomShelf, NotHigher}
pub use Rattle.journal.specs.Ends.{AllReplayable, Ends, NoneDiffers, Replayable, Totals, answer_now, differs}
unfoldable pub use Rattle.journal.specs.Ends.{counted_all}
pub use Rattle.journal.specs.Format.{Entry, from_label, output_limit, part_limit, too_long}
unfoldable pub use Rattle.journal.specs.Format.{front as front_journal, marked as marked_journal, past_limit, size_at as size_at_journal}
unfoldable pub use Rattle.journal.specs.Format.{starts_part, starts_record as starts_record_journal, stored as stored_journal}
unfoldable pub use Rattle.journal.specs.Format.{written as written_journal}
unfoldable pub use Rattle.journal.specs.Joined.{added, behind_report, sums}
pub use Rattle.journal.specs.KeyList.{has_number, key_at, key_of as key_of_journal, keys_in}
unfoldable pub use Rattle.journal.specs.KeyList.{any_retired, bad_keys, number_twice, place_of}
pub use Rattle.journal.specs.Recomputed.{answered_by, judged, recomputed, result as result_of}
unfoldable pub use Rattle.journal.specs.Recomputed.{call_into, differs_from}
pub use Rattle.journal.specs.Replay.{Replayed, and_then as journal_then, counted_under, done as done_journal, ended as ended_journal, number_of_end}
pub use Rattle.journal.specs.Replay.{place_told, refuse as journal_refuse, refused as refused_journal, report_of}
unfoldable pub use Rattle.journal.specs.Replay.{replay, replay_one, replay_up_to}
pub use Rattle.journal.specs.Reports.{OfRecords, nothing}
unfoldable pub use Rattle.journal.specs.Reports.{counted, total}
pub use Rattle.journal.specs.Writer.{Leaves}
unfoldable pub use Rattle.journal.specs.Writer.{write}
pub use Rattle.journal.specs.declared.Stop.{Stop}
pub use Rattle.journal.specs.declared.Stop.TheVariants.{BadKeys, BadRecord, TooLong as TooLongJournal, UnknownKey}
pub use Rattle.journal.specs.declared.Stopped.{Stopped}
pub use Rattle.journal.specs.declared.keys.Keys.{Keys}
pub use Rattle.journal.specs.declared.report.Difference.{Difference}
pub use Rattle.journal.specs.declared.report.Report.{Report}
pub use Rattle.journal.specs.declared.writer.Unwritten.{Unwritten}
pub use Rattle.journal.specs.declared.writer.Unwritten.TheVariants.{NoRoom as NoRoomWrote}
pub use Rattle.luossavin.specs.Edition.{checked_head}
unfoldable pub use Rattle.luossavin.specs.Edition.{host_edition_opens, opens_head}
pub use Rattle.luossavin.specs.Halves.{hash_of}
unfoldable pub use Rattle.luossavin.specs.Halves.{host_hash_blocks, host_hash_join}
pub use Rattle.luossavin.specs.Host.{head_in, mode_in, reported}
unfoldable pub use Rattle.luossavin.specs.Host.{host_block_call, host_mode_call}
pub use Rattle.luossavin.specs.InPieces.{ctr_reported, direction_of, opens_reported, seal_reported}
unfoldable pub use Rattle.luossavin.specs.InPieces.{host_ctr_start, host_opens_start, host_seal_start}
pub use Rattle.luossavin.specs.Journals.{difference_told, differs_told}
unfoldable pub use Rattle.luossavin.specs.Journals.{host_replay, keys_of, told_of as told_of_journal}
unfoldable pub use Rattle.luossavin.specs.Key.{cipher_in, host_key_engine, host_key_new, host_key_retire, key_answer_of, key_of}
pub use Rattle.luossavin.specs.Ranges.{Handed, making_head, plan_told, planned_reported}
unfoldable pub use Rattle.luossavin.specs.Ranges.{host_ctr_by_plan, host_ctr_range, host_plan_make}
pub use Rattle.luossavin.specs.Shelves.{shelf_reported, shelved_reported}
pub use Rattle.luossavin.specs.Which.{Told, found_reported, told_of}
unfoldable pub use Rattle.luossavin.specs.Which.{host_which}
pub use Rattle.luossavin.specs.declared.LuossavinAnswer.{LuossavinAnswer}
pub use Rattle.luossavin.specs.declared.edition.LuossavinLabel.{LuossavinLabel}
pub use Rattle.luossavin.specs.declared.in_pieces.LuossavinCtrStep.{LuossavinCtrStep}
pub use Rattle.luossavin.specs.declared.in_pieces.LuossavinOpensStep.{LuossavinOpensStep}
pub use Rattle.luossavin.specs.declared.in_pieces.LuossavinSealStep.{LuossavinSealStep}
pub use Rattle.luossavin.specs.declared.journals.LuossavinKeys.{LuossavinKeys}
pub use Rattle.luossavin.specs.declared.journals.LuossavinReplayed.{LuossavinReplayed}
pub use Rattle.luossavin.specs.declared.key.LuossavinKey.{LuossavinKey}
pub use Rattle.luossavin.specs.declared.shelves.LuossavinShelf.{LuossavinShelf}
pub use Rattle.luossavin.specs.declared.shelves.LuossavinShelved.{LuossavinShelved}
pub use Rattle.luossavin.specs.declared.which.LuossavinFound.{LuossavinFound}
pub use Rattle.luossavin.specs.declared.workers.LuossavinPlanned.{LuossavinPlanned}
