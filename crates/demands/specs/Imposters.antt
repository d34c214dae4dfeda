-- Calls that look to a careless test like an exported call, and are not: encryption, decryption, setting up a key, retiring one, a start in
-- pieces, asking for a file's label, a range, work by a plan, putting on a shelf, joining two hashes.
use Rattle.demands.specs.Names as N
use Rattle.std.specs.Prelude.{◌++◌, ◌∷◌, ◌*◌, ◌+◌, ◌-◌, ◌/◌}
use N.{Bool, false, not, true, List, [], ℕ, eqb, drop, length, replicate, take, blocks_of, ctr_came_round, Outcome, done, leaving}
use N.{refuse_as, refused, telling, over, round_keys, and_then, checked, data_check, key_and_iv, refuse, key_number, new_cipher, Ctr, Gcm}
use N.{Direction, Decrypt, Encrypt, Key, Sm4Cipher, TooLong, Ok, Stepped, begun, step_on, seal_after, seal_shut, Seal, any_too_long}
use N.{checked_verdict, first_opening, on_key, opens_with, accepts, Plan, ShelfOutcome, holding, put_in, shelf_refuse, records}
use N.{stored_shelf as stored, bad_shelf, current_of, fitted, not_higher, supersede, host_hash_blocks, host_hash_join, host_mode_call}
use N.{direction_of, cipher_in, host_key_new, host_ctr_by_plan, host_ctr_range, Told, host_which, told_of, U128, LuossavinKey}
use Rattle.demands.specs.Call.{Call, result}
use Rattle.demands.specs.Workers.{RangeCall}

-- refuses everything
abbrev pub refuses_all : Call
refuses_all label d iv o = refused 4 o

-- answers x, whatever it is given
abbrev pub constant : Outcome → Call
constant x label d iv o = x

-- copies the data through untouched
abbrev pub copies : Call
copies label d iv o = done d o

-- encryption in Ctr, which the next five pretend to be
abbrev pub ctr : LuossavinKey → Call
ctr k = host_mode_call Encrypt 2 k

-- ciphers the first block and copies the rest
abbrev pub first_block_only : LuossavinKey → Call
first_block_only k label d iv o = done (take 16 (result (ctr k label d iv o)) ++ drop 16 d) o

-- does what encryption does, and reports the output's length
abbrev pub invents_length : LuossavinKey → Call
invents_length k label d iv o =
    record {
      head = record { number = (ctr k label d iv o).head.number; size = length o; missing = 0; came_round = 0; key = 1 };
      bytes = (ctr k label d iv o).bytes;
    }

-- does what encryption does, and says of the counter what the step after the last block says too
abbrev pub counts_every_step : LuossavinKey → Call
counts_every_step k label d iv o =
    let x = ctr k label d iv o in
    leaving (telling (ctr_came_round iv (blocks_of (length d) + 1)) x.head) x.bytes

-- does what encryption does, and says of the counter what the formula says, also where it is refused
abbrev pub says_it_refused : LuossavinKey → Call
says_it_refused k label d iv o =
    let x = ctr k label d iv o in
    leaving (telling (ctr_came_round iv (blocks_of (length d))) x.head) x.bytes

-- does what encryption does, and tells the engine where it should tell of the counter
abbrev pub tells_engine : LuossavinKey → Call
tells_engine k label d iv o =
    let x = ctr k label d iv o in
    leaving (telling (eqb k.engine 1) x.head) x.bytes

-- seals and opens in Gcm, and puts the key's number in front of the label
abbrev pub binds_number : Direction → LuossavinKey → Call
binds_number dir k label d iv o = host_mode_call dir 4 k (k.number ∷ label) d iv o

-- sets up a key, and forgets its number
abbrev pub forgets_number : List ℕ → ℕ → Sm4Cipher
forgets_number key n = new_cipher key 1

-- takes any number
abbrev pub takes_any_number : List ℕ → ℕ → Sm4Cipher
takes_any_number key n = record { rk = round_keys key; answer = Key; number = n; retired = false; engine = 0 }

-- retires a record by copying it anew, without its mark
abbrev pub copies_anew : LuossavinKey → LuossavinKey
copies_anew k = record { round_keys = k.round_keys; answer = k.answer; number = k.number; retired = 0; engine = k.engine }

-- retires a key by making it none
abbrev pub throws_away : LuossavinKey → LuossavinKey
throws_away k = record { round_keys = k.round_keys; answer = 1; number = k.number; retired = 1; engine = k.engine }

-- marks a record's engine by copying it anew, without the mark of retirement
abbrev pub marks_anew : ℕ → LuossavinKey → LuossavinKey
marks_anew e k = record { round_keys = k.round_keys; answer = k.answer; number = k.number; retired = 0; engine = e }

-- starts sealing in pieces, and does not look at the label's length
abbrev pub label_unseen : LuossavinKey → List ℕ → List ℕ → Stepped Seal
label_unseen k label iv =
    let c = cipher_in k in
    let n = key_number c in
    step_on Seal n
    (begun Seal (key_and_iv c.answer c.retired Encrypt Gcm (length iv)) (seal_shut n) (seal_after n c.engine c.rk label iv []))

-- asks which label a file opens under, and counts the places from 1
abbrev pub counts_from_one : LuossavinKey → List ℕ → List ℕ → List ℕ → List ℕ → Told
counts_from_one k file iv labels lengths =
    let v = host_which k file iv labels lengths in
    record { head = v.head; found = v.found; place = v.place + 1; start = v.start; size = v.size }

-- asks it, and tells a part of one byte where none is found
abbrev pub leaves_part : LuossavinKey → List ℕ → List ℕ → List ℕ → List ℕ → Told
leaves_part k file iv labels lengths =
    let v = host_which k file iv labels lengths in
    record { head = v.head; found = v.found; place = v.place; start = v.start; size = v.size + (1 - v.found) }

-- asks it, and looks at the file's length before the labels'
abbrev pub file_first : LuossavinKey → List ℕ → List ℕ → List ℕ → List ℕ → Told
file_first k file iv labels lengths =
    let c = cipher_in k in
    told_of
    (on_key (key_number c)
    (checked_verdict
    (and_then (key_and_iv c.answer c.retired Decrypt Gcm (length iv))
    (and_then (data_check Decrypt Gcm (length file)) (refuse (any_too_long lengths) TooLong (Ok tt))))
    (first_opening (opens_with c iv file) labels lengths 0 0)))

-- does a range from the start of the block that its offset lies in
abbrev pub from_the_block : RangeCall
from_the_block k decrypt iv offset d o = host_ctr_range k decrypt iv (16 * (offset / 16)) d o

-- gives the key stream of a range in place of the text xored with it
abbrev pub stream_alone : RangeCall
stream_alone k decrypt iv offset d o = host_ctr_range k decrypt iv offset (replicate (length d) 0) o

-- does a range either way, whether the key is retired or not
abbrev pub mark_unseen : RangeCall
mark_unseen k decrypt iv offset d o = host_ctr_range k true iv offset d o

-- works by a plan, and looks at the plan before the length
abbrev pub plan_first : LuossavinKey → Bool → List ℕ → Plan → List ℕ → List ℕ → Outcome
plan_first k decrypt iv plan d o =
    let c = cipher_in k in
    checked (key_and_iv c.answer c.retired (direction_of decrypt) Ctr (length iv)) o
    (refuse_as (not (accepts plan (length d))) 18 o
    (host_ctr_by_plan k decrypt iv plan d o))

-- puts on a shelf, and holds the edition against the job's current record alone
abbrev pub against_current : List ℕ → ℕ → ℕ → ℕ → List ℕ → ShelfOutcome
against_current shelf used job edition sealed =
    shelf_refuse (bad_shelf shelf used) 19 shelf used
    (shelf_refuse (not_higher job edition (current_of job (records (take used shelf)))) 20 shelf used
    (holding (fitted (length shelf) (put_in shelf used job edition sealed)) shelf))

-- puts on a shelf, and marks what is superseded before it collects
abbrev pub marks_first : List ℕ → ℕ → ℕ → ℕ → List ℕ → ShelfOutcome
marks_first shelf used job edition sealed =
    holding (fitted (length shelf) (put_in shelf used job edition sealed)) (over (stored (supersede job (records (take used shelf)))) shelf)

-- joins two halves, and counts the second's bytes
abbrev pub counts_bytes : U128 → List ℕ → List ℕ → U128
counts_bytes h a b = host_hash_join h (host_hash_blocks h a) (host_hash_blocks h b) (length b)

-- two records without sealed bytes: of job 0 the edition 1, superseded, and then the edition 0, current
abbrev pub two_editions : List ℕ
two_editions =
    0x52 ∷ 0x58 ∷ 0 ∷ 0 ∷ 0 ∷ 0 ∷ 0 ∷ 1 ∷ 0 ∷ 0 ∷ 0 ∷ 0 ∷ 0x52 ∷ 0x44 ∷ 0 ∷ 0 ∷ 0 ∷ 0 ∷ 0 ∷ 0 ∷ 0 ∷ 0 ∷ 0 ∷ 0 ∷ []

-- what the others are held against: encryption in Ctr under the key of number 1, and the IV, of sixteen zero bytes
abbrev pub zeros : List ℕ
zeros = replicate 16 0

abbrev pub zero_key : LuossavinKey
zero_key = host_key_new zeros 1

-- the IV of sixteen bytes ff, which the counter comes round from at once
abbrev pub ones : List ℕ
ones = replicate 16 255
