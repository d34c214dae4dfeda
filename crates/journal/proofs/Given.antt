-- What a call gives does not depend on the output that it is lent: a report, and bytes that stand over the output's front. Of data
-- within the limits these are at most 16 bytes more than the data has.
use Rattle.journal.proofs.Names.{BadLast, BadPadding, RefusedPadding, Result, Bool, Cbc, Cfb, Checked, CipherMode, Ctr, CtrKind}
use Rattle.journal.proofs.Names.{Decrypt, Direction, EmptyCbc, Encrypt, ErrorDataLen, Gcm, Head, InvalidLastU8, InvalidPadding}
use Rattle.journal.proofs.Names.{InvalidTag, J0, Kind, List, NoRoom, Ofb, OfbKind, Ok, Outcome, Refusal, Err, Retired}
use Rattle.journal.proofs.Names.{ShortGcm, WrongBlock, WrongIv, WrongNumber, [], ◌&&◌, ◌+◌, ◌-◌, ◌<◌, ◌≡◌, ◌≤◌, ap, arith, blocks_of}
use Rattle.journal.proofs.Names.{cbc_head, cbc_open, cbc_seal, cbc_text, cfb_kind, chain, checked, cond, ctr_came_round, data_check, eqb}
use Rattle.journal.proofs.Names.{false, finished, gcm_head, gcm_open, gcm_round, hash_key, keyed, leaving, length, length-cbc_seal}
use Rattle.journal.proofs.Names.{length-decrypt, length-sealed, length-stream, length-take-le, lit<, mode_result, opens_under, over}
use Rattle.journal.proofs.Names.{refl, refusal, refusal_head, refuse, refuses, reporting, room_of, sealed, sixteen, stream_mode, sym}
use Rattle.journal.proofs.Names.{take, text-size, text_of, text_part, true, unpadded, unpadded-le, whole-blocks_passed, wrong_iv, ℕ}
use Rattle.cipher_mode.specs.Outcome.{written, done}
use Rattle.cipher_mode.specs.declared.answer.Refusal.TheVariants.{ErrorBlockSize, TooLong, Ended}

-- one report and one result, of at most so many bytes, whatever output is lent; the number has a place among the counts
pub record Gives (most : ℕ) (f : List ℕ → Outcome) : Type 0 where
  pub head : Head
  pub front : List ℕ
  pub known : head.number < 27
  pub sized : length front ≡ head.size
  pub fits : head.size ≤ most
  pub leaves : (o : List ℕ) → f o ≡ leaving head (over front o)

gives-done : (most : ℕ) (p : List ℕ) → length p ≤ most → Gives most (λ o. done p o)
gives-done most p h =
    record { head = finished (length p); front = p; known = omega arith; sized = refl; fits = h; leaves = λ o. refl }

-- a report with no bytes
gives_none : (most : ℕ) (h : Head) → h.number < 27 → h.size ≡ 0 → Gives most (λ o. leaving h o)
gives_none most h k z =
    record { head = h; front = []; known = k; sized = sym z; fits = omega arith; leaves = λ o. refl }

gives-written : (most : ℕ) (h : Head) (p : List ℕ) → h.number < 27 → h.size ≤ length p → h.size ≤ most → Gives most (λ o. written h p o)
gives-written most h p k l m =
    record { head = h; front = take h.size p; known = k; sized = length-take-le h.size p l; fits = m; leaves = λ o. refl }

-- the same with another report of the same number and size
abbrev telling' : (Head → ℕ) → (Head → ℕ) → Head → Head
telling' round key h = record { number = h.number; size = h.size; missing = h.missing; came_round = round h; key = key h }

gives-told : (most : ℕ) (round key : Head → ℕ) (f : List ℕ → Outcome) → Gives most f
    → Gives most (λ o. leaving (telling' round key (f o).head) (f o).bytes)
gives-told most round key f g =
    record {
      head = telling' round key g.head;
      front = g.front;
      known = g.known;
      sized = g.sized;
      fits = g.fits;
      leaves = λ o. ap {B = Outcome} (λ (x : Outcome). leaving (telling' round key x.head) x.bytes) (g.leaves o);
    }

gives-reporting : (most : ℕ) (b : Bool) (f : List ℕ → Outcome) → Gives most f → Gives most (λ o. reporting b (f o))
gives-reporting most b = gives-told most (λ h. cond (eqb h.number 0 && b) 1 0) (λ h. h.key)

gives-keyed : (most k : ℕ) (f : List ℕ → Outcome) → Gives most f → Gives most (λ o. keyed k (f o))
gives-keyed most k = gives-told most (λ h. h.came_round) (λ h. k)

refusal-known : (r : Refusal) → (refusal_head r).number < 27
refusal-known ErrorBlockSize = lit< tt
refusal-known ErrorDataLen = lit< tt
refusal-known BadLast = lit< tt
refusal-known InvalidTag = lit< tt
refusal-known TooLong = lit< tt
refusal-known NoRoom = lit< tt
refusal-known EmptyCbc = lit< tt
refusal-known (ShortGcm n) = lit< tt
refusal-known WrongIv = lit< tt
refusal-known WrongBlock = lit< tt
refusal-known Ended = lit< tt
refusal-known WrongNumber = lit< tt
refusal-known Retired = lit< tt
refusal-known RefusedPadding = lit< tt

-- an opened Cbc message: its padding is no longer than it
cbc_opened : (most : ℕ) (p : List ℕ) (u : Result ℕ BadPadding) → unpadded p ≡ u → length p ≤ most → Gives most (λ o. written (cbc_head u) p o)
cbc_opened most p (Ok k) e h =
    let l = unpadded-le p k e in
    gives-written most (finished k) p (omega arith) l (omega arith)
cbc_opened most p (Err InvalidLastU8) e h = gives-written most (refusal 3) p (omega arith) (omega arith) (omega arith)
cbc_opened most p (Err InvalidPadding) e h = gives-written most (refusal 15) p (omega arith) (omega arith) (omega arith)

-- an opened Gcm message, by what its tag says
gcm_opened : (most : ℕ) (p : List ℕ) (n : ℕ) (t : Bool) → length p ≡ n → n ≤ most
    → Gives most (λ o. written (gcm_head t n) p o)
gcm_opened most p n true e h = gives-written most (finished n) p (omega arith) (omega arith) h
gcm_opened most p n false e h = gives-written most (refusal 4) p (omega arith) (omega arith) (omega arith)

streams : (most : ℕ) (k : Kind) (rk s d : List ℕ) → length d ≤ most → Gives most (λ o. done (chain (stream_mode k rk) s d) o)
streams most k rk s d h = let l = length-stream k rk s d in gives-done most (chain (stream_mode k rk) s d) (omega arith)

-- what is in order gives no more than the table of lengths says
mode-gives : (most : ℕ) (m : CipherMode) (dir : Direction) (rk aad d iv : List ℕ) → wrong_iv m (length iv) ≡ false
    → data_check dir m (length d) ≡ Ok tt → room_of m dir (length d) ≤ most → Gives most (λ o. mode_result m dir rk aad d iv o)
unfolding cbc_open gcm_open
mode-gives most Cfb dir rk aad d iv i e r = streams most (cfb_kind dir) rk iv d r
mode-gives most Ofb dir rk aad d iv i e r = streams most OfbKind rk iv d r
mode-gives most Ctr dir rk aad d iv i e r =
    gives-reporting most (ctr_came_round iv (blocks_of (length d))) _ (streams most CtrKind rk iv d r)
mode-gives most Cbc Encrypt rk aad d iv i e r = let l = length-cbc_seal rk iv d in gives-done most (cbc_seal rk iv d) (omega arith)
mode-gives most Cbc Decrypt rk aad d iv i e r =
    let l = length-decrypt rk iv d (sixteen (length iv) i) (whole-blocks_passed (length d) e).1 in
    cbc_opened most (cbc_text rk iv d) (unpadded (cbc_text rk iv d)) refl (omega arith)
mode-gives most Gcm Encrypt rk aad d iv i e r =
    let l = length-sealed rk (hash_key rk) (J0 rk iv) aad d in
    gives-reporting most (gcm_round rk iv (length d)) _ (gives-done most (sealed rk (hash_key rk) (J0 rk iv) aad d) (omega arith))
mode-gives most Gcm Decrypt rk aad d iv i e r =
    let h = hash_key rk in
    let j = J0 rk iv in
    gives-reporting most (gcm_round rk iv (length d - 16)) _
    (gcm_opened most (text_of rk j (text_part d)) (length d - 16) (opens_under rk h j aad d)
    (text-size rk j d) (omega arith))

-- the table asks for at most 16 bytes more than there are
pub room_16 : (m : CipherMode) (dir : Direction) (n : ℕ) → room_of m dir n ≤ 16 + n
room_16 Cfb dir n = omega arith
room_16 Ofb dir n = omega arith
room_16 Ctr dir n = omega arith
room_16 Cbc Encrypt n = omega arith
room_16 Cbc Decrypt n = omega arith
room_16 Gcm Encrypt n = omega arith
room_16 Gcm Decrypt n = omega arith

-- a call by what its checks say
pub call-gives : (most k : ℕ) (x : Checked) (m : CipherMode) (dir : Direction) (rk aad d iv : List ℕ)
    → (x ≡ Ok tt → (wrong_iv m (length iv) ≡ false) × (data_check dir m (length d) ≡ Ok tt) × (room_of m dir (length d) ≤ most))
    → Gives most (λ o. keyed k (checked x o (mode_result m dir rk aad d iv o)))
call-gives most k (Ok _) m dir rk aad d iv p =
    let in_order = p refl in
    gives-keyed most k _ (mode-gives most m dir rk aad d iv in_order.0 in_order.1 in_order.2)
call-gives most k (Err r) m dir rk aad d iv p =
    gives-keyed most k _ (gives_none most (refusal_head r) (refusal-known r) (refuses r).no_size)

pub bad-gives : (most : ℕ) (t : Bool) (f : List ℕ → Outcome) → (t ≡ false → Gives most f) → Gives most (λ o. refuse t 7 o (f o))
bad-gives most true f g = gives_none most (refusal 7) (omega arith) refl
bad-gives most false f g = g refl
