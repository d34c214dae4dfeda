-- A message in pieces: whatever the cuts are, the pieces give what the single call gives. One induction over the pieces, from
-- any text that has gone before.
use Rattle.demands.specs.Names as N
use N.{Bool, true, List, [], ◌++◌, ◌∷◌, append_assoc, append-nil, ◌∙◌, ◌≡◌, ap, ap₂, refl, sym, ◌+◌, ◌-◌, ◌≤◌, ℕ, arith, ltb, drop}
use N.{drop_of_length-le, length, length-append, length-drop, drop-append-le, take_at, le-ltb, ltb-false, blocks_of, ctr_came_round}
use N.{Outcome, done, finished, keyed, reporting, telling, under, over, chain, stream_mode, CtrKind, J0, hash_key, opens_under, sealed}
use N.{text_of, gcm_open, gcm_round, lengths_of, mode_result, mode_call, and_then, refuse, data_check, key_and_iv, message_check}
use N.{room_check, key_number, limit, room_of, mode_of, Ctr as CtrMode, Gcm, Direction, Decrypt, Encrypt, Sm4Cipher, Sm4CipherMode, TooLong}
use N.{Checked, Ok, Err, Stepped, begun, goes_on, step_on, ctr_end, ctr_piece, ctr_start, opens_end, opens_piece, opens_start}
use N.{seal_end, seal_piece, seal_start, gcm_starting, ctr_after, opens_after, seal_after, CtrState as Ctr, Opens, Seal, host_mode_call}
use N.{direction_of, host_ctr_start, host_opens_start, host_seal_start, cipher_in, LuossavinKey}
use Rattle.block.proofs.Same.{by_test}
use Rattle.stream.proofs.RoundTrip.{length-stream}
use Rattle.gcm.proofs.Parts.{length-text, length-tag}
use Rattle.cipher_mode.proofs.Passed.{label_passed, data-within, let_through}
use Rattle.pieces.proofs.CtrInPieces.{ctr_started, ctr_goes_on, ctr-joined, ctr-ended}
use Rattle.pieces.proofs.SealInPieces.{seal_started, seal-joined, seal_goes_on, seal-ended}
use Rattle.pieces.proofs.OpensInPieces.{opens_started, opens_goes_on, opens-ended}
use Rattle.demands.specs.Call.{in_gcm, result}
use Rattle.demands.specs.InPieces.{gathered, Every, Room, written, state_after, wrote, AllDid, Piece, onto, size_of, whole, Roomy}
use Rattle.demands.specs.InPieces.{joined, none, CtrInPieces, SealInPieces, OpensInPieces, AllZero, CtrOfPieces, SealOfPieces}
use Rattle.demands.specs.InPieces.{OpensOfPieces, CheckedAlike, AllZero, AllDone, TellsAlike, none}
use Rattle.demands.proofs.Through.{result-of-done, passed_start, through, leaves}
use Rattle.cipher_mode.proofs.Refusals.{refuses}
use Rattle.pieces.proofs.Passing.{starting_passed, running_passed, writing_passed, tagged_passed}
use Rattle.demands.specs.Answered.{one_of}
use Rattle.demands.proofs.ModesBack.{tagged_passes}

-- Pieces of a kind P on states of a kind S, under the key of number i. One behind the text d that is within the limit and fits is done with
-- so many bytes, and leaves the state after both; and one that answered 0 is within the limit, and fits.
record Goes {S P : Type 0} (i : ℕ) (content : P → List ℕ) (size : P → ℕ) (Fit : P → Type 0) (leaves : List ℕ → P → List ℕ)
    (after : List ℕ → S) (call : S → P → Stepped S) : Type 0 where
  goes : (d : List ℕ) (p : P) → length d + length (content p) ≤ limit → Fit p
      → call (after d) p ≡ record { head = under i (finished (size p)); bytes = leaves d p; state = after (d ++ content p) }
  fits : (d : List ℕ) (p : P) → (call (after d) p).head.number ≡ 0 → (length d + length (content p) ≤ limit) × Fit p

-- so a list of them
module _ {S P : Type 0} {i : ℕ} {content : P → List ℕ} {size : P → ℕ} {Fit : P → Type 0} {leaves : List ℕ → P → List ℕ}
    {after : List ℕ → S} {call : S → P → Stepped S} (g : Goes i content size Fit leaves after call) where
  went : (d : List ℕ) (ps : List P) → length d + length (gathered P content ps) ≤ limit → Every P Fit ps
      → AllDid S P call size (after d) ps × (state_after S P call (after d) ps ≡ after (d ++ gathered P content ps))
  went d [] h f = (tt, ap after (sym (append-nil d)))
  went d (p ∷ ps) h (f, fs) =
      let n = length-append (content p) (gathered P content ps) in
      let m = length-append d (content p) in
      let (all, last) = went (d ++ content p) ps (omega arith) fs in
      rw (g.goes d p (omega arith) f) ((record { number = refl; size = refl }, all), last ∙ ap after (append_assoc d (content p) _))

  all_fit : (d : List ℕ) (ps : List P) → length d ≤ limit → AllZero S P call (after d) ps
      → (length d + length (gathered P content ps) ≤ limit) × Every P Fit ps
  all_fit d [] h z = (omega arith, tt)
  all_fit d (p ∷ ps) h (z, zs) =
      let (here, f) = g.fits d p z in
      let n = length-append (content p) (gathered P content ps) in
      let m = length-append d (content p) in
      let (all, fs) = all_fit (d ++ content p) ps (omega arith) (rw (g.goes d p here f) at zs) in
      (omega arith, (f, fs))

-- pieces that write, where `text` is what the single call gives: as many bytes as go in, and the first ones do not depend on the last
record Writes {S : Type 0} (i : ℕ) (text : List ℕ → List ℕ) (after : List ℕ → S) (call : S → Piece → Stepped S) : Type 0 where
  kept : (d : List ℕ) → length (text d) ≡ length d
  fronts : (d e : List ℕ) → text d ++ drop (length d) (text (d ++ e)) ≡ text (d ++ e)
  pieces : Goes i (λ p. p.text) size_of Room (λ d p. over (drop (length d) (text (d ++ p.text))) p.out) after call

module _ {S : Type 0} {i : ℕ} {text : List ℕ → List ℕ} {after : List ℕ → S} {call : S → Piece → Stepped S} (w : Writes i text after call)
  where
    all_wrote : (d : List ℕ) (ps : List Piece) → length d + length (whole ps) ≤ limit → Roomy ps
        → wrote S Piece call (after d) ps ≡ drop (length d) (text (d ++ whole ps))
    all_wrote d [] h r =
        let n = w.kept (d ++ []) in
        let m = length-append d [] in
        sym (drop_of_length-le (text (d ++ [])) {i = length d} (omega arith))
    all_wrote d (p ∷ ps) h (r, rs) =
        let e = p.text in
        let n = length-append e (whole ps) in
        let m = length-append d e in
        let k = w.kept (d ++ e) in
        let piece = drop (length d) (text (d ++ e)) in
        let size : length piece ≡ length e = length-drop (length d) (text (d ++ e)) ∙ omega arith in
        rw (w.pieces.goes d p (omega arith) r) (rw (take_at piece _ (length e) size, all_wrote (d ++ e) ps (omega arith) rs)
        (sym (drop-append-le (length d) (text (d ++ e)) _ (omega arith))
        ∙ ap (drop (length d)) (w.fronts (d ++ e) (whole ps) ∙ ap text (append_assoc d e (whole ps)))))

    -- Start, pieces and end are done, the pieces wrote the text and the end the tag, and it tells what the single call tells.
    module _ (ps : List Piece) (fits : length (whole ps) ≤ limit) (roomy : Roomy ps) (end : S → Stepped S) (b : Bool) (p tag t o : List ℕ)
        {start : Stepped S} {shut : S} {single : Outcome} {n : ℕ} where
      alike : start ≡ record { head = under i (finished 0); bytes = []; state = after [] }
          → end (after (whole ps)) ≡ record { head = under i (telling b (finished n)); bytes = over tag t; state = shut } → length tag ≡ n
          → single ≡ keyed i (reporting b (done p o))
          → let last = end (state_after S Piece call start.state ps) in
          AllDone S call start ps n last × (wrote S Piece call start.state ps ≡ text (whole ps)) × (written S last ≡ tag)
          × (result single ≡ p) × TellsAlike S last single
      alike starts ends size left =
          let (all, state) = went w.pieces [] ps (omega arith) roomy in
          rw (starts, left) (rw (state, ends) (
            record { start = record { number = refl; size = refl }; pieces = all; end = record { number = refl; size = refl } },
            all_wrote [] ps (omega arith) roomy,
            take_at tag _ n size,
            result-of-done p o,
            refl,
          ))

-- a piece or an end that answered 0 has passed
passed_on : (S : Type 0) (k : Checked) (o : List ℕ) (s : S) (next : Stepped S) → (goes_on S k o s next).head.number ≡ 0 → k ≡ Ok tt
passed_on S (Ok _) o s next e = refl
passed_on S (Err r) o s next e = absurd ((refuses r).not-zero e)

ctr_writes : (i mark : ℕ) (rk iv : List ℕ) → Writes i (chain (stream_mode CtrKind rk) iv) (ctr_after i mark rk iv) (onto Ctr ctr_piece)
unfolding ctr_piece ctr_after
ctr_writes i mark rk iv =
    record {
      kept = length-stream CtrKind rk iv;
      fronts = ctr-joined rk iv;
      pieces = record {
        goes = λ d p. ctr_goes_on i mark rk iv d p.text p.out;
        fits = λ d p e.
            let w = writing_passed 0 0 (length d) (size_of p) (size_of p) (length p.out) (passed_on Ctr _ p.out _ _ e) in
            (w.0.within, w.1);
      };
    }

seal_writes : (i mark : ℕ) (rk label iv : List ℕ) → length label ≤ limit
    → Writes i (text_of rk (J0 rk iv)) (seal_after i mark rk label iv) (onto Seal seal_piece)
unfolding seal_piece seal_after
seal_writes i mark rk label iv hl =
    record {
      kept = length-text rk (J0 rk iv);
      fronts = seal-joined rk (J0 rk iv);
      pieces = record {
        goes = λ d p. seal_goes_on i mark rk label iv d hl p.text p.out;
        fits = λ d p e.
            let w = writing_passed 0 (length label) (length d) (size_of p) (size_of p) (length p.out) (passed_on Seal _ p.out _ _ e) in
            (w.0.within, w.1);
      };
    }

-- data in Ctr has a limit and no shape
pub ctr-data : (dir : Direction) (n : ℕ) → data_check dir CtrMode n ≡ refuse (ltb limit n) TooLong (Ok tt)
unfolding data_check
ctr-data Encrypt n = refl
ctr-data Decrypt n = refl

-- the check of a start is where the single call's begins
pub record Begins (dir : Direction) (m : Sm4CipherMode) (label iv : List ℕ) (first : Checked) : Type 0 where
  pub check : (d o : List ℕ)
      → message_check m.cipher.answer m.cipher.retired dir m.mode (lengths_of label d iv o)
      ≡ and_then first (and_then (data_check dir m.mode (length d)) (room_check dir m.mode (length d) (length o)))

-- so where it passes, and data and room do, the single call is done
pub single-done : {dir : Direction} {m : Sm4CipherMode} {label iv : List ℕ} {first : Checked} → Begins dir m label iv first → first ≡ Ok tt
    → (d o : List ℕ) → data_check dir m.mode (length d) ≡ Ok tt → room_of m.mode dir (length d) ≤ length o
    → mode_call dir m label d iv o ≡ keyed (key_number m.cipher) (mode_result m.mode dir m.cipher.rk label d iv o)
unfolding mode_call room_check
single-done {dir} {m} f passed d o content room =
    rw (f.check d o, passed, content, le-ltb (length o) (room_of m.mode dir (length d)) room)

-- and a start is checked as it is
checked-alike : (S : Type 0) (first : Checked) (shut : ℕ → S) (s : S) (least : List ℕ) (room : ℕ) (answers : List ℕ)
    {dir : Direction} {m : Sm4CipherMode} {label iv : List ℕ} → Begins dir m label iv first
    → data_check dir m.mode (length least) ≡ Ok tt → room_of m.mode dir (length least) ≤ room
    → ((o : List ℕ) → one_of (mode_result m.mode dir m.cipher.rk label least iv o).head.number answers ≡ true)
    → CheckedAlike S least room answers (step_on S (key_number m.cipher) (begun S first shut s)) (λ d o. mode_call dir m label d iv o)
unfolding mode_call
checked-alike S (Ok _) shut s least room answers f content h answer =
    record {
      refused = λ n. absurd (n refl);
      begun = λ e o r. ap (λ (x : Outcome). one_of x.head.number answers) (single-done f refl least o content (omega arith)) ∙ answer o;
    }
checked-alike S (Err r) shut s least room answers f content h answer =
    record { refused = λ n d o. rw (f.check d o); begun = λ e. absurd ((refuses r).not-zero e) }

-- in Ctr it is that of key and IV
pub ctr-begins : (dir : Direction) (c : Sm4Cipher) (label iv : List ℕ)
    → Begins dir (record { cipher = c; mode = CtrMode }) label iv (key_and_iv c.answer c.retired dir CtrMode (length iv))
unfolding message_check
ctr-begins dir c label iv = record { check = λ d o. refl }

then_then : (a b c : Checked) → and_then a (and_then b c) ≡ and_then (and_then a b) c
then_then (Ok _) b c = refl
then_then (Err r) b c = refl

-- and in Gcm that of the label too
pub gcm-begins : (dir : Direction) (c : Sm4Cipher) (label iv : List ℕ)
    → Begins dir (in_gcm c) label iv (gcm_starting c.answer c.retired dir (length iv) (length label))
unfolding message_check gcm_starting
gcm-begins dir c label iv = record { check = λ d o. then_then (key_and_iv c.answer c.retired dir Gcm (length iv)) _ _ }

-- Under any record, either way: Ctr in pieces gives the bytes of the single call.
pub ctr_in_pieces : (decrypt : Bool) (k : LuossavinKey)
    → CtrInPieces Ctr (host_ctr_start k decrypt) ctr_piece ctr_end (host_mode_call (direction_of decrypt) 2 k)
unfolding host_ctr_start host_mode_call mode_of key_and_iv
ctr_in_pieces decrypt k ps label iv o r e =
    let c = cipher_in k in
    let dir = direction_of decrypt in
    let m : Sm4CipherMode = record { cipher = c; mode = CtrMode } in
    let p = through dir m label (whole ps) iv o e in
    let fits : length (whole ps) ≤ limit = ltb-false limit _ (let_through _ TooLong (Ok tt) (rw ctr-data at p.content)).fails in
    let (all, bytes, _, gives, told) =
    alike (ctr_writes (key_number c) c.engine c.rk iv) ps fits r ctr_end (ctr_came_round iv (blocks_of (length (whole ps)))) _ [] [] o
    (ctr_started dir c iv (rw (p.key, p.iv-size, p.may))) (ctr-ended (key_number c) c.engine c.rk iv (whole ps) fits) refl
    (leaves dir m label (whole ps) iv o p) in
    (all, bytes ∙ sym gives, told)

-- Under any record: Gcm sealing in pieces gives the ciphertext and the tag of the single call.
pub seal_in_pieces : (k : LuossavinKey) → SealInPieces Seal (host_seal_start k) seal_piece seal_end (host_mode_call Encrypt 4 k)
unfolding sealed host_seal_start host_mode_call mode_of gcm_starting key_and_iv
seal_in_pieces k ps label iv t o r room e =
    let c = cipher_in k in
    let rk = c.rk in
    let p = through Encrypt (in_gcm c) label (whole ps) iv o e in
    let hl = label_passed (length label) p.label in
    let fits : length (whole ps) ≤ limit = data-within Encrypt Gcm (length (whole ps)) p.content in
    let (all, bytes, tagged, gives, told) =
    alike (seal_writes (key_number c) c.engine rk label iv hl) ps fits r (λ s. seal_end s t) (gcm_round rk iv (length (whole ps))) _ _ t o
    (seal_started c label iv (rw (p.key, p.iv-size, p.may, p.label)))
    (seal-ended (key_number c) c.engine rk label iv (whole ps) hl t fits room) (length-tag rk (hash_key rk) (J0 rk iv) label _)
    (leaves Encrypt (in_gcm c) label (whole ps) iv o p) in
    (all, ap₂ ◌++◌ bytes tagged ∙ sym gives, told)

-- pieces of a ciphertext write nothing, and fit into no output
free : (cs : List (List ℕ)) → Every (List ℕ) (λ _. Unit {0}) cs
free [] = tt
free (c ∷ cs) = (tt, free cs)

opens_goes : (i : ℕ) (rk label iv : List ℕ) → length label ≤ limit
    → Goes i (λ c. c) none (λ _. Unit {0}) (λ _ _. []) (opens_after i rk label iv) opens_piece
unfolding opens_piece opens_after
opens_goes i rk label iv hl =
    record {
      goes = λ d e h _. opens_goes_on i rk label iv d hl e h;
      fits = λ d e z. ((running_passed 0 (length label) (length d) (length e) (passed_on Opens _ [] _ _ z)).within, tt);
    }

-- a start that answered 0 has passed
pub opens_starts : (c : Sm4Cipher) (label iv : List ℕ) → (opens_start c label iv).head.number ≡ 0
    → gcm_starting c.answer c.retired Decrypt (length iv) (length label) ≡ Ok tt
unfolding opens_start
opens_starts c label iv e = passed_start Opens _ _ _ e

-- Under any record: Gcm opening in pieces answers as the single call does.
pub opens_in_pieces : (k : LuossavinKey) → OpensInPieces Opens (host_opens_start k) opens_piece opens_end (host_mode_call Decrypt 4 k)
unfolding gcm_open host_opens_start host_mode_call mode_of
opens_in_pieces key cs label iv tag o fits room n e =
    let c = cipher_in key in
    let rk = c.rk in
    let text = joined cs in
    let passed = opens_starts c label iv e in
    let hl = (starting_passed c.answer c.retired Decrypt (length iv) (length label) passed).labelled in
    let (all, state) = went (opens_goes (key_number c) rk label iv hl) [] cs (omega arith) (free cs) in
    let m : length (text ++ tag) ≡ length text + length tag = length-append text tag in
    let size : length (text ++ tag) - 16 ≡ length text = omega arith in
    let content = tagged_passes (length (text ++ tag)) (omega arith) (omega arith) in
    let left = single-done (gcm-begins Decrypt c label iv) passed (text ++ tag) o content (omega arith) in
    let end = ap (λ (y : Opens). opens_end y tag) state ∙ opens-ended (key_number c) rk label iv text hl tag fits n in
    -- the same test decides the single call
    let test = opens_under rk (hash_key rk) (J0 rk iv) label (text ++ tag) in
    rw (opens_started c label iv passed) (rw (end, left, size)
    (all, by_test test (λ f. rw f) (λ f. rw f), by_test test (λ f. rw f) (λ f. rw f)))

-- Where start, pieces and end all answer 0, the exported single call, given room, does too, with the same bytes.
pub ctr-of-pieces : (decrypt : Bool) (k : LuossavinKey)
    → CtrOfPieces Ctr (host_ctr_start k decrypt) ctr_piece ctr_end (host_mode_call (direction_of decrypt) 2 k)
unfolding host_ctr_start ctr_start host_mode_call mode_of
ctr-of-pieces decrypt k ps label iv o room e z _ =
    let c = cipher_in k in
    let dir = direction_of decrypt in
    let passed : key_and_iv c.answer c.retired dir CtrMode (length iv) ≡ Ok tt = passed_start Ctr _ _ _ e in
    let (within, roomy) =
    all_fit (ctr_writes (key_number c) c.engine c.rk iv).pieces [] ps (omega arith) (rw passed at z) in
    let zero = ap (λ (x : Outcome). x.head.number)
    (single-done (ctr-begins dir c label iv) passed (whole ps) o (rw (ctr-data, le-ltb limit (length (whole ps)) (omega arith))) room) in
    let made = ctr_in_pieces decrypt k ps label iv o roomy zero in
    (zero, made.1, made.2)

pub seal-of-pieces : (k : LuossavinKey) → SealOfPieces Seal (host_seal_start k) seal_piece seal_end (host_mode_call Encrypt 4 k)
unfolding host_seal_start seal_start seal_end seal_after host_mode_call mode_of data_check
seal-of-pieces k ps label iv t o room e z last =
    let c = cipher_in k in
    let passed = passed_start Seal _ _ _ e in
    let hl = (starting_passed c.answer c.retired Encrypt (length iv) (length label) passed).labelled in
    let goes = (seal_writes (key_number c) c.engine c.rk label iv hl).pieces in
    let (within, roomy) = all_fit goes [] ps (omega arith) (rw passed at z) in
    let ended = rw (passed, (went goes [] ps (omega arith) roomy).1) at last in
    let sixteen = (writing_passed 0 (length label) (length (whole ps)) 0 16 (length t) (passed_on Seal _ t _ _ ended)).1 in
    let zero = ap (λ (x : Outcome). x.head.number)
    (single-done (gcm-begins Encrypt c label iv) passed (whole ps) o (rw (le-ltb limit (length (whole ps)) (omega arith))) room) in
    let made = seal_in_pieces k ps label iv t o roomy sixteen zero in
    (zero, made.1, made.2)

pub opens-of-pieces : (k : LuossavinKey) → OpensOfPieces Opens (host_opens_start k) opens_piece opens_end (host_mode_call Decrypt 4 k)
unfolding host_opens_start opens_end opens_after host_mode_call mode_of
opens-of-pieces key cs label iv tag o room e z last =
    let c = cipher_in key in
    let passed = opens_starts c label iv e in
    let hl = (starting_passed c.answer c.retired Decrypt (length iv) (length label) passed).labelled in
    let start = opens_started c label iv passed in
    let goes = opens_goes (key_number c) c.rk label iv hl in
    let (within, f) = all_fit goes [] cs (omega arith) (rw start at z) in
    let ended = rw (start, (went goes [] cs (omega arith) f).1) at last in
    let sixteen = (tagged_passed 0 (length label) (length (joined cs)) (length tag) (passed_on Opens _ [] _ _ ended)).1 in
    sym (opens_in_pieces key cs label iv tag o (omega arith) room sixteen e).1 ∙ last

-- A start is checked as the exported single call is: of no data, and for an opening of a tag alone.
pub ctr-checked : (decrypt : Bool) (k : LuossavinKey) (label iv : List ℕ)
    → CheckedAlike Ctr [] 0 (0 ∷ []) (host_ctr_start k decrypt iv) (λ d o. host_mode_call (direction_of decrypt) 2 k label d iv o)
unfolding host_ctr_start ctr_start host_mode_call mode_of
ctr-checked decrypt k label iv =
    checked-alike Ctr _ _ _ [] 0 (0 ∷ []) (ctr-begins (direction_of decrypt) (cipher_in k) label iv) (ctr-data (direction_of decrypt) 0)
    (omega arith) (λ o. refl)

pub seal-checked : (k : LuossavinKey) (label iv : List ℕ)
    → CheckedAlike Seal [] 16 (0 ∷ []) (host_seal_start k label iv) (λ d o. host_mode_call Encrypt 4 k label d iv o)
unfolding host_seal_start seal_start host_mode_call mode_of data_check
seal-checked k label iv = checked-alike Seal _ _ _ [] 16 (0 ∷ []) (gcm-begins Encrypt (cipher_in k) label iv) refl (omega arith) (λ o. refl)

pub opens-checked : (k : LuossavinKey) (label iv tag : List ℕ) → length tag ≡ 16
    → CheckedAlike Opens tag 0 (0 ∷ 4 ∷ []) (host_opens_start k label iv) (λ d o. host_mode_call Decrypt 4 k label d iv o)
unfolding host_opens_start opens_start host_mode_call mode_of gcm_open
opens-checked k label iv tag n =
    let rk = (cipher_in k).rk in
    checked-alike Opens _ _ _ tag 0 (0 ∷ 4 ∷ []) (gcm-begins Decrypt (cipher_in k) label iv)
    (tagged_passes (length tag) (omega arith) (omega arith)) (omega arith)
    (λ o. by_test (opens_under rk (hash_key rk) (J0 rk iv) label tag) (λ f. rw f) (λ f. rw f))
