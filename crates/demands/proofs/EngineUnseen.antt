-- The engine is never seen: no definition of an outcome looks at its mark. Where a call leaves a state, the state's mark is all that
-- differs, whether the call was refused or not.
use Rattle.demands.specs.Names as N
use N.{cond, List, [], ◌∷◌, map, ◌∙◌, ◌≡◌, ap, refl, sym, ◌+◌, suc, zero, ℕ, eqb, drop, length, take, block_call, mode_call, key_and_iv}
use N.{key_number, with_engine, Ctr as CtrMode, Encrypt, Sm4Cipher, Checked, Ok, Err, Stepped, begun, goes_on, step_on, ctr_end}
use N.{ctr_piece, ctr_start, opens_start, seal_end, seal_piece, seal_start, gcm_starting, running, writing, ctr_after, seal_after}
use N.{CtrState as Ctr, Seal, which, plan_call, range_call, front_journal as front, size_at_journal as size_at, key_at, any_retired, bad_keys}
use N.{number_twice, place_of, call_into, replay, replay_one, replay_up_to, nothing, Replayed, journal_then, done_journal, Report, host_block_call, host_mode_call, direction_of}
use N.{host_ctr_start, host_opens_start, host_seal_start, host_replay, keys_of, cipher_in, host_key_engine, host_ctr_by_plan}
use N.{host_ctr_range, host_which, LuossavinKeys, LuossavinKey}
use Rattle.demands.specs.EngineUnseen.{unmarked, unmarked_ctr, unmarked_seal, seen, CtrAlike, SealAlike, unmarked_host, ReportedAlike}
use Rattle.demands.specs.EngineUnseen.{unmarked_keys}
use mathlib.Core.List.{map-map}
use lib.ListN.{length-map, get_or-map}

-- what does not look at a mark is the same of things that are alike but for it
by_mark : {R O : Type 0} (without : R → R) (r s : R) → without r ≡ without s → (f : R → O) → ((x : R) → f (without x) ≡ f x) → f r ≡ f s
by_mark without r s alike f e = sym (e r) ∙ ap f alike ∙ e s

-- a call that leaves a state, by what its check says
starts_alike : {S : Type 0} (without : S → S) (n : ℕ) (k : Checked) (shut : ℕ → S) (s t : S) → without s ≡ without t
    → seen S without (step_on S n (begun S k shut s)) ≡ seen S without (step_on S n (begun S k shut t))
starts_alike without n (Ok _) shut s t e = rw e
starts_alike without n (Err r) shut s t e = refl

goes_alike : {S : Type 0} (without : S → S) (n : ℕ) (k : Checked) (o : List ℕ) (s t : S) (x y : Stepped S) → without s ≡ without t
    → seen S without x ≡ seen S without y
    → seen S without (step_on S n (goes_on S k o s x)) ≡ seen S without (step_on S n (goes_on S k o t y))
goes_alike {S} without n (Ok _) o s t x y e f = ap (step_on S n) f
goes_alike without n (Err r) o s t x y e f = rw e

-- Records that are alike but for the engine.
pub engine_unseen : (k l : LuossavinKey) → unmarked_host k ≡ unmarked_host l → ReportedAlike k l
unfolding host_key_engine cipher_in host_block_call block_call host_mode_call mode_call host_ctr_start ctr_start ctr_after host_seal_start
    seal_start seal_after host_opens_start opens_start host_which which host_ctr_range range_call host_ctr_by_plan plan_call
engine_unseen k l alike =
    record {
      block = λ dir b o. by_mark unmarked_host k l alike (λ x. host_block_call dir x b o) (λ x. refl);
      message = λ dir mode label e iv o. by_mark unmarked_host k l alike (λ x. host_mode_call dir mode x label e iv o) (λ x. refl);
      ctr = λ decrypt iv. by_mark unmarked_host k l alike (λ x. seen Ctr unmarked_ctr (host_ctr_start x decrypt iv)) (λ x.
          let c = cipher_in x in
          starts_alike unmarked_ctr _ (key_and_iv c.answer c.retired (direction_of decrypt) CtrMode (length iv)) _ _ _ refl);
      sealing = λ label iv. by_mark unmarked_host k l alike (λ x. seen Seal unmarked_seal (host_seal_start x label iv)) (λ x.
          let c = cipher_in x in
          starts_alike unmarked_seal _ (gcm_starting c.answer c.retired Encrypt (length iv) (length label)) _ _ _ refl);
      opening = λ label iv. by_mark unmarked_host k l alike (λ x. host_opens_start x label iv) (λ x. refl);
      which = λ file iv labels lengths. by_mark unmarked_host k l alike (λ x. host_which x file iv labels lengths) (λ x. refl);
      range = λ decrypt iv offset e o. by_mark unmarked_host k l alike (λ x. host_ctr_range x decrypt iv offset e o) (λ x. refl);
      by_plan = λ decrypt iv plan e o. by_mark unmarked_host k l alike (λ x. host_ctr_by_plan x decrypt iv plan e o) (λ x. refl);
    }

-- Marking a host's record changes nothing that a call tells.
pub marked-alike : (k : LuossavinKey) (e : ℕ) → ReportedAlike (host_key_engine k e) k
unfolding host_key_engine
marked-alike k e = engine_unseen (host_key_engine k e) k refl

-- States that are.
pub engine_unseen_in_ctr : (s t : Ctr) → unmarked_ctr s ≡ unmarked_ctr t → CtrAlike s t
unfolding ctr_piece ctr_end
engine_unseen_in_ctr s t alike =
    record {
      piece = λ e o. by_mark unmarked_ctr s t alike (λ x. seen Ctr unmarked_ctr (ctr_piece x e o)) (λ x.
          goes_alike unmarked_ctr _ (writing x.stands 0 x.total (length e) (length e) (length o)) o (unmarked_ctr x) x _ _ refl refl);
      end = by_mark unmarked_ctr s t alike (λ x. seen Ctr unmarked_ctr (ctr_end x)) (λ x.
          goes_alike unmarked_ctr _ (running x.stands 0 x.total 0) [] (unmarked_ctr x) x _ _ refl refl);
    }

pub engine_unseen_in_seal : (s t : Seal) → unmarked_seal s ≡ unmarked_seal t → SealAlike s t
unfolding seal_piece seal_end
engine_unseen_in_seal s t alike =
    record {
      piece = λ e o. by_mark unmarked_seal s t alike (λ x. seen Seal unmarked_seal (seal_piece x e o)) (λ x.
          let k = writing x.stands x.label x.total (length e) (length e) (length o) in
          goes_alike unmarked_seal _ k o (unmarked_seal x) x _ _ refl refl);
      end = λ o. by_mark unmarked_seal s t alike (λ x. seen Seal unmarked_seal (seal_end x o)) (λ x.
          goes_alike unmarked_seal _ (writing x.stands x.label x.total 0 16 (length o)) o (unmarked_seal x) x _ _ refl refl);
    }

-- What a host's record is without its mark.
pub host_unmarked : (k : LuossavinKey) → cipher_in (unmarked_host k) ≡ unmarked (cipher_in k)
unfolding cipher_in host_key_engine with_engine
host_unmarked k = refl

-- Nor is the engine seen in a replay: the keys' numbers and marks of retirement are looked at, and every record is made again by a call
-- that does not show it.

-- keys without their marks
take-unmarked : (n : ℕ) (cs : List Sm4Cipher) → take n (map unmarked cs) ≡ map unmarked (take n cs)
take-unmarked zero cs = refl
take-unmarked (suc n) [] = refl
take-unmarked (suc n) (c ∷ cs) = ap (λ (l : List Sm4Cipher). unmarked c ∷ l) (take-unmarked n cs)

-- the key that a number names
place-unmarked : (n : ℕ) (cs : List Sm4Cipher) → place_of n (map unmarked cs) ≡ place_of n cs
unfolding place_of with_engine
place-unmarked n [] = refl
place-unmarked n (c ∷ cs) = ap (λ (i : ℕ). cond (eqb (key_number c) n) 0 (1 + i)) (place-unmarked n cs)

-- what is bad of keys
bad-unmarked : (cs : List Sm4Cipher) → (any_retired (map unmarked cs) ≡ any_retired cs) × (number_twice (map unmarked cs) ≡ number_twice cs)
unfolding any_retired number_twice with_engine
bad-unmarked [] = (refl, refl)
bad-unmarked (c ∷ cs) =
    let (retired, twice) = bad-unmarked cs in
    (rw retired, rw (place-unmarked (key_number c) cs, length-map cs unmarked, twice))

-- a record made again
one-unmarked : (ks : List Sm4Cipher) (b : List ℕ) (place : ℕ) (r : Report)
    → replay_one (map unmarked ks) b place r ≡ replay_one ks b place r
unfolding replay_one call_into mode_call with_engine
one-unmarked ks b place r =
    let n = (front b).key in
    rw (place-unmarked n ks, length-map ks unmarked, get_or-map unmarked ks (place_of n ks) (key_at [] 0))

then_alike : (x : Replayed) (f g : Report → Replayed) → ((r : Report) → f r ≡ g r) → journal_then x f ≡ journal_then x g
then_alike (Ok r) f g e = e r
then_alike (Err x) f g e = refl

up_to_unmarked : (n : ℕ) (ks : List Sm4Cipher) (b : List ℕ) (place : ℕ) (r : Report)
    → replay_up_to n (map unmarked ks) b place r ≡ replay_up_to n ks b place r
unfolding replay_up_to
up_to_unmarked zero ks b place r = refl
up_to_unmarked (suc n) ks b place r =
    rw (one-unmarked ks b place r)
    (ap {B = Replayed} (λ (x : Replayed). cond (eqb (length b) 0) (done_journal r) x)
    (then_alike (replay_one ks b place r) _ _ (up_to_unmarked n ks (drop (size_at b) b) (place + size_at b))))

unmarked-replay : (k : LuossavinKeys) (journal : List ℕ) → host_replay (unmarked_keys k) journal ≡ host_replay k journal
unfolding host_replay keys_of cipher_in host_key_engine with_engine replay bad_keys
unmarked-replay k journal =
    let ks = take k.count (map cipher_in k.keys) in
    let hosts : map cipher_in (map unmarked_host k.keys) ≡ map unmarked (map cipher_in k.keys) =
    map-map cipher_in unmarked_host k.keys ∙ sym (map-map unmarked cipher_in k.keys) in
    rw (hosts, take-unmarked k.count, (bad-unmarked ks).0, (bad-unmarked ks).1, up_to_unmarked (length journal) ks journal 0 nothing)

-- Keys that are alike but for their engines.
pub engine_unseen_in_replay : (k l : LuossavinKeys) → unmarked_keys k ≡ unmarked_keys l → (journal : List ℕ)
    → host_replay k journal ≡ host_replay l journal
engine_unseen_in_replay k l alike journal = by_mark unmarked_keys k l alike (λ x. host_replay x journal) (λ x. unmarked-replay x journal)
