-- A host's record that no call uses as a key.
use Rattle.demands.specs.Names as N
use Rattle.std.specs.Prelude.{◌≡◌, ◌≤◌}
use N.{Bool, false, List, ℕ, replicate, refusal, refused, Direction, bad_list, none_with, Plan, answer_now, Entry, key_of_journal as key_of}
use N.{keys_in, host_block_call, host_mode_call, host_ctr_start, host_opens_start, host_seal_start, keys_of, cipher_in, host_ctr_by_plan}
use N.{host_ctr_range, host_which, told_of, LuossavinKeys, LuossavinKey}

-- Every call on k is refused as n with the output as it was lent, and on no key. What is told before a key is looked at stands before it:
-- 7 for a mode above 4, and 16 for a bad list of labels.
pub record NoUsableKey (n : ℕ) (k : LuossavinKey) : Type 0 where
  pub block : (dir : Direction) (b o : List ℕ) → host_block_call dir k b o ≡ refused n o
  pub message : (dir : Direction) (mode : ℕ) → mode ≤ 4 → (label d iv o : List ℕ) → host_mode_call dir mode k label d iv o ≡ refused n o
  pub ctr : (decrypt : Bool) (iv : List ℕ) → (host_ctr_start k decrypt iv).head ≡ refusal n
  pub sealing : (label iv : List ℕ) → (host_seal_start k label iv).head ≡ refusal n
  pub opening : (label iv : List ℕ) → (host_opens_start k label iv).head ≡ refusal n
  pub which : (file iv labels lengths : List ℕ) → bad_list labels lengths ≡ false
      → host_which k file iv labels lengths ≡ told_of (none_with (refusal n))
  pub range : (decrypt : Bool) (iv : List ℕ) (offset : ℕ) (d o : List ℕ) → host_ctr_range k decrypt iv offset d o ≡ refused n o
  pub by_plan : (decrypt : Bool) (iv : List ℕ) (plan : Plan) (d o : List ℕ) → host_ctr_by_plan k decrypt iv plan d o ≡ refused n o
  -- a recorded call that a replay makes again on it
  pub replay : (keys : LuossavinKeys) (e : Entry) → key_of e.key (keys_in (keys_of keys)) ≡ cipher_in k → e.mode ≤ 4
      → answer_now (keys_in (keys_of keys)) e ≡ refused n (replicate e.room 0)
