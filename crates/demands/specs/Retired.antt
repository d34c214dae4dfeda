-- Retired keys, as properties of any function that hands back a host's record and of any record that is retired. Its mark is any byte but
-- 0.
use Rattle.demands.specs.Names as N
use Rattle.std.specs.Prelude.{◌++◌, ◌∷◌, ◌≢◌, ◌≡◌}
use N.{false, true, List, ℕ, take, Decrypt, Encrypt, Plan, host_block_call, host_mode_call, host_ctr_start, host_opens_start}
use N.{host_seal_start, host_replay, host_ctr_by_plan, host_ctr_range, host_which, LuossavinKeys, LuossavinKey}
use Rattle.demands.specs.InTheJournal.{bad_keys_told}

-- a retired record does not come back unretired
abbrev pub StaysRetired : (LuossavinKey → LuossavinKey) → Type 0
StaysRetired f = (k : LuossavinKey) → k.retired ≢ 0 → (f k).retired ≢ 0

-- whatever was to be decrypted under the record k is decrypted, or refused, under l as before, with the same bytes and the same report
pub record DecryptsAlike (k l : LuossavinKey) : Type 0 where
  pub block : (b o : List ℕ) → host_block_call Decrypt l b o ≡ host_block_call Decrypt k b o
  pub message : (mode : ℕ) (label s iv o : List ℕ) → host_mode_call Decrypt mode l label s iv o ≡ host_mode_call Decrypt mode k label s iv o
  pub ctr : (iv : List ℕ) → host_ctr_start l true iv ≡ host_ctr_start k true iv
  pub opens : (label iv : List ℕ) → host_opens_start l label iv ≡ host_opens_start k label iv
  pub which : (file iv labels lengths : List ℕ) → host_which l file iv labels lengths ≡ host_which k file iv labels lengths
  pub range : (iv : List ℕ) (offset : ℕ) (d o : List ℕ) → host_ctr_range l true iv offset d o ≡ host_ctr_range k true iv offset d o
  pub by_plan : (iv : List ℕ) (plan : Plan) (d o : List ℕ) → host_ctr_by_plan l true iv plan d o ≡ host_ctr_by_plan k true iv plan d o

-- nothing is encrypted under the record k, and no journal is replayed with it
pub record EncryptsNothing (k : LuossavinKey) : Type 0 where
  pub block : (b o : List ℕ) → (host_block_call Encrypt k b o).head.number ≢ 0
  pub message : (mode : ℕ) (label d iv o : List ℕ) → (host_mode_call Encrypt mode k label d iv o).head.number ≢ 0
  pub ctr : (iv : List ℕ) → (host_ctr_start k false iv).head.number ≢ 0
  pub seal : (label iv : List ℕ) → (host_seal_start k label iv).head.number ≢ 0
  pub range : (iv : List ℕ) (offset : ℕ) (d o : List ℕ) → (host_ctr_range k false iv offset d o).head.number ≢ 0
  pub by_plan : (iv : List ℕ) (plan : Plan) (d o : List ℕ) → (host_ctr_by_plan k false iv plan d o).head.number ≢ 0
  pub replay : (keys : LuossavinKeys) (before after : List LuossavinKey) (journal : List ℕ)
      → take keys.count keys.keys ≡ before ++ (k ∷ after) → host_replay keys journal ≡ bad_keys_told
