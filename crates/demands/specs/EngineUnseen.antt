-- What the engine must not show. Records, or states, that are alike but for its mark are answered alike by every public call: the same
-- number and report, the same bytes, and a next state that is alike again.
use Rattle.demands.specs.Names as N
use Rattle.std.specs.Prelude.{◌≡◌}
use N.{Bool, List, map, ℕ, with_engine, Direction, Sm4Cipher, Stepped, ctr_end, ctr_piece, seal_end, seal_piece, CtrState as Ctr, Seal}
use N.{Plan, host_block_call, host_mode_call, host_ctr_start, host_opens_start, host_seal_start, host_key_engine, host_ctr_by_plan}
use N.{host_ctr_range, host_which, LuossavinKeys, LuossavinKey}

-- a record whose engine the library chooses, and all else as it was
abbrev pub unmarked : Sm4Cipher → Sm4Cipher
unmarked c = with_engine 0 c

-- so a state
abbrev pub unmarked_ctr : Ctr → Ctr
unmarked_ctr s = record {
  rk = s.rk;
  flow = s.flow;
  first = s.first;
  total = s.total;
  stands = s.stands;
  key = s.key;
  engine = 0;
}

abbrev pub unmarked_seal : Seal → Seal
unmarked_seal s = record {
  rk = s.rk;
  flow = s.flow;
  hashing = s.hashing;
  mask = s.mask;
  label = s.label;
  total = s.total;
  low = s.low;
  stands = s.stands;
  key = s.key;
  engine = 0;
}

-- what a call leaves, without the mark in its state
abbrev pub seen : (S : Type 0) → (S → S) → Stepped S → Stepped S
seen S without x = record { head = x.head; bytes = x.bytes; state = without x.state }

-- the calls on a state; an opening's has no mark
pub record CtrAlike (s t : Ctr) : Type 0 where
  pub piece : (e o : List ℕ) → seen Ctr unmarked_ctr (ctr_piece s e o) ≡ seen Ctr unmarked_ctr (ctr_piece t e o)
  pub end : seen Ctr unmarked_ctr (ctr_end s) ≡ seen Ctr unmarked_ctr (ctr_end t)

pub record SealAlike (s t : Seal) : Type 0 where
  pub piece : (e o : List ℕ) → seen Seal unmarked_seal (seal_piece s e o) ≡ seen Seal unmarked_seal (seal_piece t e o)
  pub end : (o : List ℕ) → seen Seal unmarked_seal (seal_end s o) ≡ seen Seal unmarked_seal (seal_end t o)

-- a host's record whose engine the library chooses, and so each of the keys of a journal
abbrev pub unmarked_host : LuossavinKey → LuossavinKey
unmarked_host k = host_key_engine k 0

abbrev pub unmarked_keys : LuossavinKeys → LuossavinKeys
unmarked_keys k = record { count = k.count; keys = map unmarked_host k.keys }

-- the exported calls on a host's record; those on a state are the library's own
pub record ReportedAlike (k l : LuossavinKey) : Type 0 where
  pub block : (dir : Direction) (b o : List ℕ) → host_block_call dir k b o ≡ host_block_call dir l b o
  pub message : (dir : Direction) (mode : ℕ) (label e iv o : List ℕ)
      → host_mode_call dir mode k label e iv o ≡ host_mode_call dir mode l label e iv o
  pub ctr : (decrypt : Bool) (iv : List ℕ)
      → seen Ctr unmarked_ctr (host_ctr_start k decrypt iv) ≡ seen Ctr unmarked_ctr (host_ctr_start l decrypt iv)
  pub sealing : (label iv : List ℕ)
      → seen Seal unmarked_seal (host_seal_start k label iv) ≡ seen Seal unmarked_seal (host_seal_start l label iv)
  pub opening : (label iv : List ℕ) → host_opens_start k label iv ≡ host_opens_start l label iv
  pub which : (file iv labels lengths : List ℕ) → host_which k file iv labels lengths ≡ host_which l file iv labels lengths
  pub range : (decrypt : Bool) (iv : List ℕ) (offset : ℕ) (e o : List ℕ)
      → host_ctr_range k decrypt iv offset e o ≡ host_ctr_range l decrypt iv offset e o
  pub by_plan : (decrypt : Bool) (iv : List ℕ) (plan : Plan) (e o : List ℕ)
      → host_ctr_by_plan k decrypt iv plan e o ≡ host_ctr_by_plan l decrypt iv plan e o
