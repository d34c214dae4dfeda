-- How many hash keys could ever confuse two files: `roots` has it for all lengths that can be hashed, and here are the limits, the
-- labels of jobs and editions, and two pairs at which the bound is reached.
use Rattle.demands.specs.Names as N
use N.{Mem, PairwiseCons, [], ◌∷◌, mem_of_ne_of_mem, mem-singleton, Pairwise-singleton, ◌≢◌, ⊎_elim, ◌≡◌, ap, refl, ◌+◌, ◌^◌, ◌≤◌, ℕ}
use N.{eq-zero-or-pos, le_trans, lt_of_le_of_lt, max-le, mul-le-mul_right, ℕ_set, arith, lit<, length, length-append, bytes_of, number_of}
use N.{Element, gmul, mul_from, times_x, auth_blocks, block_count, GhashBlock as block_of, blocks, blocks_from, hash_from, length_block}
use N.{AtMost, Confuses, Pair, hashed_count, pair_hash, hash_key, mode_of, Decrypt, label_of, host_mode_call, cipher_in, LuossavinKey}
use Rattle.roots.proofs.FewConfuse.{few_confuse, zero_confuses}
use Rattle.roots.proofs.EveryElement.{more_have}
use Rattle.label.proofs.LabelTells.{length_label, label-bytes, label-job, label-edition}
use Rattle.demands.specs.HashKeys.{WithinLimits, FewKeysConfuse, ZeroKeyConfuses, RarelyConfused, under, FewConfuseEditions, one_block}
use Rattle.demands.specs.HashKeys.{nothing, BoundReached, UnconfusedRefused, without_lengths}
use Rattle.demands.proofs.OneBlockRefused.{other_hash-refused}

pub few-keys_confuse : FewKeysConfuse pair_hash
few-keys_confuse p q wp wq = few_confuse p q (search arith) (search arith)

pub zero-key_confuses : ZeroKeyConfuses pair_hash
zero-key_confuses = zero_confuses

-- no more than both have blocks
at_most : (n : ℕ) (p q : Pair) → WithinLimits p → WithinLimits q → hashed_count p ≤ n → hashed_count q ≤ n → p ≢ q
    → AtMost n (Confuses pair_hash p q)
at_most n p q wp wq hp hq ne hs g = le_trans (few-keys_confuse p q wp wq ne hs g) (max-le hp hq)

pub rarely_confused : RarelyConfused pair_hash
rarely_confused p q wp wq ne =
    -- 1,048,576 blocks of label, as many of ciphertext, and the length block
    let few = at_most 2097153 p q wp wq (omega arith) (omega arith) ne in
    (few, λ hs g. lt_of_le_of_lt (mul-le-mul_right (10 ^ 32) (few hs g)) (lit< tt))

pub few_confuse_editions : FewConfuseEditions pair_hash
few_confuse_editions job₁ job₂ edition₁ edition₂ n c₁ c₂ hj₁ hj₂ he₁ he₂ b₁ b₂ l₁ l₂ l ne =
    -- a label is one block
    let size₁ = length_label job₁ edition₁ in
    let size₂ = length_label job₂ edition₂ in
    at_most (block_count n + 2) (under job₁ edition₁ c₁) (under job₂ edition₂ c₂) (search (label-bytes, arith))
    (search (label-bytes, arith)) (omega arith) (omega arith) (λ e.
    let labels : label_of job₁ edition₁ ≡ label_of job₂ edition₂ = ap (λ (p : Pair). p.label) e in
    let job = label-job job₁ edition₁ job₂ edition₂ labels hj₁ hj₂ in
    let edition = label-edition job₁ edition₁ job₂ edition₂ labels he₁ he₂ in
    ne (job, edition, ap (λ (p : Pair). p.ciphertext) e))

-- 80 and fifteen 00 is the one of the field and the length block of 16 bytes 128, so the hash is (H + 128) times H
confused-at_128 : Confuses pair_hash one_block nothing 128
unfolding number_of bytes_of times_x mul_from gmul block_of blocks_from blocks length_block auth_blocks hash_from
confused-at_128 = refl

pub bound_reached : BoundReached pair_hash
bound_reached = record { confused = record { different = PairwiseCons apart (Pairwise-singleton _ 128); each = each }; count = refl }
  where
    apart : (h : ℕ) → Mem h (128 ∷ []) → 0 ≢ h
    apart h m e = omega (arith, (mem-singleton ℕ_set).0 m, e)

    each : (h : ℕ) → Mem h (0 ∷ 128 ∷ []) → Element h × Confuses pair_hash one_block nothing h
    each h m =
        ⊎_elim (λ z. rw z (lit< tt, zero_confuses one_block nothing))
        (λ pos. rw ((mem-singleton ℕ_set).0 (mem_of_ne_of_mem (λ z. omega (arith, pos, z)) m)) (lit< tt, confused-at_128)) (eq-zero-or-pos h)

pub unconfused_refused : (k : LuossavinKey) → UnconfusedRefused (hash_key k.round_keys) (host_mode_call Decrypt 4 k)
unfolding host_mode_call mode_of cipher_in
unconfused_refused k p q t iv o₁ o₂ w n room ne opens =
    let size = length-append q.ciphertext t in
    let l = w.ciphertext-limit in
    other_hash-refused (cipher_in k) p.label q.label p.ciphertext q.ciphertext t iv o₁ o₂ n ne
    (record { label = w.label-limit; longest = omega arith; shortest = omega arith; room = omega arith })
    opens

-- Without the length block the bound does not hold: every H confuses the labels 00 and 00 00, of two blocks each.
pub without-lengths_contradicts : ¬ FewKeysConfuse without_lengths
unfolding number_of block_of blocks_from blocks
without-lengths_contradicts few =
    let p : Pair = record { label = 0 ∷ []; ciphertext = [] } in
    let q : Pair = record { label = 0 ∷ 0 ∷ []; ciphertext = [] } in
    more_have _ (λ h. refl) 2 (lit< tt)
    (few p q (omega arith) (omega arith) (λ e. omega (arith, ap (λ (r : Pair). length r.label) e)))
