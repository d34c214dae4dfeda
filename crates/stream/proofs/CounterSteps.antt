-- What the steps of a walk in Ctr and in Gctr say, whatever the message is, is what its counter's steps say, by induction on the steps; and
-- that is what the formula of W8 says.
use Rattle.stream.proofs.Names.{AreBytes, Bool, Ctr, Gctr, List, Mode, ◌-◌, ◌∙◌, ◌≡◌, any_passes, blocks_of, ctr_steps_tell}
use Rattle.stream.proofs.Names.{ctr_came_round, ctr_next, ctr_passes, ctr_walk_says, drop, gcm_steps_tell, gcm_blocks_say, gcm_came_round}
use Rattle.stream.proofs.Names.{gcm_next, gcm_passes, gcm_walk_says, last_four, length, refl, stream_mode, suc, take, walk_passes, zero, ℕ}

-- a walk whose next state does not depend on the message
walk_passes_lem : (m : Mode) (next : List ℕ → List ℕ) (passes : List ℕ → Bool) → ((s b : List ℕ) → m.next s b ≡ next s)
    → (n : ℕ) (s d : List ℕ) → walk_passes m passes n s d ≡ any_passes next passes n s
unfolding walk_passes any_passes
walk_passes_lem m next passes e zero s d = refl
walk_passes_lem m next passes e (suc n) s d = rw (e s (take 16 d), walk_passes_lem m next passes e n (next s) (drop 16 d))

gcm-blocks : (rk j d : List ℕ) (b : ℕ) → gcm_blocks_say rk j d b ≡ any_passes gcm_next gcm_passes b j
unfolding any_passes
gcm-blocks rk j d zero = refl
gcm-blocks rk j d (suc b) = rw (walk_passes_lem (stream_mode Gctr rk) gcm_next gcm_passes (λ s b. refl) b (gcm_next j) d)

pub ctr-walk-says : (rk iv d : List ℕ) → length iv ≡ 16 → AreBytes iv → ctr_walk_says rk iv d ≡ ctr_came_round iv (blocks_of (length d))
unfolding ctr_walk_says
ctr-walk-says rk iv d n a =
    walk_passes_lem (stream_mode Ctr rk) ctr_next ctr_passes (λ s b. refl) (blocks_of (length d) - 1) iv d
    ∙ ctr_steps_tell iv n a (blocks_of (length d))

pub gcm-walk-says : (rk j d : List ℕ) → length j ≡ 16 → AreBytes j
    → gcm_walk_says rk j d ≡ gcm_came_round (last_four j) (blocks_of (length d))
unfolding gcm_walk_says
gcm-walk-says rk j d n a = gcm-blocks rk j d (blocks_of (length d)) ∙ gcm_steps_tell j n a (blocks_of (length d))
