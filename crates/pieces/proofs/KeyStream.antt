-- Key stream cut anywhere: from the flow after a text, what is behind it goes on as in the whole.
use Rattle.pieces.proofs.Names.{Counting, Flow, Gcm, List, Mode, [], ◌%◌, ◌++◌, ◌-◌, ◌<◌, ◌∙◌, ◌≡◌, ap, append_assoc, append-nil}
use Rattle.pieces.proofs.Names.{arith, begun_part, chain, chain-block, chain_cut, chain-rest, drop, drop_at, drop_of_length-le}
use Rattle.pieces.proofs.Names.{encrypt_block, end-block, end_cut, end_rest, end_state, flow_after, flow_at, flow_mode, flow_next}
use Rattle.pieces.proofs.Names.{flow_text, full_part, kind_of, le-ltb, length, length-append, length-drop, length-encrypt_block}
use Rattle.pieces.proofs.Names.{length-stream, lt-ltb, next_counter, refl, sym, take, xors, ℕ}
use Rattle.pieces.specs.declared.flow.Counting.TheVariants.{Ctr}
use Rattle.pieces.proofs.Cases.{by_order}
use Rattle.pieces.proofs.Pads.{xors-front, xors_cut, length_both}
use Rattle.pieces.proofs.Begun.{full_length, begun-length, both-parts, parts-behind, take_through, drop_through}

-- the next state is the next counter, whatever the block is
counts : (c : Counting) (rk s b : List ℕ) → (flow_mode c rk).next s b ≡ next_counter c s
counts Ctr rk s b = refl
counts Gcm rk s b = refl

module _ (c : Counting) (rk : List ℕ) where
  abbrev m : Mode
  m = flow_mode c rk

  -- before the first byte
  pub flow_start : (s : List ℕ) → flow_at rk s ≡ flow_after c rk s []
  unfolding flow_after
  flow_start s = rw (end_rest m s [] (omega arith))

  -- a text that does not fill the begun block needs no more of the stream
  pub text-short : (f : Flow) (p : ℕ) (e : List ℕ) → length e < 16 - p → flow_text c rk f p e ≡ xors e (drop p f.pad)
  unfolding flow_text
  text-short f p e h =
      let none : chain m (next_counter c f.counter) [] ≡ [] = chain-rest m (next_counter c f.counter) [] (omega arith) in
      rw (drop_of_length-le e {i = 16 - p} (omega arith), none, append-nil)

  -- as many bytes come out as go in
  pub text-length : (f : Flow) (p : ℕ) (e : List ℕ) → length f.pad ≡ 16 → p < 16 → length (flow_text c rk f p e) ≡ length e
  unfolding flow_text
  text-length f p e n low =
      let front = length_both e (drop p f.pad) in
      rw (length-append, length-stream (kind_of c) rk, length-drop (16 - p) e) (omega (arith, length-drop p f.pad))

  -- behind a block that is begun with b, a text e that does not fill it, or that does
  module _ (s b e : List ℕ) (low : length b < 16) where
    text-begun : chain m s (b ++ e) ≡ chain m s b ++ flow_text c rk (flow_at rk s) (length b) e
    unfolding flow_text
    text-begun =
        let pad = encrypt_block rk s in
        let n = length-encrypt_block rk s in
        let both = length-append b e in
        let left = length-drop (length b) pad in
        by_order (length e) (16 - length b)
        (λ h. rw (chain-rest m s (b ++ e) (omega arith), chain-rest m s b low, text-short (flow_at rk s) (length b) e h)
        (xors_cut b e pad))
        (λ h. rw (chain-block m s (b ++ e) (omega arith), chain-rest m s b low, counts c rk s (take 16 (b ++ e)))
        (rw (take_through b e 16 (omega arith), drop_through b e 16 (omega arith), xors_cut b (take (16 - length b) e) pad)
        (rw (xors-front (16 - length b) e (drop (length b) pad) (omega arith), append_assoc))))

    next-begun : flow_next c rk (flow_at rk s) (length b) e ≡ flow_after c rk s (b ++ e)
    unfolding flow_next flow_after
    next-begun =
        let both = length-append b e in
        by_order (length e) (16 - length b)
        (λ h. rw (lt-ltb _ _ h, end_rest m s (b ++ e) (omega arith)))
        (λ h. rw (le-ltb _ _ h, end-block m s (b ++ e) (omega arith), counts c rk s (take 16 (b ++ e)), drop_through b e 16 (omega arith)))

  module _ (s d e : List ℕ) where
    full : length (full_part d) % 16 ≡ 0
    full = let n = full_length d in omega arith

    low : length (begun_part d) < 16
    low = omega (arith, begun-length d)

    -- after the full blocks of d
    abbrev t : List ℕ
    t = end_state m s (full_part d)

    here : flow_after c rk s d ≡ flow_at rk t
    unfolding flow_after
    here =
        ap {B = Flow} (flow_at rk)
        (ap (end_state m s) (sym (both-parts d)) ∙ end_cut m (begun_part d) s (full_part d) full ∙ end_rest m t (begun_part d) low)

    -- the flow after d and then e is that after both
    pub flow_on : flow_next c rk (flow_after c rk s d) (length d % 16) e ≡ flow_after c rk s (d ++ e)
    unfolding flow_after
    flow_on =
        rw (parts-behind d e, end_cut m (begun_part d ++ e) s (full_part d) full, here, ← begun-length d) (next-begun t (begun_part d) e low)

    -- and what e gives there is its stretch of what both give
    pub text_on : chain (flow_mode c rk) s (d ++ e) ≡ chain (flow_mode c rk) s d ++ flow_text c rk (flow_after c rk s d) (length d % 16) e
    text_on =
        let before : chain m s d ≡ chain m s (full_part d) ++ chain m t (begun_part d) =
        ap (chain m s) (sym (both-parts d)) ∙ chain_cut m (begun_part d) (λ _. refl) s (full_part d) full in
        rw (parts-behind d e, before, here, ← begun-length d, chain_cut m (begun_part d ++ e) (λ _. refl) s (full_part d) full)
        (rw (text-begun t (begun_part d) e low, append_assoc))

    -- so from e's first byte on both give that stretch, and what d gave stands before it
    pub text-behind : drop (length d) (chain (flow_mode c rk) s (d ++ e)) ≡ flow_text c rk (flow_after c rk s d) (length d % 16) e
    text-behind = rw (text_on, drop_at (chain m s d) _ (length d) (length-stream (kind_of c) rk s d))

    pub text-joined : chain (flow_mode c rk) s d ++ drop (length d) (chain (flow_mode c rk) s (d ++ e)) ≡ chain (flow_mode c rk) s (d ++ e)
    text-joined = rw text-behind (sym text_on)
