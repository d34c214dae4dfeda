-- A call within the limits gives the same whether it is lent the recorded room or no more than the longest output.
use Rattle.journal.proofs.Names.{Answered, Answers, Bool, Checked, CipherMode, Entry, List, Outcome, Recomputed, Sm4Cipher, [], ◌++◌}
use Rattle.journal.proofs.Names.{◌+◌, ◌<◌, ◌∙◌, ◌≡◌, ◌≤◌, ◌⊎◌, ap, append_assoc, append-nil, arith, by_test, call_into, checked}
use Rattle.journal.proofs.Names.{differs_from, drop, false, inl, inr, judged, key_number, keyed, le-ltb, length, length-append}
use Rattle.journal.proofs.Names.{length-drop, length-replicate, lent_room, ltb, ltb-false, ltb-true, message_passed, message_check}
use Rattle.journal.proofs.Names.{mode_call, mode_of, mode_result, output_limit, recomputed, refl, refuse, replicate, result, room_check}
use Rattle.journal.proofs.Names.{room_of, sym, take, take_at, too_long, ℕ, ⊎_elim}
use Rattle.journal.proofs.Cases.{short as within}
use Rattle.journal.proofs.Given.{Gives, room_16, call-gives, bad-gives}

-- what an outcome reports, and its result, which stands at the front whatever is behind the output
module _ (most : ℕ) (f : List ℕ → Outcome) (g : Gives most f) (o : List ℕ) where
  given-size : (f o).head.size ≤ most
  given-size = rw (g.leaves o) g.fits

  given-result : (rest : List ℕ) → take (f o).head.size ((f o).bytes ++ rest) ≡ g.front
  given-result rest =
      rw (g.leaves o, append_assoc g.front (drop (length g.front) o) rest)
      (take_at g.front (drop (length g.front) o ++ rest) g.head.size g.sized)

  given-front : take (f o).head.size (f o).bytes ≡ g.front
  given-front = rw (← append-nil (f o).bytes) (given-result [])

module _ (c : Sm4Cipher) (e : Entry) where
  abbrev mode : CipherMode
  mode = mode_of e.mode

  abbrev needed : ℕ
  needed = room_of mode e.direction (length e.«data»)

  -- what is refused with so much room
  abbrev told : ℕ → Checked
  told room =
      message_check c.answer c.retired e.direction mode
      (record { iv = length e.iv; label = length e.label; «data» = length e.«data»; room = room })

  abbrev called : ℕ → List ℕ → Outcome
  called room o =
      refuse (ltb 4 e.mode) 7 o
      (keyed (key_number c) (checked (told room) o (mode_result mode e.direction c.rk e.label e.«data» e.iv o)))

  into_is : (o : List ℕ) → call_into c e o ≡ called (length o) o
  unfolding call_into mode_call
  into_is o = refl

  gives : (room most : ℕ) → (needed ≤ room → needed ≤ most) → Gives most (called room)
  gives room most h =
      bad-gives most (ltb 4 e.mode) _
      (λ z.
      call-gives most (key_number c) (told room) mode e.direction c.rk e.label e.«data» e.iv
      (λ p. let q = message_passed _ _ _ _ _ p in (q.iv-size, q.content, h q.room)))

  -- with the recorded room
  abbrev room : List ℕ
  room = replicate e.room 0

  same_gives : Gives (16 + length e.«data») (called e.room)
  same_gives = gives e.room (16 + length e.«data») (λ h. room_16 mode e.direction (length e.«data»))

  room-called : recomputed c e ≡ called e.room room
  room-called = into_is room ∙ ap {B = Outcome} (λ (n : ℕ). called n room) (length-replicate e.room 0)

  pub recomputed-known : (recomputed c e).head.number < 27
  recomputed-known = rw (room-called, same_gives.leaves room) same_gives.known

  pub recomputed-size : (recomputed c e).head.size ≤ 16 + length e.«data»
  recomputed-size = rw room-called (given-size _ _ same_gives room)

  pub result-size : length (result (recomputed c e)) ≡ (recomputed c e).head.size
  result-size = rw (room-called, given-front _ _ same_gives room, same_gives.leaves room) same_gives.sized

  -- what is lent is filled at most
  module _ (o : List ℕ) where
    filled : Gives (length o) (called (length o))
    filled = gives (length o) (length o) (λ h. h)

    pub into_fits : (call_into c e o).head.size ≤ length o
    into_fits = rw (into_is o) (given-size _ _ filled o)

    pub into_length : length (call_into c e o).bytes ≡ length o
    into_length =
        rw (into_is o, filled.leaves o, length-append)
        (omega (arith, filled.fits, filled.sized, length-drop (length filled.front) o))

  module _ (short : too_long e ≡ false) where
    -- The room that was recorded, or both at least the longest output: report and result are the same, whatever the output held.
    module _ (o : List ℕ) (like : (length o ≡ e.room) ⊎ ((output_limit ≤ length o) × (output_limit ≤ e.room))) where
      room-alike : ltb (length o) needed ≡ ltb e.room needed
      room-alike =
          ⊎_elim (λ (h : length o ≡ e.room). ap (λ (n : ℕ). ltb n needed) h)
          (λ (h : (output_limit ≤ length o) × (output_limit ≤ e.room)).
          let n = room_16 mode e.direction (length e.«data») in
          let m = (within e short).«data» in
          le-ltb (length o) needed (omega arith) ∙ sym (le-ltb e.room needed (omega arith)))
          like

      -- the two are one function of the output
      same-called : call_into c e o ≡ called e.room o
      unfolding message_check room_check
      same-called = into_is o ∙ rw room-alike

      pub any_output-head : (call_into c e o).head ≡ (recomputed c e).head
      any_output-head = rw (same-called, room-called, same_gives.leaves o, same_gives.leaves room)

      result_on : (rest : List ℕ) → take (call_into c e o).head.size ((call_into c e o).bytes ++ rest) ≡ result (recomputed c e)
      result_on rest = rw (same-called, room-called, given-result _ _ same_gives o rest) (sym (given-front _ _ same_gives room))

      pub any_output-result : result (call_into c e o) ≡ result (recomputed c e)
      any_output-result = rw (← append-nil (call_into c e o).bytes) (result_on [])

    module _ (o : List ℕ) (size : length o ≡ lent_room e) where
      lent_like : (length o ≡ e.room) ⊎ ((output_limit ≤ length o) × (output_limit ≤ e.room))
      unfolding lent_room
      lent_like =
          by_test (ltb output_limit e.room)
          (λ x. let n : length o ≡ output_limit = size ∙ rw x in inr (omega arith, omega (arith, ltb-true output_limit e.room x)))
          (λ x. inl (size ∙ rw x))

      -- Lending no more than the longest output changes neither the report nor the result.
      pub lent-head : (call_into c e o).head ≡ (recomputed c e).head
      lent-head = any_output-head o lent_like

      pub lent-result : (rest : List ℕ) → take (call_into c e o).head.size ((call_into c e o).bytes ++ rest) ≡ result (recomputed c e)
      lent-result = result_on o lent_like

      -- so it is judged as with the recorded room
      pub lent-judged : (a : Answered) (p rest : List ℕ) (d : Bool) → Answers a p (call_into c e o)
          → d ≡ differs_from e a.number a.length (take a.length (p ++ rest))
          → (◌≡◌ {A = Recomputed} (record { number = a.number; length = a.length; differs = d }) (judged e (recomputed c e)))
          × ((a.number < 27) × (a.length ≤ 16 + length e.«data»))
      lent-judged a p rest d x y =
          let n : a.number ≡ (recomputed c e).head.number = cc lent-head in
          let l : a.length ≡ (recomputed c e).head.size = cc lent-head in
          let r : take a.length (p ++ rest) ≡ result (recomputed c e) = rw (x.size, x.bytes) (lent-result rest) in
          (rw (y, r, n, l), (rw n recomputed-known, rw l recomputed-size))

pub lent_most : (e : Entry) → lent_room e ≤ output_limit
unfolding lent_room
lent_most e =
    by_test (ltb output_limit e.room) (λ x. rw x (omega arith)) (λ x. rw x (omega (arith, ltb-false output_limit e.room x)))
