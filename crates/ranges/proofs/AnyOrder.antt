-- The shares of a text may be done in any order: what stands in the output is the same. Those of an accepted plan give the single call's
-- bytes.
use Rattle.ranges.proofs.Names.{CtrKind, List, is_set, Perm, PermFoldr-eq, Plan, Share, [], ◌+◌, ◌-◌, ◌∙◌, ◌∷◌, ◌≡◌, ◌≤◌}
use Rattle.ranges.proofs.Names.{accepts, all_worked, ap, arith, chain, drop, drop-xors, eqb-true, false≢true, foldr, follows, hedberg}
use Rattle.ranges.proofs.Names.{length, length-drop, length-stream, length-take, min, over, refl, share_of, shares, shares_of}
use Rattle.ranges.proofs.Names.{stream_mode, stretch, sym, take, take-xors, true, worked, ℕ, ℕ_discrete}
use Rattle.ranges.proofs.Accepted.{from_0_to_n}
use Rattle.ranges.proofs.Following.{first_piece}
use Rattle.ranges.proofs.KeyStream.{pads, chain_pads, stretch_pads}
use Rattle.ranges.proofs.Copied.{copied, length_zipped, none_zipped, zips_commute, copies-join, all_copied, laid_copied}

module _ (rk iv d : List ℕ) where
  abbrev whole : List ℕ
  whole = chain (stream_mode CtrKind rk) iv d

  -- what Ctr gives of a share is that share of the whole
  pub share-of-whole : (p : Share) → stretch rk iv p.start (share_of p d) ≡ share_of p whole
  share-of-whole p =
      let j = p.start + length d in
      let k = pads rk j iv in
      let size = length-take p.size (drop p.start d) ∙ ap (λ (n : ℕ). min p.size n) (length-drop p.start d) in
      rw (stretch_pads rk iv p.start (share_of p d) j (omega (arith, size)), chain_pads rk j iv d (omega arith))
      (rw (drop-xors p.start d k, take-xors p.size (drop p.start d) (drop p.start k)))

  length_whole : length whole ≡ length d
  length_whole = length-stream CtrKind rk iv d

  -- a worker copies its share of the whole
  abbrev copies : Share → List ℕ → List ℕ
  copies p o = copied p.start p.size whole o

  pub worker_copies : (p : Share) (o : List ℕ) → length d ≤ length o → worked rk iv d p o ≡ copies p o
  worker_copies p o h = rw (share-of-whole p) (laid_copied p.start p.size whole o (omega (arith, h, length_whole)))

  all_copy : (ps : List Share) (o : List ℕ) → length d ≤ length o
      → (all_worked rk iv d ps o ≡ foldr copies o ps) × (length (foldr copies o ps) ≡ length o)
  all_copy [] o h = (refl, refl)
  all_copy (p ∷ ps) o h =
      let rest = all_copy ps o h in
      let u = foldr copies o ps in (
        ap (worked rk iv d p) rest.0 ∙ worker_copies p u (omega (arith, h, rest.1)),
        length_zipped _ p.start p.size whole u ∙ rest.1,
      )

  pub length-worked : (ps : List Share) (o : List ℕ) → length d ≤ length o → length (all_worked rk iv d ps o) ≡ length o
  length-worked ps o h = let all = all_copy ps o h in ap length all.0 ∙ all.1

  -- Shares done in any order leave the same, overlapping or not, inside the text or not.
  pub any_order : (o : List ℕ) → length d ≤ length o → (ps qs : List Share) → Perm ps qs → all_worked rk iv d ps o ≡ all_worked rk iv d qs o
  any_order o h ps qs e =
      (all_copy ps o h).0
      ∙ PermFoldr-eq (is_set (hedberg ℕ_discrete)) copies
      (λ p q u. zips_commute _ p.start p.size q.start q.size whole whole u (λ i x. refl)) e o
      ∙ sym (all_copy qs o h).0

  -- shares that follow one another from `at` to the text's end copy all that is from there on
  following : (at : ℕ) (ss ls o : List ℕ) → follows at (length d) ss ls ≡ true
      → foldr copies o (shares ss ls) ≡ copied at (length d - at) whole o
  unfolding follows
  following at [] ls o e =
      let none : length d - at ≡ 0 = omega (arith, eqb-true at (length d) e) in
      rw none (sym (none_zipped _ at whole o))
  following at (s ∷ ss) [] o e = absurd (false≢true e)
  following at (s ∷ ss) (l ∷ ls) o e =
      let f = first_piece at (length d) s l ss ls e in
      let sum : l + (length d - (at + l)) ≡ length d - at = omega (arith, f.inside) in
      rw (f.starts_here, following (at + l) ss ls o f.rest, copies-join at l (length d - (at + l)) (at + l) whole o refl, sum)

  -- The shares of an accepted plan, whoever made it, done in any order, leave the single call's bytes in the output, and what is past them
  -- as it was.
  pub plan_in_any_order : (o : List ℕ) → length d ≤ length o → (plan : Plan) → accepts plan (length d) ≡ true
      → (ps : List Share) → Perm (shares_of plan) ps → all_worked rk iv d ps o ≡ over whole o
  plan_in_any_order o h plan accepted ps e =
      let size : length d - 0 ≡ length whole = omega (arith, length_whole) in
      sym (any_order o h (shares_of plan) ps e)
      ∙ (all_copy (shares_of plan) o h).0
      ∙ following 0 (take plan.count plan.starts) (take plan.count plan.lengths) o (from_0_to_n plan (length d) accepted)
      ∙ ap (λ (n : ℕ). copied 0 n whole o) size
      ∙ all_copied whole o (omega (arith, h, length_whole))
