-- A board's pairing is lawful and holds as the board does.
use Rattle.std.proofs.Common.{◌≡◌, ℕ, ◌+◌, ◌-◌, ◌<◌, ◌≤◌, ltb, ◌⊎◌, List, length, get_or, take, is_some, IfSome, Some, None, Option, sym, refl, ap, ◌∙◌, inl, inr, ⊎_elim, arith}
use mathlib.Core.Path.{fun_ext}
use Rattle.std.proofs.lemmas.List.FromFn.{length-map-range_with_len, get_or-map-range_with_len, fill_by_all}
use Rattle.std.proofs.lemmas.List.{get_or-take, length-take-le}
use Rattle.std.proofs.lemmas.Option.{same_Some}
use Rattle.std.proofs.lemmas.Bool.{lt-ltb, le-ltb, cond-true, cond-false, cases_lt, both_ways}
use Rattle.record.specs.Lists.{place_in}
use Rattle.record.proofs.Lists.{among_from, among_place, place_at_lem}
use Rattle.ranking.specs.Market.{Market, LawfulMarket}
use Rattle.ranking.specs.Pairings.{LawfulPairing, lane_party, holding_of}
use Rattle.ranking.specs.Market.{StreamAndLane}
use Rattle.board.proofs.Sides.{across_parts}
use Rattle.board.specs.State.{State}
use Rattle.board.specs.Kept.{Kept}
use Rattle.board.specs.Calls.{lane_byte, pairing_at}
use Rattle.board.proofs.Keeping.{held_facts, ranked_across}
use Rattle.board.proofs.Partners.{held}
use Rattle.board.proofs.Seeking.{the_party}

module _ (m : Market) (law : LawfulMarket m) (σ : State) (kept : Kept m σ) where
  -- partners stand on two sides and hold each other
  partners : (p q : ℕ) → σ.holding p ≡ Some q → (StreamAndLane m p q ⊎ StreamAndLane m q p) × (σ.holding q ≡ Some p)
  partners p q e =
      let facts = held_facts m σ kept p q (held m law σ kept p q e) in
      (across_parts m p q (ranked_across m law p q facts.ranked), the_party (σ.holding q) p facts.back)

  -- a stream holds a lane
  stream_holds : (i q : ℕ) → i < m.streams → σ.holding i ≡ Some q → (m.streams ≤ q) × (q < m.streams + m.lanes)
  stream_holds i q h e = ⊎_elim (λ s. (s.1, s.2)) (λ s. absurd (let z = s.1 in omega arith)) (partners i q e).0

  pub stream_holds_lane : (i : ℕ) → i < m.streams → IfSome (σ.holding i) (λ q. m.streams ≤ q)
  stream_holds_lane i h = go (σ.holding i) refl
    where
      go : (o : Option ℕ) → σ.holding i ≡ o → IfSome o (λ q. m.streams ≤ q)
      go None e = tt
      go (Some q) e = (stream_holds i q h e).0

  byte_at : (i : ℕ) → i < m.streams → get_or (pairing_at m σ) i 0 ≡ lane_byte m.streams (σ.holding i)
  byte_at i h = get_or-map-range_with_len (λ i. lane_byte m.streams (σ.holding i)) 0 m.streams i i 0 h (omega arith)

  -- a byte that is a lane's number says whom the stream holds
  told : (i : ℕ) → i < m.streams → get_or (pairing_at m σ) i 0 < m.lanes → σ.holding i ≡ Some (m.streams + get_or (pairing_at m σ) i 0)
  told i h l = go (σ.holding i) refl
    where
      go : (o : Option ℕ) → σ.holding i ≡ o → o ≡ Some (m.streams + get_or (pairing_at m σ) i 0)
      go None e =
          let z = law.sized in
          absurd (let b : get_or (pairing_at m σ) i 0 ≡ 255 = byte_at i h ∙ ap (lane_byte m.streams) e in omega arith)
      go (Some q) e =
          let s = stream_holds i q h e in
          let b : get_or (pairing_at m σ) i 0 ≡ q - m.streams = byte_at i h ∙ ap (lane_byte m.streams) e in
          ap Some (let r : q ≡ m.streams + get_or (pairing_at m σ) i 0 = omega arith in r)

  pub pairing_lawful : LawfulPairing m (pairing_at m σ)
  pairing_lawful = record {
    count = length-map-range_with_len _ 0 m.streams;
    named = λ i h. go i h (σ.holding i) refl;
    once = λ i j h k l e. once i j h k l e;
  }
    where
      go : (i : ℕ) → i < m.streams → (o : Option ℕ) → σ.holding i ≡ o → (get_or (pairing_at m σ) i 0 < m.lanes) ⊎ (get_or (pairing_at m σ) i 0 ≡ 255)
      go i h None e = inr (byte_at i h ∙ ap (lane_byte m.streams) e)
      go i h (Some q) e =
          let s = stream_holds i q h e in
          let b : get_or (pairing_at m σ) i 0 ≡ q - m.streams = byte_at i h ∙ ap (lane_byte m.streams) e in
          inl (omega arith)

      once : (i j : ℕ) → i < m.streams → j < m.streams → get_or (pairing_at m σ) i 0 < m.lanes → get_or (pairing_at m σ) i 0 ≡ get_or (pairing_at m σ) j 0 → i ≡ j
      once i j h k l e =
          let x : ℕ = m.streams + get_or (pairing_at m σ) i 0 in
          let a = (partners i x (told i h l)).1 in
          let same : m.streams + get_or (pairing_at m σ) j 0 ≡ x = ap (λ b. m.streams + b) (sym e) in
          let b = (partners j x (told j k (omega arith) ∙ ap Some same)).1 in
          same_Some i j (sym a ∙ b)

  holds_as : (p : ℕ) → holding_of m (pairing_at m σ) p ≡ σ.holding p
  holds_as p = ⊎_elim stream lane_or_none (cases_lt p m.streams)
    where
      stream : p < m.streams → holding_of m (pairing_at m σ) p ≡ σ.holding p
      stream h = cond-true (ltb p m.streams) _ _ (lt-ltb p m.streams h) ∙ go (σ.holding p) refl
        where
          go : (o : Option ℕ) → σ.holding p ≡ o → lane_party m (get_or (pairing_at m σ) p 0) ≡ o
          go None e =
              let z = law.sized in
              let b : get_or (pairing_at m σ) p 0 ≡ 255 = byte_at p h ∙ ap (lane_byte m.streams) e in
              cond-false (ltb (get_or (pairing_at m σ) p 0) m.lanes) _ _ (le-ltb _ m.lanes (omega arith))
          go (Some q) e =
              let s = stream_holds p q h e in
              let b : get_or (pairing_at m σ) p 0 ≡ q - m.streams = byte_at p h ∙ ap (lane_byte m.streams) e in
              cond-true (ltb (get_or (pairing_at m σ) p 0) m.lanes) _ _ (lt-ltb _ m.lanes (omega arith)) ∙ ap Some (let r : m.streams + get_or (pairing_at m σ) p 0 ≡ q = omega arith in r)

      place : m.streams ≤ p → p - m.streams < m.lanes → (o : Option ℕ) → σ.holding p ≡ o → place_in (p - m.streams) (pairing_at m σ) ≡ o
      place h l o e = find (place_in (p - m.streams) (pairing_at m σ)) refl o e
        where
          found : (k : ℕ) → place_in (p - m.streams) (pairing_at m σ) ≡ Some k → σ.holding p ≡ Some k
          found k e =
              let at = place_at_lem (p - m.streams) (pairing_at m σ) k e in
              let below : k < m.streams = omega (arith, at.0, length-map-range_with_len (λ i. lane_byte m.streams (σ.holding i)) 0 m.streams) in
              let x : m.streams + get_or (pairing_at m σ) k 0 ≡ p = omega (arith, at.1) in
              (partners k p (told k below (omega (arith, at.1)) ∙ ap Some x)).1

          missing : (i : ℕ) → σ.holding p ≡ Some i → place_in (p - m.streams) (pairing_at m σ) ≡ None → ⊥
          missing i e n =
              let (s, back) = partners p i e in
              let below : i < m.streams = ⊎_elim (λ t. absurd (let z = t.0 in omega arith)) (λ t. t.0) s in
              let b : get_or (pairing_at m σ) i 0 ≡ p - m.streams = byte_at i below ∙ ap (lane_byte m.streams) back in
              let size = length-map-range_with_len (λ i. lane_byte m.streams (σ.holding i)) 0 m.streams in
              both_ways _ (among_place (p - m.streams) (pairing_at m σ) ∙ ap is_some n) (among_from (p - m.streams) (pairing_at m σ) i (omega arith) b)

          find : (r : Option ℕ) → place_in (p - m.streams) (pairing_at m σ) ≡ r → (o : Option ℕ) → σ.holding p ≡ o → r ≡ o
          find None n None e = refl
          find None n (Some i) e = absurd (missing i e n)
          find (Some k) n o e = sym (found k n) ∙ e

      nobody : m.streams + m.lanes ≤ p → None ≡ σ.holding p
      nobody h = go (σ.holding p) refl
        where
          go : (o : Option ℕ) → σ.holding p ≡ o → None ≡ o
          go None e = refl
          go (Some q) e = absurd (⊎_elim (λ t. let z = t.0 in omega arith) (λ t. let z = t.2 in omega arith) (partners p q e).0)

      lane_or_none : m.streams ≤ p → holding_of m (pairing_at m σ) p ≡ σ.holding p
      lane_or_none h = cond-false (ltb p m.streams) _ _ (le-ltb p m.streams h) ∙ ⊎_elim
          (λ l. cond-true (ltb (p - m.streams) m.lanes) _ _ (lt-ltb _ m.lanes l) ∙ place h l (σ.holding p) refl)
          (λ l. cond-false (ltb (p - m.streams) m.lanes) _ _ (le-ltb _ m.lanes l) ∙ nobody (omega arith))
          (cases_lt (p - m.streams) m.lanes)

  pub pairing_holds : holding_of m (pairing_at m σ) ≡ σ.holding
  pairing_holds = fun_ext holds_as

  -- the bytes of the streams
  pub pairing_is : (lanes : List ℕ) → m.streams ≤ length lanes → ((i : ℕ) → i < m.streams → get_or lanes i 0 ≡ lane_byte m.streams (σ.holding i)) → take m.streams lanes ≡ pairing_at m σ
  pairing_is lanes l h =
      fill_by_all (λ i. lane_byte m.streams (σ.holding i)) (take m.streams lanes) m.streams 0 (length-take-le m.streams lanes l) (λ i k. get_or-take m.streams lanes i 0 k ∙ h i k)
