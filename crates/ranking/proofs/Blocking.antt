-- Which pairs can block, and when a holding is stable.
use Rattle.std.proofs.Common.{◌≡◌, ℕ, ◌+◌, ◌-◌, ◌<◌, ◌≤◌, Bool, true, false, ◌&&◌, ◌⊎◌, List, get_or, is_some, Some, None, Option, sym, refl, ap, ◌∙◌, inl, inr, ⊎_elim, arith, tests}
use Rattle.std.proofs.lemmas.Bool.{le-ltb, eqb-true, cases_lt, cases_Bool, and_parts}
use Rattle.std.proofs.Math.Bool.{and_comm}
use Rattle.std.proofs.lemmas.Bool.Decides.{nat_tests}
use Rattle.record.proofs.Lists.{place_at_lem}
use Rattle.ranking.specs.Market.{Market, Meaning, market_of, prefers, Sized, Bounded, BoundedRanks, StreamAndLane, LawfulMarket}
use Rattle.ranking.specs.Pairings.{LawfulPairing, lane_party, holding_of, TableOf}
use Rattle.ranking.specs.Stability.{rank_of, held_rank, wants, is_party, holds, blocks, ranks_both, held_ranked, Stable, RankedBelow, UnblockedBelow, UnblockedBefore}
use Rattle.ranking.proofs.Holdings.{holding_stream, holding_lane, holding_tells, holding_mutual}
use Rattle.ranking.proofs.Markets.{rank_stream, rank_lane}

-- no rank is better than itself
pub prefers_same : (o : Option ℕ) → prefers o o ≡ false
prefers_same None = refl
prefers_same (Some k) = le-ltb k k (omega arith)

-- only somebody who is ranked is wanted
pub prefers_some : (a b : Option ℕ) → prefers a b ≡ true → (k : ℕ) × (a ≡ Some k)
prefers_some None b e = absurd cc
prefers_some (Some k) b e = (k, refl)

module _ (m : Market) (h : ℕ → Option ℕ) where
  -- nobody wants whom it holds
  pub held_unwanted : (p q : ℕ) → holds h p q ≡ true → wants m h p q ≡ false
  held_unwanted p q e = go (h p) refl e
    where
      go : (o : Option ℕ) → h p ≡ o → is_party o q ≡ true → prefers (m.rank p q) (held_rank m h p) ≡ false
      go None n e = absurd cc
      go (Some r) n e =
          let same : r ≡ q = eqb-true r q e in
          ap (prefers (m.rank p q)) (ap (rank_of (m.rank p)) n ∙ ap (m.rank p) same) ∙ prefers_same (m.rank p q)

  -- two parties block where each wants the other
  pub blocks_wants : (p q : ℕ) → blocks m h p q ≡ (wants m h p q && wants m h q p)
  blocks_wants p q = let unwanted = held_unwanted p q in grind (arith, tests)

  -- it does not matter which of two parties comes first
  pub blocks_swap : (p q : ℕ) → blocks m h p q ≡ blocks m h q p
  blocks_swap p q = blocks_wants p q ∙ and_comm (wants m h p q) (wants m h q p) ∙ sym (blocks_wants q p)

  -- where only a stream and a lane rank each other, and a holding is mutual and has a stream, it is
  -- enough to look at the streams, and at the pairs of a stream and a lane
  pub stable_from : ((p q k : ℕ) → m.rank p q ≡ Some k → StreamAndLane m p q ⊎ StreamAndLane m q p) → ((p q : ℕ) → h p ≡ Some q → h q ≡ Some p) → ((p q : ℕ) → h p ≡ Some q → (p < m.streams) ⊎ (q < m.streams)) → RankedBelow m h m.streams → UnblockedBelow m h m.streams → Stable m h
  stable_from between returned sides ranks clear =
      record { ranked = λ p. ranked_by p (h p) refl; unblocked = λ p q. ⊎_elim (wanted p q) (λ e. e) (cases_Bool (blocks m h p q)) }
    where
      ranked_by : (p : ℕ) (o : Option ℕ) → h p ≡ o → held_ranked m h p ≡ true
      ranked_by p None e = ap (ranks_both m p) e
      ranked_by p (Some q) e = ⊎_elim
          (λ l. ranks p l)
          (λ l. ap (ranks_both m p) e ∙ and_comm (is_some (m.rank p q)) (is_some (m.rank q p)) ∙ sym (ap (ranks_both m q) (returned p q e)) ∙ ranks q l)
          (sides p q e)

      pair : (p q : ℕ) → StreamAndLane m p q → blocks m h p q ≡ false
      pair p q t =
          let e : m.streams + (q - m.streams) ≡ q = omega arith in
          ap (blocks m h p) (sym e) ∙ clear p (q - m.streams) t.0 (omega arith)

      wanted : (p q : ℕ) → blocks m h p q ≡ true → blocks m h p q ≡ false
      wanted p q e =
          let w = prefers_some (m.rank p q) (held_rank m h p) (and_parts (wants m h p q) (wants m h q p) (sym (blocks_wants p q) ∙ e)).0 in
          ⊎_elim (pair p q) (λ t. blocks_swap p q ∙ pair q p t) (between p q w.0 w.1)

-- one more stream that blocks with no lane
pub unblocked_more : (m : Market) (h : ℕ → Option ℕ) (i n : ℕ) → m.lanes ≤ n → UnblockedBelow m h i → UnblockedBefore m h i n → UnblockedBelow m h (i + 1)
unblocked_more m h i n b above before k l p q = ⊎_elim (λ r. above k l r q) (λ r. let e : i ≡ k = omega arith in rw (← e) (before l (omega arith))) (cases_lt k i)

-- a table gives no rank past its columns
no_rank : (rows columns : ℕ) (table : ℕ → ℕ → Option ℕ) (i j : ℕ) → Bounded rows columns table → columns ≤ j → table i j ≡ None
no_rank rows columns table i j b h = go (table i j) refl
  where
    go : (o : Option ℕ) → table i j ≡ o → o ≡ None
    go None e = refl
    go (Some k) e = absurd (omega (arith, (b i j k e).1))

-- a pairing under what a ranking means
module _ (x : Meaning) (bytes : List ℕ) where
  -- the rank that a stream gives the lane that its byte names
  pub stream_held : (i : ℕ) → BoundedRanks x → i < x.streams → held_rank (market_of x) (holding_of (market_of x) bytes) i ≡ x.by_stream i (get_or bytes i 0)
  stream_held i b h =
      let rank = (market_of x).rank i in
      let byte = get_or bytes i 0 in
      ap (rank_of rank) (holding_stream (market_of x) bytes i h) ∙ ⊎_elim
      (λ l. let named : lane_party (market_of x) byte ≡ Some (x.streams + byte) = grind (arith, nat_tests) in ap (rank_of rank) named ∙ rank_stream x i byte h)
      (λ l. let nobody : lane_party (market_of x) byte ≡ None = grind (arith, nat_tests) in ap (rank_of rank) nobody ∙ sym (no_rank x.streams x.lanes x.by_stream i byte b.0 l))
      (cases_lt byte x.lanes)

  -- the rank that a lane gives the stream that the table names for it
  pub lane_held : (table : List (Option ℕ)) (j : ℕ) → Sized x → LawfulPairing (market_of x) bytes → TableOf bytes table → j < x.lanes → held_rank (market_of x) (holding_of (market_of x) bytes) (x.streams + j) ≡ rank_of (x.by_lane j) (get_or table j None)
  lane_held table j z p t h = ap (rank_of ((market_of x).rank (x.streams + j))) (holding_lane (market_of x) bytes j h ∙ sym (t.1 j (omega arith))) ∙ go (get_or table j None) refl
    where
      go : (o : Option ℕ) → get_or table j None ≡ o → rank_of ((market_of x).rank (x.streams + j)) o ≡ rank_of (x.by_lane j) o
      go None e = refl
      go (Some k) e =
          let at = place_at_lem j bytes k (sym (t.1 j (omega arith)) ∙ e) in
          rank_lane x j k (omega (arith, at.0, p.count))

  -- when a stream and a lane block, by a test that compared their ranks in the tables, with the stream's own rank read before
  pub pair_tested : (table : List (Option ℕ)) (i j : ℕ) (held : Option ℕ) (test : Bool) → Sized x → BoundedRanks x → LawfulPairing (market_of x) bytes → TableOf bytes table → i < x.streams → j < x.lanes → held ≡ x.by_stream i (get_or bytes i 0) → test ≡ (prefers (x.by_stream i j) held && prefers (x.by_lane j i) (rank_of (x.by_lane j) (get_or table j None))) → blocks (market_of x) (holding_of (market_of x) bytes) i (x.streams + j) ≡ test
  pair_tested table i j held test z b p t h l read is =
      let wanted = blocks_wants (market_of x) (holding_of (market_of x) bytes) i (x.streams + j) in
      cc (wanted, rank_stream x i j h, rank_lane x j i h, stream_held i b h, lane_held table j z p t l)

-- a lawful pairing in a lawful market is stable where no stream and no pair of a stream and a lane is
-- against it
pub stable_pairing : (m : Market) (bytes : List ℕ) → LawfulMarket m → LawfulPairing m bytes → RankedBelow m (holding_of m bytes) m.streams → UnblockedBelow m (holding_of m bytes) m.streams → Stable m (holding_of m bytes)
stable_pairing m bytes lawful p ranks clear =
    stable_from m (holding_of m bytes) lawful.across (λ a b e. holding_mutual m bytes a b p e) (λ a b e. ⊎_elim (λ t. inl t.2.0) (λ t. inr t.2.0) (holding_tells m bytes a b p e)) ranks clear
