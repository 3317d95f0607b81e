-- A table of ranks while it is filled, stream by stream and lane by lane.
use Rattle.std.proofs.Common.{◌≡◌, ℕ, ◌+◌, ◌-◌, ◌<◌, ◌≤◌, Bool, cond, ◌&&◌, ◌||◌, List, [], length, get_or, set, replicate, Some, None, Option, ◌==◌, nat_lt, refl, ◌∙◌, ap, arith}
use Rattle.std.proofs.lemmas.List.{get_or-replicate, get_or_past, length-replicate, length-set, get_or-set_same, get_or-set_other}
use Rattle.std.proofs.lemmas.List.FromFn.{fill_by_all}
use Rattle.std.proofs.lemmas.Bool.Decides.{nat_tests}
use Rattle.ranking.specs.Market.{Meaning, rank_across, market_of, BoundedRanks}
use Rattle.ranking.proofs.Markets.{rank_tells}
use Rattle.board.specs.RankTables.{rank_in, ranks_by, table_of}

-- there are 32 rows of 32 each
abbrev pub WholeRanks : List (List (Option ℕ)) → Type 0
WholeRanks table = (length table ≡ 32) × ((p : ℕ) → p < 32 → length (get_or table p []) ≡ 32)

-- a table with another rank at p and q
abbrev pub with_rank : List (List (Option ℕ)) → (p q : ℕ) → Option ℕ → List (List (Option ℕ))
with_rank table p q rank = set table p (set (get_or table p []) q rank)

module _ (table : List (List (Option ℕ))) (whole : WholeRanks table) (o y : ℕ) (v : Option ℕ) (row : o < 32) (column : y < 32) where
  with_rank_at : (p q : ℕ) → rank_in (with_rank table o y v) p q ≡ cond (p == o && q == y) v (rank_in table p q)
  unfolding rank_in
  with_rank_at p q =
      let new_row = get_or-set_same table o (set (get_or table o []) y v) [] (omega (arith, whole.0)) in
      let rows = get_or-set_other table o p (set (get_or table o []) y v) [] in
      let rank = get_or-set_same (get_or table o []) y v None (omega (arith, whole.1 o row)) in
      let others = get_or-set_other (get_or table o []) y q v None in
      grind (arith, nat_tests)

  with_rank_whole : WholeRanks (with_rank table o y v)
  with_rank_whole = (
    length-set table o (set (get_or table o []) y v) ∙ whole.0,
    λ p h.
        let new_row = get_or-set_same table o (set (get_or table o []) y v) [] (omega (arith, whole.0)) in
        let rows = get_or-set_other table o p (set (get_or table o []) y v) [] in
        let long = length-set (get_or table o []) y v in
        let were = whole.1 p h in
        let was = whole.1 o row in
        grind arith,
  )

-- whether the ranks between p and q stand in the table once the streams below i are done ..
abbrev pub done_below : (i p q : ℕ) → Bool
done_below i p q = nat_lt p i || nat_lt q i

-- .. and of stream i the lanes below j, of s streams
abbrev pub done_to : (s i j p q : ℕ) → Bool
done_to s i j p q = done_below i p q || ((p == i && nat_lt q (s + j)) || (q == i && nat_lt p (s + j)))

-- a table of 32 rows of 32 has the ranks between those parties that are done, and no others
abbrev pub Filled : Meaning → List (List (Option ℕ)) → (ℕ → ℕ → Bool) → Type 0
Filled x table done = WholeRanks table × ((p q : ℕ) → rank_in table p q ≡ cond (done p q) (rank_across x p q) None)

abbrev no_ranks : List (Option ℕ)
no_ranks = replicate 32 None

-- no rank stands in the empty table
pub none_filled : (x : Meaning) → Filled x (replicate 32 no_ranks) (done_below 0)
unfolding rank_in
none_filled x = (
  (length-replicate 32 no_ranks, λ p h. ap length (get_or-replicate 32 p no_ranks [] h) ∙ length-replicate {A = Option ℕ} 32 None),
  λ p q.
      let row = get_or-replicate 32 p no_ranks [] in
      let past = get_or_past (replicate 32 no_ranks) p [] in
      let long = length-replicate 32 no_ranks in
      let inside = get_or-replicate {A = Option ℕ} 32 q None None in
      let outside = get_or_past no_ranks q None in
      let wide = length-replicate {A = Option ℕ} 32 None in
      grind (arith, nat_tests),
)

module _ (x : Meaning) (bounded : BoundedRanks x) (few_streams : x.streams ≤ 16) (few_lanes : x.lanes ≤ 16) (table : List (List (Option ℕ))) where
  -- a stream has no rank for streams
  pub filled_first : (i : ℕ) → i < x.streams → Filled x table (done_below i) → Filled x table (done_to x.streams i 0)
  filled_first i h f = (f.0, λ p q. let at = f.1 p q in grind (arith, nat_tests))

  -- one more lane
  pub filled_more : (i j : ℕ) → i < x.streams → j < x.lanes → Filled x table (done_to x.streams i j) → Filled x (with_rank (with_rank table i (x.streams + j) (x.by_stream i j)) (x.streams + j) i (x.by_lane j i)) (done_to x.streams i (j + 1))
  filled_more i j hi hj f =
      let first = with_rank table i (x.streams + j) (x.by_stream i j) in
      let whole = with_rank_whole table f.0 i (x.streams + j) (x.by_stream i j) (omega arith) (omega arith) in (
        with_rank_whole first whole (x.streams + j) i (x.by_lane j i) (omega arith) (omega arith),
        λ p q.
            let a = with_rank_at table f.0 i (x.streams + j) (x.by_stream i j) (omega arith) (omega arith) p q in
            let b = with_rank_at first whole (x.streams + j) i (x.by_lane j i) (omega arith) (omega arith) p q in
            let at = f.1 p q in
            let back : x.streams + j - x.streams ≡ j = omega arith in
            grind (arith, nat_tests),
      )

  -- past the lanes nobody is ranked, and nobody ranks
  pub filled_next : (i : ℕ) → i < x.streams → Filled x table (done_to x.streams i x.lanes) → Filled x table (done_below (i + 1))
  filled_next i h f = (f.0, λ p q. f.1 p q ∙ go p q (rank_across x p q) refl)
    where
      go : (p q : ℕ) (o : Option ℕ) → rank_across x p q ≡ o → cond (done_to x.streams i x.lanes p q) (rank_across x p q) None ≡ cond (done_below (i + 1) p q) (rank_across x p q) None
      go p q None e = grind (arith, nat_tests)
      go p q (Some k) e =
          let told = rank_tells x p q k e in
          let lane = bounded.0 p (q - x.streams) k in
          let stream = bounded.1 (p - x.streams) q k in
          grind (arith, nat_tests)

  -- where all streams are done it is the table of the market's ranks
  pub filled_all : Filled x table (done_below x.streams) → table ≡ table_of (market_of x)
  unfolding rank_in ranks_by table_of
  filled_all f = fill_by_all (ranks_by (market_of x)) table 32 [] f.0.0 (λ p h. fill_by_all (rank_across x p) (get_or table p []) 32 None (f.0.1 p h) (λ q l. let at = f.1 p q in at ∙ done p q))
    where
      done : (p q : ℕ) → cond (done_below x.streams p q) (rank_across x p q) None ≡ rank_across x p q
      done p q = grind (arith, nat_tests)
