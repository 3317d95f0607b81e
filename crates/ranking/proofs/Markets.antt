-- What the market of a ranking's meaning ranks, and that it is lawful where the two tables are.
use Rattle.std.proofs.Common.{◌≡◌, ℕ, ◌+◌, ◌-◌, ◌<◌, ◌≤◌, ◌⊎◌, Some, arith}
use Rattle.std.proofs.lemmas.Bool.Decides.{nat_tests}
use Rattle.ranking.specs.Market.{Meaning, rank_across, market_of, Sized, BoundedRanks, StrictRanks, LawfulMarket}

module _ (x : Meaning) where
  pub rank_stream : (i j : ℕ) → i < x.streams → rank_across x i (x.streams + j) ≡ x.by_stream i j
  rank_stream i j h = let e : x.streams + j - x.streams ≡ j = omega arith in grind (arith, nat_tests)

  pub rank_lane : (j i : ℕ) → i < x.streams → rank_across x (x.streams + j) i ≡ x.by_lane j i
  rank_lane j i h = let e : x.streams + j - x.streams ≡ j = omega arith in grind (arith, nat_tests)

  -- a rank comes from one of the tables
  pub rank_tells : (p q k : ℕ) → rank_across x p q ≡ Some k → ((p < x.streams) × (x.streams ≤ q) × (x.by_stream p (q - x.streams) ≡ Some k)) ⊎ ((x.streams ≤ p) × (q < x.streams) × (x.by_lane (p - x.streams) q ≡ Some k))
  rank_tells p q k e = grind (arith, nat_tests)

-- the market of a lawful meaning is lawful
pub lawful_market : (x : Meaning) → Sized x → BoundedRanks x → StrictRanks x → LawfulMarket (market_of x)
lawful_market x z b d = record {
  sized = z;
  across = λ p q k e. let told = rank_tells x p q k e in let lane = b.0 p (q - x.streams) k in let stream = b.1 (p - x.streams) q k in grind arith;
  bounded = λ p q k e. let told = rank_tells x p q k e in let lane = b.0 p (q - x.streams) k in let stream = b.1 (p - x.streams) q k in grind arith;
  strict = λ p q r k e f.
      let first = rank_tells x p q k e in
      let second = rank_tells x p r k f in
      let lanes = d.0 p (q - x.streams) (r - x.streams) k in
      let streams = d.1 (p - x.streams) q r k in
      grind arith;
}
