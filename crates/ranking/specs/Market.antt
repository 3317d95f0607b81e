-- A market: s streams and g lanes, and the rank that each party gives the parties of the other side.
-- Stream i is party i, and lane j is party s + j. A lower rank is better.
use Rattle.std.specs.Prelude.{◌≡◌, ℕ, ◌+◌, ◌-◌, ◌<◌, ◌≤◌, Bool, true, false, cond, ◌⊎◌, Some, None, Option, nat_lt}

-- whether the first rank is better than the second: none is never preferred, any rank is preferred
-- to none, and of two ranks the lower number
abbrev pub prefers : Option ℕ → Option ℕ → Bool
prefers None second = false
prefers (Some k) None = true
prefers (Some k) (Some l) = nat_lt k l

-- what a ranking means: its sizes and two tables, the rank that stream i gives lane j at by_stream i j,
-- and the rank that lane j gives stream i at by_lane j i
pub record Meaning : Type 0 where
  pub streams : ℕ
  pub lanes : ℕ
  pub by_stream : ℕ → ℕ → Option ℕ
  pub by_lane : ℕ → ℕ → Option ℕ

-- how many streams and lanes there are, and the rank that one party gives another, by party numbers
pub record Market : Type 0 where
  pub streams : ℕ
  pub lanes : ℕ
  pub rank : ℕ → ℕ → Option ℕ

-- the two tables as one, by party numbers: a stream ranks lanes, a lane ranks streams, and nobody
-- ranks a party of its own side
abbrev pub rank_across : Meaning → ℕ → ℕ → Option ℕ
rank_across x p q =
    cond (nat_lt p x.streams) (cond (nat_lt q x.streams) None (x.by_stream p (q - x.streams)))
    (cond (nat_lt q x.streams) (x.by_lane (p - x.streams) q) None)

-- the market of what a ranking means
abbrev pub market_of : Meaning → Market
market_of x = record { streams = x.streams; lanes = x.lanes; rank = rank_across x }

-- one party never gives two different parties the same rank
abbrev pub Strict : (ℕ → ℕ → Option ℕ) → Type 0
Strict rank = (p q r k : ℕ) → rank p q ≡ Some k → rank p r ≡ Some k → q ≡ r

-- a table gives a rank only within its sizes, and a rank is at most 65,535
abbrev pub Bounded : ℕ → ℕ → (ℕ → ℕ → Option ℕ) → Type 0
Bounded rows columns table = (i j k : ℕ) → table i j ≡ Some k → (i < rows) × (j < columns) × (k ≤ 65535)

-- of s streams and g lanes, there are 1 to 16 of each
abbrev pub Sizes : ℕ → ℕ → Type 0
Sizes s g = (1 ≤ s) × (s ≤ 16) × (1 ≤ g) × (g ≤ 16)

-- there are 1 to 16 streams and 1 to 16 lanes
abbrev pub Sized : Meaning → Type 0
Sized x = Sizes x.streams x.lanes

-- a rank is given only to a lane or a stream that there is, and is at most 65,535
abbrev pub BoundedRanks : Meaning → Type 0
BoundedRanks x = Bounded x.streams x.lanes x.by_stream × Bounded x.lanes x.streams x.by_lane

-- nobody gives two others the same rank
abbrev pub StrictRanks : Meaning → Type 0
StrictRanks x = Strict x.by_stream × Strict x.by_lane

-- p and q are a stream and a lane, in this order
abbrev pub StreamAndLane : Market → ℕ → ℕ → Type 0
StreamAndLane m p q = (p < m.streams) × (m.streams ≤ q) × (q < m.streams + m.lanes)

-- what every market keeps: its sizes, ranks only between a stream and a lane and at most 65,535, and
-- no rank given twice by one party
pub record LawfulMarket (m : Market) : Type 0 where
  pub sized : Sizes m.streams m.lanes
  pub across : (p q k : ℕ) → m.rank p q ≡ Some k → StreamAndLane m p q ⊎ StreamAndLane m q p
  pub bounded : (p q k : ℕ) → m.rank p q ≡ Some k → k ≤ 65535
  pub strict : Strict m.rank
