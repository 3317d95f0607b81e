-- The ranks that a board took from its ranking, as a table.
use Rattle.std.specs.Prelude.{◌≡◌, ℕ, ◌≤◌, true, List, [], map, is_some, Some, None, Option, slice_index_or}
use Rattle.std.specs.List.{range_with_len}
use Rattle.ranking.specs.Market.{Market}
use Rattle.board.specs.Sides.{across}

-- the rank in the table: for each party a row with the rank that it gives each other party
unfoldable pub rank_in : List (List (Option ℕ)) → ℕ → ℕ → Option ℕ
rank_in table p q = slice_index_or (slice_index_or table p []) q None

-- the ranks that p gives the parties
unfoldable pub ranks_by : Market → ℕ → List (Option ℕ)
ranks_by m p = map (m.rank p) (range_with_len 0 32)

-- the table of a market's ranks
unfoldable pub table_of : Market → List (List (Option ℕ))
table_of m = map (ranks_by m) (range_with_len 0 32)

-- the market of s streams and g lanes by a table of ranks
abbrev pub table_market : (s g : ℕ) → List (List (Option ℕ)) → Market
table_market s g table = record { streams = s; lanes = g; rank = rank_in table }

-- the laws of a market, one by one: a rank stands only between a stream and a lane ..
abbrev pub RanksAcross : Market → Type 0
RanksAcross m = (p q : ℕ) → is_some (m.rank p q) ≡ true → across m p q ≡ true

-- .. is at most 65,535 ..
abbrev pub RanksBounded : Market → Type 0
RanksBounded m = (t : ℕ × ℕ × ℕ) → m.rank t.0 t.1 ≡ Some t.2 → t.2 ≤ 65535

-- .. and is given by one party but once
abbrev pub RanksStrict : Market → Type 0
RanksStrict m = (t : ℕ × ℕ × ℕ × ℕ) → (m.rank t.0 t.1 ≡ Some t.3) × (m.rank t.0 t.2 ≡ Some t.3) → t.1 ≡ t.2
