-- A table of places: for each of 32 parties a row of 16, one for each party that it may rank, the place that it gives
-- that party, or none.
use Rattle.std.specs.Prelude.{◌≡◌, ℕ, ◌<◌, false, cond, List, [], length, Some, None, Option, nat_lt, slice_index_or}
use Rattle.record.specs.Lists.{among, place_in}
use Rattle.record.specs.Faults.{kind, high, middle, low, ranked_by}
use Rattle.ranking.specs.Market.{Strict}

-- the row of party p
abbrev pub row_of : List (List (Option ℕ)) → ℕ → List (Option ℕ)
row_of places p = slice_index_or places p []

-- what stands in party p's row for number q of the other side
abbrev pub entry : List (List (Option ℕ)) → ℕ → ℕ → Option ℕ
entry places p q = slice_index_or (row_of places p) q None

-- a number that stands for a place: one below 255
abbrev pub as_place : Option ℕ → Option ℕ
as_place None = None
as_place (Some k) = cond (nat_lt k 255) (Some k) None

-- the place that party p gives number q of the other side, or none
abbrev pub place_at : List (List (Option ℕ)) → ℕ → ℕ → Option ℕ
place_at places p q = as_place (entry places p q)

-- no row gives one place twice
abbrev pub DistinctPlaces : List (List (Option ℕ)) → Type 0
DistinctPlaces places = Strict (place_at places)

-- every number in the table is below 255, and so a place as it stands
abbrev pub SmallPlaces : List (List (Option ℕ)) → Type 0
SmallPlaces places = (p q k : ℕ) → entry places p q ≡ Some k → k < 255

-- a choice that may be entered after those before it: its owner has a row, its ranked party a number in it, which the
-- owner has not named yet, and its place is the number of the owner's choices so far
pub record Enterable (before : List ℕ) (w : ℕ) : Type 0 where
  pub is_of_kind : kind w ≡ 2
  pub row : high w < 32
  pub column : low w < 16
  pub few : middle w < 16
  pub place : middle w ≡ length (ranked_by before (high w))
  pub new : among (low w) (ranked_by before (high w)) ≡ false

-- the table holds the place of each party among those that its ranker names in these choices
abbrev pub Entered : List (List (Option ℕ)) → List ℕ → Type 0
Entered places choices = (p q : ℕ) → place_at places p q ≡ place_in q (ranked_by choices p)
