-- What a listing owes as a ranking, of any table of places: the proofs of its laws.
use Rattle.std.specs.Prelude.{◌≡◌, ℕ, ◌+◌, ◌<◌, ◌≤◌, cond, List, Some, None, Option, nat_lt}
use Rattle.std.proofs.Common.{arith}
use Rattle.std.proofs.lemmas.Bool.Decides.{nat_tests}
use Rattle.ranking.specs.Market.{Strict, Bounded, StrictRanks, BoundedRanks}
use Rattle.ranking.specs.Places.{entry, place_at, DistinctPlaces}
use Rattle.ranking.specs.Listings.{filled_meaning}
use Rattle.ranking.specs.declared.listing.PlaceTable.{PlaceTable}

-- what a rank of a table tells
pub rank_told : (places : List (List (Option ℕ))) (n m i j p q k : ℕ) → cond (nat_lt i n) (cond (nat_lt j m) (place_at places p q) None) None ≡ Some k → (i < n) × (j < m) × (entry places p q ≡ Some k) × (k < 255)
rank_told places n m i j p q k e = grind (arith, nat_tests)

-- no two parties have one rank
pub table_strict : (places : List (List (Option ℕ))) (n m : ℕ) (row : ℕ → ℕ) → DistinctPlaces places → Strict (λ i j. cond (nat_lt i n) (cond (nat_lt j m) (place_at places (row i) j) None) None)
table_strict places n m row distinct i j l k a b =
    let x : place_at places (row i) j ≡ Some k = grind (arith, nat_tests) in
    let y : place_at places (row i) l ≡ Some k = grind (arith, nat_tests) in
    distinct (row i) j l k x y

-- the same of at most 16 parties, where only the first 16 of a row are known to be distinct
pub table_strict_within : (places : List (List (Option ℕ))) (n m : ℕ) (row : ℕ → ℕ) → m ≤ 16 → ((p q r k : ℕ) → q < 16 → r < 16 → place_at places p q ≡ Some k → place_at places p r ≡ Some k → q ≡ r) → Strict (λ i j. cond (nat_lt i n) (cond (nat_lt j m) (place_at places (row i) j) None) None)
table_strict_within places n m row few distinct i j l k a b =
    let x : (j < m) × (place_at places (row i) j ≡ Some k) = grind (arith, nat_tests) in
    let y : (l < m) × (place_at places (row i) l ≡ Some k) = grind (arith, nat_tests) in
    distinct (row i) j l k (omega (arith, x.0)) (omega (arith, y.0)) x.1 y.1

-- a rank is given only within the table, and is at most 65,535
pub table_bounded : (places : List (List (Option ℕ))) (n m : ℕ) (row : ℕ → ℕ) → Bounded n m (λ i j. cond (nat_lt i n) (cond (nat_lt j m) (place_at places (row i) j) None) None)
table_bounded places n m row i j k e =
    let x = rank_told places n m i j (row i) j k e in
    (x.0, x.1, omega arith)

-- a listing's laws, filled or not
pub filled_strict : (t : Option PlaceTable) → StrictRanks (filled_meaning t)
filled_strict None = (λ p q r k a b. grind arith, λ p q r k a b. grind arith)
filled_strict (Some t) = (table_strict t.places t.sizes.streams t.sizes.lanes (λ i. i) t.strict, table_strict t.places t.sizes.lanes t.sizes.streams (λ j. t.sizes.streams + j) t.strict)

pub filled_bounded : (t : Option PlaceTable) → BoundedRanks (filled_meaning t)
filled_bounded None = (λ i j k e. grind arith, λ i j k e. grind arith)
filled_bounded (Some t) = (table_bounded t.places t.sizes.streams t.sizes.lanes (λ i. i), table_bounded t.places t.sizes.lanes t.sizes.streams (λ j. t.sizes.streams + j))
