-- Who stand on the two sides of a market.
use Rattle.std.proofs.Common.{◌≡◌, ℕ, true, ◌⊎◌, Some, arith}
use Rattle.std.proofs.lemmas.Bool.Decides.{nat_tests}
use Rattle.ranking.specs.Market.{Market, StreamAndLane, LawfulMarket}
use Rattle.board.specs.Sides.{across}

pub across_from : (m : Market) (p q : ℕ) → StreamAndLane m p q ⊎ StreamAndLane m q p → across m p q ≡ true
across_from m p q h = grind (arith, nat_tests)

pub across_parts : (m : Market) (p q : ℕ) → across m p q ≡ true → StreamAndLane m p q ⊎ StreamAndLane m q p
across_parts m p q e = grind (arith, nat_tests)

-- a rank stands only between the two sides
pub sides_law : (m : Market) → LawfulMarket m → (p q k : ℕ) → m.rank p q ≡ Some k → across m p q ≡ true
sides_law m law p q k e = across_from m p q (law.across p q k e)
