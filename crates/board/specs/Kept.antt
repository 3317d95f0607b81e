-- What every board keeps.
use Rattle.std.specs.Prelude.{◌≡◌, ℕ, Bool, true, not, ◌&&◌, ◌||◌, is_some}
use Rattle.ranking.specs.Market.{Market}
use Rattle.board.specs.Sides.{across}
use Rattle.ranking.specs.Stability.{holds}
use Rattle.board.specs.State.{State}

-- one of a and b has made the other an offer
abbrev pub offer_between : State → ℕ → ℕ → Bool
offer_between σ a b = σ.bidder a b || σ.bidder b a

-- where a holds b: b holds a, a ranks b, b is in a's open set, and one of them has made the other an offer
abbrev pub held_right : Market → State → ℕ → ℕ → Bool
held_right m σ a b = not (holds σ.holding a b) || (holds σ.holding b a && (is_some (m.rank a b) && (σ.opens a b && offer_between σ a b)))

-- where a and b stand on two sides: one is in the other's open set, and if b is missing from a's, one of them has made the
-- other an offer
abbrev pub open_right : Market → State → ℕ → ℕ → Bool
open_right m σ a b = not (across m a b) || ((σ.opens a b || σ.opens b a) && (σ.opens a b || offer_between σ a b))

-- where b is in a's open set or among its bidders: they stand on two sides
abbrev pub sides_right : Market → State → ℕ → ℕ → Bool
sides_right m σ a b = not (σ.opens a b || σ.bidder a b) || across m a b

-- what every board keeps of every two parties
abbrev pub kept_at : Market → State → ℕ → ℕ → Bool
kept_at m σ a b = held_right m σ a b && (open_right m σ a b && sides_right m σ a b)

abbrev pub Kept : Market → State → Type 0
Kept m σ = (a b : ℕ) → kept_at m σ a b ≡ true
