-- One offer of a party p to a party q.
use Rattle.std.specs.Prelude.{ℕ, Bool, true, false, cond, not, ◌&&◌, Some, None, Option, ◌==◌}
use Rattle.ranking.specs.Market.{Market}
use Rattle.ranking.specs.Stability.{is_party, wants}
use Rattle.board.specs.State.{State}

-- a table of sets with b put into the set of a, or taken out of it
abbrev pub with_member : (ℕ → ℕ → Bool) → ℕ → ℕ → Bool → ℕ → ℕ → Bool
with_member table a b is x y = cond (x == a && y == b) is (table x y)

-- a table of holdings in which a holds somebody else, or nobody
abbrev pub with_holding : (ℕ → Option ℕ) → ℕ → Option ℕ → ℕ → Option ℕ
with_holding table a held x = cond (x == a) held (table x)

-- p joins q's open set and q's bidders
abbrev pub joins : State → ℕ → ℕ → State
joins σ p q = record { holding = σ.holding; opens = with_member σ.opens q p true; bidder = with_member σ.bidder q p true }

-- q leaves p's open set
abbrev pub loses : State → ℕ → ℕ → State
loses σ p q = record { holding = σ.holding; opens = with_member σ.opens p q false; bidder = σ.bidder }

-- p leaves the party that it held, if there is one: that party loses p from its open set and holds nobody
abbrev pub leaves : State → ℕ → Option ℕ → State
leaves σ p None = σ
leaves σ p (Some x) = record { holding = with_holding σ.holding x None; opens = with_member σ.opens x p false; bidder = σ.bidder }

-- p and q hold each other
abbrev pub pairs_up : State → ℕ → ℕ → State
pairs_up σ p q = record { holding = with_holding (with_holding σ.holding q (Some p)) p (Some q); opens = σ.opens; bidder = σ.bidder }

-- the board after an offer of p to q, by whether it was taken
abbrev pub offered : State → ℕ → ℕ → Bool → State
offered σ p q false = loses (joins σ p q) p q
offered σ p q true = pairs_up (leaves (leaves (joins σ p q) p (σ.holding p)) q (σ.holding q)) p q

-- whether q takes p: q is not the party that is waiting, if one is, and q ranks p, and better than its holding
abbrev pub takes : Market → Option ℕ → State → ℕ → ℕ → Bool
takes m waiting σ p q = not (is_party waiting q) && wants m σ.holding q p

-- the party that y wrongs by leaving somebody: that one, if y is among its bidders
abbrev pub wronged_by : State → ℕ → Option ℕ → Option ℕ
wronged_by σ y None = None
wronged_by σ y (Some x) = cond (σ.bidder x y) (Some x) None

-- the party that an offer wrongs because y leaves it, by whether the offer was taken: y leaves its holding then
abbrev pub wronged : State → Bool → ℕ → Option ℕ
wronged σ false y = None
wronged σ true y = wronged_by σ y (σ.holding y)
