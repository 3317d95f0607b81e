-- What the board's calls answer and promise.
use Rattle.std.specs.Prelude.{◌≡◌, ℕ, ◌-◌, true, false, cond, not, List, map, is_some, Some, None, Option, nat_lt}
use Rattle.std.specs.List.{range_with_len}
use Rattle.record.specs.Refusals.{refuse_if}
use Rattle.ranking.specs.Market.{Market, prefers}
use Rattle.board.specs.Sides.{party_count}
use Rattle.board.specs.State.{State, Content, Best}
use Rattle.board.specs.Offer.{takes, wronged}
use Rattle.board.specs.Turn.{Tally}
use Rattle.board.specs.Meaning.{state_of, market_in}
use Rattle.board.specs.declared.procedure.Offered.{Offered}
use Rattle.board.specs.declared.tables.Tables.{Tables}
use Rattle.board.specs.declared.turned.Turned.{Turned}

-- the market that a board's tables mean: its ranking's, from when it was made
abbrev pub market_at : Tables → Market
market_at t = market_in t.ranks

-- what a board holds
abbrev pub state_at : Tables → State
state_at t = state_of t.rows

-- what refuses a party: it is not below s + g
abbrev pub party_fault : Market → ℕ → Option (ℕ × ℕ)
party_fault m p = refuse_if (not (nat_lt p (party_count m))) (6, p)

-- whom a stream holds as a byte of a pairing, of s streams: the number of the lane, or 255 for nobody
abbrev pub lane_byte : (s : ℕ) → Option ℕ → ℕ
lane_byte s None = 255
lane_byte s (Some q) = q - s

-- a board's pairing: a byte for each stream
abbrev pub pairing_at : Market → State → List ℕ
pairing_at m σ = map (λ i. lane_byte m.streams (σ.holding i)) (range_with_len 0 m.streams)

-- what each answer of a turn counts: an idle turn nothing, a moved turn itself with its offers and its chains
abbrev pub tally_of : Turned → Tally
tally_of Turned.Idle = record { moved = 0; offers = 0; chains = 0 }
tally_of (Turned.Moved offers chains) = record { moved = 1; offers = offers; chains = chains }

-- what an offer of p to q comes to, while somebody is waiting or nobody: q takes p or does not; if it does, whom p and q wrong
-- by leaving
abbrev pub answer_to : Market → Option ℕ → State → ℕ → ℕ → Offered
answer_to m waiting σ p q = cond (takes m waiting σ p q) (Offered.Taken (wronged σ true p) (wronged σ true q)) Offered.NotTaken

-- whom p makes an offer to, or nobody where p is content
abbrev pub Sought : Market → State → ℕ → Option ℕ → Type 0
Sought m σ p None = Content m σ p
Sought m σ p (Some q) = Best m σ p q

-- the best ranked member of p's open set, or nobody where p ranks none of them
abbrev pub BestOpen : Market → State → ℕ → Option ℕ → Type 0
BestOpen m σ p None = (r : ℕ) → σ.opens p r ≡ true → is_some (m.rank p r) ≡ false
BestOpen m σ p (Some q) = (σ.opens p q ≡ true) × (is_some (m.rank p q) ≡ true) × ((r : ℕ) → σ.opens p r ≡ true → prefers (m.rank p r) (m.rank p q) ≡ false)
