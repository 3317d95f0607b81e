-- Turns worked out on a board that is written out in lists, so that the checker itself can follow a worked board. The
-- definitions of a turn are those of the other files; what is worked out here is proved to agree with them.
use Rattle.std.specs.Prelude.{ℕ, zero, suc, ◌+◌, ◌*◌, Bool, true, false, cond, not, ◌&&◌, leb, List, [], ◌∷◌, map, length, is_some, Some, None, Option, nat_le, slice_index_or}
use Rattle.std.specs.List.{range_with_len}
use Rattle.std.specs.Option.{option_map}
use Rattle.record.specs.Lists.{every}
use Rattle.ranking.specs.Market.{Market, prefers}
use Rattle.board.specs.Sides.{party_count}
use Rattle.board.specs.State.{State, new_state, seeks}
use Rattle.board.specs.Offer.{offered, takes, wronged}
use Rattle.board.specs.Turn.{Tally}
use Rattle.board.specs.Turns.{no_tally, together}

-- a board written out: a place in each list for each party, and in its rows for each party that may be open to it or its
-- bidder
pub record Sheet : Type 0 where
  pub holding : List (Option ℕ)
  pub opens : List (List Bool)
  pub bidder : List (List Bool)

-- the mark in row a at place b; past the end there is none
abbrev pub mark_at : List (List Bool) → ℕ → ℕ → Bool
mark_at rows a b = slice_index_or (slice_index_or rows a []) b false

-- the board on a sheet
abbrev pub board_on : Sheet → State
board_on t = record { holding = λ p. slice_index_or t.holding p None; opens = mark_at t.opens; bidder = mark_at t.bidder }

-- n rows of n marks
abbrev pub rows_of : ℕ → (ℕ → ℕ → Bool) → List (List Bool)
rows_of n table = map (λ a. map (table a) (range_with_len 0 n)) (range_with_len 0 n)

-- a board written out for n parties
abbrev pub written : ℕ → State → Sheet
written n σ = record { holding = map σ.holding (range_with_len 0 n); opens = rows_of n σ.opens; bidder = rows_of n σ.bidder }

-- there are at most n rows, and at most n marks in each
abbrev pub rows_fit : ℕ → List (List Bool) → Bool
rows_fit n rows = nat_le (length rows) n && every (λ row. leb (length row) n) rows

-- a sheet has no place for a party that is not below n
abbrev pub fits : ℕ → Sheet → Bool
fits n t = nat_le (length t.holding) n && (rows_fit n t.opens && rows_fit n t.bidder)

-- a new board written out
abbrev pub new_sheet : Market → Sheet
new_sheet m = written (party_count m) (new_state m)

-- whom p prefers to make an offer: q, if p seeks it and ranks it better than the party before, or else that one
abbrev pub better_of : Market → State → ℕ → ℕ → Option ℕ → Option ℕ
better_of m σ p q None = cond (seeks m σ p q) (Some q) None
better_of m σ p q (Some r) = cond (seeks m σ p q && prefers (m.rank p q) (m.rank p r)) (Some q) (Some r)

-- the best of the parties below n that p seeks, or none
abbrev pub best_below : Market → State → ℕ → ℕ → Option ℕ
best_below m σ p zero = None
best_below m σ p (suc n) = better_of m σ p n (best_below m σ p n)

-- the party to which the offer of p goes, or none where p is content
abbrev pub best_of : Market → State → ℕ → Option ℕ
best_of m σ p = best_below m σ p (party_count m)

-- every party below n is content
abbrev pub content_below : Market → State → ℕ → Bool
content_below m σ zero = true
content_below m σ (suc n) = not (is_some (best_of m σ n)) && content_below m σ n

-- the board on a sheet is at a standstill
abbrev pub standstill_on : Market → Sheet → Bool
standstill_on m t = content_below m (board_on t) (party_count m)

-- the sheet after an offer of p to q, by whether it was taken
abbrev pub offered_on : Market → Sheet → ℕ → ℕ → Bool → Sheet
offered_on m t p q taken = written (party_count m) (offered (board_on t) p q taken)

-- who goes on in a chain after an offer of p to q: p if it was not taken, or else whom it wrongs, if anybody
abbrev pub goes_on : State → ℕ → ℕ → Bool → Option ℕ
goes_on σ p q false = Some p
goes_on σ p q true = wronged σ true q

-- what is left of a chain: nothing where nobody goes on
abbrev pub rest_of : (Sheet → ℕ → Option (Sheet × ℕ)) → Sheet → Option ℕ → Option (Sheet × ℕ)
rest_of chain t None = Some (t, 0)
rest_of chain t (Some x) = chain t x

-- an offer of p to q, by whether it was taken, and what is left of the chain after it
abbrev pub offer_of : (Sheet → ℕ → Option (Sheet × ℕ)) → Market → Sheet → ℕ → ℕ → Bool → Option (Sheet × ℕ)
offer_of chain m t p q taken = option_map (λ r. (r.0, suc r.1)) (rest_of chain (offered_on m t p q taken) (goes_on (board_on t) p q taken))

-- a chain of p from its next offer on, if that goes to somebody
abbrev pub chain_of : (Sheet → ℕ → Option (Sheet × ℕ)) → Market → Option ℕ → Sheet → ℕ → Option ℕ → Option (Sheet × ℕ)
chain_of chain m waiting t p None = Some (t, 0)
chain_of chain m waiting t p (Some q) = offer_of chain m t p q (takes m waiting (board_on t) p q)

-- the sheet after the chain of p, and its offers; none where it does not end within so many steps
abbrev pub chain_on : (steps : ℕ) → Market → Option ℕ → Sheet → ℕ → Option (Sheet × ℕ)
chain_on zero m waiting t p = None
chain_on (suc steps) m waiting t p = chain_of (chain_on steps m waiting) m waiting t p (best_of m (board_on t) p)

-- what comes after something, if there is that
abbrev pub and_then : {A B : Type 0} → Option A → (A → Option B) → Option B
and_then None f = None
and_then (Some a) f = f a

-- the sheet after the chain that a wronged party is owed, if there is one, with its offers and the number of chains. A
-- chain has an offer at most for each stream and lane, and ends in the step after it
abbrev pub owed_on : Market → Option ℕ → Option ℕ → Sheet → Option (Sheet × ℕ × ℕ)
owed_on m waiting None t = Some (t, 0, 0)
owed_on m waiting (Some x) t = option_map (λ r. (r.0, r.1, 1)) (chain_on (suc (m.streams * m.lanes)) m waiting t x)

-- a turn of p in which it makes q an offer, by whether that was taken
abbrev pub moved_on : Market → Sheet → ℕ → ℕ → Bool → Option (Sheet × Tally)
moved_on m t p q taken =
    and_then (owed_on m (wronged (board_on t) taken p) (wronged (board_on t) taken q) (offered_on m t p q taken)) λ x.
    and_then (owed_on m None (wronged (board_on t) taken p) x.0) λ y.
    Some (y.0, record { moved = 1; offers = 1 + (x.1 + y.1); chains = x.2 + y.2 })

-- a turn of p whose offer goes to somebody, or to nobody
abbrev pub turn_of : Market → Sheet → ℕ → Option ℕ → Option (Sheet × Tally)
turn_of m t p None = Some (t, no_tally)
turn_of m t p (Some q) = moved_on m t p q (takes m None (board_on t) p q)

-- the sheet after the turn of p, and its tally
abbrev pub turn_on : Market → Sheet → ℕ → Option (Sheet × Tally)
turn_on m t p = turn_of m t p (best_of m (board_on t) p)

-- the sheet after turns of these parties, one after another, and their tallies counted together
abbrev pub turns_on : Market → Sheet → List ℕ → Option (Sheet × Tally)
turns_on m t [] = Some (t, no_tally)
turns_on m t (p ∷ ps) =
    and_then (turn_on m t p) λ x.
    and_then (turns_on m x.0 ps) λ y.
    Some (y.0, together x.1 y.1)

-- what is told of worked turns: whom the parties hold after them, the tally, and whether that is a standstill
abbrev pub ending : Market → Sheet × Tally → List (Option ℕ) × Tally × Bool
ending m r = (r.0.holding, r.1, standstill_on m r.0)
