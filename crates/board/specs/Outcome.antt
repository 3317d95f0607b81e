-- What a turn can lead to.
use Rattle.std.specs.Prelude.{◌≡◌, ℕ, true, Some}
use Rattle.ranking.specs.Market.{Market, LawfulMarket}
use Rattle.board.specs.Sides.{party_count}
use Rattle.board.specs.State.{State}
use Rattle.board.specs.Turn.{Tally, Turn}
use Rattle.board.specs.Computed.{Sheet, board_on, fits, turn_on}

-- A turn has at most one outcome: from one board, a turn of one party leads to one board and counts one tally. That holds
-- of every lawful market and every board, however it came about.
abbrev pub OneOutcome : Type 0
OneOutcome = (m : Market) → LawfulMarket m → (σ τ υ : State) (p : ℕ) (a b : Tally) → Turn m σ p τ a → Turn m σ p υ b → (τ ≡ υ) × (a ≡ b)

-- A turn worked out on a board that is written out in lists is the turn.
abbrev pub TurnAsComputed : Type 0
TurnAsComputed = (m : Market) → LawfulMarket m → (t u : Sheet) (p : ℕ) (a : Tally) → fits (party_count m) t ≡ true → turn_on m t p ≡ Some (u, a) → Turn m (board_on t) p (board_on u) a
