use Rattle.std.proofs.Common.{◌≡◌, ℕ, length, get_or}
use Rattle.board.specs.Meaning.{no_row, market_in}
use Rattle.board.proofs.NewRows.{NewRow}
use Rattle.board.proofs.rows.Rows.new.Given as goal

abbrev pub invariant-loop-party : goal.invariant-loop-party
invariant-loop-party l = (length l.rows ≡ 32) × ((a : ℕ) → NewRow (market_in l.ranks) l.party a (get_or l.rows a no_row))
