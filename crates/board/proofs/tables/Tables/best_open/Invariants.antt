use Rattle.sets.specs.Sets.{has}
use Rattle.board.specs.Calls.{market_at, state_at}
use Rattle.board.proofs.Seeking.{Found, rank_from}
use Rattle.board.proofs.tables.Tables.best_open.Given as goal

abbrev pub invariant-loop-other : goal.invariant-loop-other
invariant-loop-other l = Found (market_at l.self) (state_at l.self) l.party (has l.open.0) l.found (rank_from l.lowest)

abbrev pub decreases-loop-other : goal.decreases-loop-other
decreases-loop-other l = l.open.0
