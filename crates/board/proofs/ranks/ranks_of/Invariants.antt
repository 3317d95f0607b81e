use Rattle.board.proofs.Filling.{done_below, done_to, Filled}
use Rattle.board.proofs.ranks.ranks_of.Given as goal

abbrev pub invariant-loop-stream : goal.invariant-loop-stream
invariant-loop-stream g l = Filled (g.R.Ranking.meaning l.ranking) l.table (done_below l.stream)

abbrev pub invariant-loop-lane : goal.invariant-loop-lane
invariant-loop-lane g l = let x = g.R.Ranking.meaning l.ranking in Filled x l.table (done_to x.streams l.stream l.lane)
