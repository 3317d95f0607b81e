use Rattle.ranking.specs.Market.{market_of}
use Rattle.ranking.specs.Pairings.{holding_of}
use Rattle.ranking.specs.Stability.{RankedBelow}
use Rattle.ranking.proofs.pairing.CheckedPairing.first_unranked.Given as goal

-- each stream so far holds nobody, or somebody where both rank each other
abbrev pub invariant-loop-index : goal.invariant-loop-index
invariant-loop-index g l =
    let m = market_of (g.R.Ranking.meaning l.self.ranking.now) in
    RankedBelow m (holding_of m l.self.pairing.now) l.index
