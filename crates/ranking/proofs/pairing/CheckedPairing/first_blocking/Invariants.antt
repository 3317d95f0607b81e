use Rattle.std.proofs.Common.{◌≡◌, None}
use Rattle.ranking.specs.Market.{market_of}
use Rattle.ranking.specs.Pairings.{holding_of}
use Rattle.ranking.specs.Stability.{UnblockedBelow, UnblockedBefore}
use Rattle.ranking.proofs.pairing.CheckedPairing.first_blocking.Given as goal

-- no lane so far blocks with the stream
abbrev pub invariant-loop-lane : goal.invariant-loop-lane
invariant-loop-lane g l =
    let m = market_of (g.R.Ranking.meaning l.self.ranking.now) in
    record { not_found : l.found ≡ None; before : UnblockedBefore m (holding_of m l.self.pairing.now) l.stream l.lane }

-- no stream so far blocks with any lane
abbrev pub invariant-search : goal.invariant-search
invariant-search g l =
    let m = market_of (g.R.Ranking.meaning l.self.ranking.now) in
    record { not_found : l.found ≡ None; above : UnblockedBelow m (holding_of m l.self.pairing.now) l.index }
