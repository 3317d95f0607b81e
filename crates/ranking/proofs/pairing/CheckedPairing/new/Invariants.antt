use Rattle.ranking.specs.Market.{market_of}
use Rattle.ranking.proofs.Pairings.{ReadTo}
use Rattle.ranking.proofs.pairing.CheckedPairing.new.Given as goal

-- no stream so far is refused, and the table is right for those so far
abbrev pub invariant-loop-index : goal.invariant-loop-index
invariant-loop-index g l = ReadTo (market_of (g.R.Ranking.meaning l.ranking)) l.pairing l.index l.lane_streams
