use Rattle.std.proofs.Common.{◌∙◌, arith, below_more}
use Rattle.ranking.specs.Market.{market_of}
use Rattle.ranking.specs.Pairings.{holding_of}
use Rattle.ranking.proofs.Pairings.{lawful_from_fault}
use Rattle.ranking.proofs.Blocking.{pair_tested, unblocked_more}
use Rattle.ranking.proofs.pairing.CheckedPairing.first_blocking.Goals as goal

pub loop-lane-preserved : goal.loop-lane-preserved
loop-lane-preserved g c =
    let self = c.args.self.now in
    let x = g.R.Ranking.meaning self.ranking.now in
    let bytes = self.pairing.now in
    let lawful = lawful_from_fault (market_of x) bytes self.not_refused in
    record {
      not_found = c.loop-lane.invariant.not_found;
      before =
          below_more _ _ c.loop-lane.invariant.before
          (pair_tested x bytes self.lane_streams c.search.index c.loop-lane.lane c.rank_by_stream-held.result c.want_each_other.result
          (g.met.R.Ranking.sized self.ranking.now) (g.met.R.Ranking.bounded self.ranking.now) lawful self.names_each_lanes_stream
          (omega arith) (omega arith) c.rank_by_stream-held.ensures.is_the_streams_rank c.want_each_other.ensures.each_prefers_the_other
          ∙ c.if-want_each_other.false);
    }

pub search-preserved : goal.search-preserved
search-preserved g c =
    let self = c.args.self.now in
    let m = market_of (g.R.Ranking.meaning self.ranking.now) in
    record {
      not_found = c.loop-lane.invariant.not_found;
      above = unblocked_more m (holding_of m self.pairing.now) c.search.index c.loop-lane.lane (omega arith) c.search.invariant.above c.loop-lane.invariant.before;
    }

pub returns-then-want_each_other : goal.returns-then-want_each_other
returns-then-want_each_other g c =
    let self = c.args.self.now in
    let x = g.R.Ranking.meaning self.ranking.now in
    let bytes = self.pairing.now in
    let lawful = lawful_from_fault (market_of x) bytes self.not_refused in
    record {
      is_the_first_blocking = record {
        stream = omega arith;
        lane = omega arith;
        blocking =
            pair_tested x bytes self.lane_streams c.search.index c.loop-lane.lane c.rank_by_stream-held.result c.want_each_other.result
            (g.met.R.Ranking.sized self.ranking.now) (g.met.R.Ranking.bounded self.ranking.now) lawful self.names_each_lanes_stream
            (omega arith) (omega arith) c.rank_by_stream-held.ensures.is_the_streams_rank c.want_each_other.ensures.each_prefers_the_other
            ∙ c.if-want_each_other.true;
        above = c.search.invariant.above;
        before = c.loop-lane.invariant.before;
      };
    }
