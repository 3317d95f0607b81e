use Rattle.std.proofs.Common.{◌≡◌, None, true, not, get_or, take, sym, ap, ◌∙◌, arith}
use Rattle.std.proofs.lemmas.Bool.{ne_eqb}
use Rattle.ranking.specs.Market.{market_of}
use Rattle.ranking.specs.Pairings.{wrong_at}
use Rattle.ranking.proofs.Pairings.{wrong_lane, wrong_none, table_among, fault_at_lem, ReadTo, read_lane, read_nobody}
use Rattle.ranking.proofs.pairing.CheckedPairing.new.Goals as goal
use Rattle.ranking.proofs.pairing.CheckedPairing.new.Goals.{then-lane-lanes+else-is_some, else-lane-lanes+else-lane}

pub returns-then-is_some-clause-refused_as_told : goal.returns-then-is_some-clause-refused_as_told
returns-then-is_some-clause-refused_as_told g c =
    let sizes = g.met.R.Ranking.sized c.args.ranking.now in
    let m = market_of (g.R.Ranking.meaning c.args.ranking.now) in
    let bytes = c.args.pairing.now in
    let i = c.loop-index.index in
    let table = c.loop-index.lane_streams in
    let lane = get_or bytes i 0 in
    let wrong : wrong_at m bytes i ≡ true = wrong_lane m bytes i (omega arith) ∙ table_among (take i bytes) table lane c.loop-index.invariant.1 (omega arith) ∙ sym c.is_some.ensures ∙ c.if-is_some.true in
    sym (fault_at_lem m bytes i (omega arith) (omega arith) c.loop-index.invariant.0 wrong)

pub returns-then-lane-clause-refused_as_told : goal.returns-then-lane-clause-refused_as_told
returns-then-lane-clause-refused_as_told g c =
    let m = market_of (g.R.Ranking.meaning c.args.ranking.now) in
    let bytes = c.args.pairing.now in
    let i = c.loop-index.index in
    let wrong : wrong_at m bytes i ≡ true = wrong_none m bytes i (omega arith) ∙ ap not (ne_eqb (get_or bytes i 0) 255 c.if-lane.true) in
    sym (fault_at_lem m bytes i (omega arith) (omega arith) c.loop-index.invariant.0 wrong)

pub loop-index-preserved : goal.loop-index-preserved
loop-index-preserved g c =
    let sizes = g.met.R.Ranking.sized c.args.ranking.now in
    let m = market_of (g.R.Ranking.meaning c.args.ranking.now) in
    let bytes = c.args.pairing.now in
    let i = c.loop-index.index in
    let table = c.loop-index.lane_streams in
    let r : ReadTo m bytes i table = c.loop-index.invariant in
    elim c.if-lane-lanes.branch [
      | then-lane-lanes+else-is_some w ↦
          let free : get_or table (get_or bytes i 0) None ≡ None = grind (arith, w.is_some.ensures, w.if-is_some.false) in
          rw w.lane_streams-is (read_lane m bytes i table (omega arith) (omega arith) (omega arith) free r)
      | else-lane-lanes+else-lane w ↦
          rw w.lane_streams-is (read_nobody m bytes i table (omega arith) (omega arith) w.if-lane.false r)
    ]
