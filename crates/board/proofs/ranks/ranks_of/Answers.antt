use Rattle.std.proofs.Common.{◌≡◌, ℕ, ◌+◌, subst, sym, arith}
use Rattle.ranking.specs.Market.{Meaning}
use Rattle.board.proofs.Filling.{with_rank, done_below, done_to, Filled, none_filled, filled_first, filled_more, filled_next, filled_all}
use Rattle.board.proofs.ranks.ranks_of.Goals as goal

pub loop-stream-init : goal.loop-stream-init
loop-stream-init g c = none_filled (g.R.Ranking.meaning c.args.ranking.now)

pub loop-lane-init : goal.loop-lane-init
loop-lane-init g c =
    let r = c.args.ranking.now in
    let x : Meaning = g.R.Ranking.meaning r in
    let z = g.met.R.Ranking.sized r in
    filled_first x (g.met.R.Ranking.bounded r) z.1 z.3 c.loop-stream.table c.loop-stream.stream (omega (arith, c.requires.its_sizes.0)) c.loop-stream.invariant

pub loop-lane-preserved : goal.loop-lane-preserved
loop-lane-preserved g c =
    let r = c.args.ranking.now in
    let x : Meaning = g.R.Ranking.meaning r in
    let z = g.met.R.Ranking.sized r in
    let i = c.loop-stream.stream in
    let j = c.loop-lane.lane in
    rw (c.rank_by_stream.ensures.is_the_streams_rank, c.rank_by_lane.ensures.is_the_lanes_rank)
    (subst (λ (s : ℕ). Filled x (with_rank (with_rank c.loop-lane.table i (s + j) (x.by_stream i j)) (s + j) i (x.by_lane j i)) (done_to x.streams i (j + 1))) (sym c.requires.its_sizes.0)
    (filled_more x (g.met.R.Ranking.bounded r) z.1 z.3 c.loop-lane.table i j (omega (arith, c.requires.its_sizes.0)) (omega (arith, c.requires.its_sizes.1)) c.loop-lane.invariant))

pub loop-stream-preserved : goal.loop-stream-preserved
loop-stream-preserved g c =
    let r = c.args.ranking.now in
    let x : Meaning = g.R.Ranking.meaning r in
    let z = g.met.R.Ranking.sized r in
    let all : c.loop-lane.lane ≡ x.lanes = omega (arith, c.requires.its_sizes.1) in
    filled_next x (g.met.R.Ranking.bounded r) z.1 z.3 c.loop-lane.table c.loop-stream.stream (omega (arith, c.requires.its_sizes.0))
    (subst (λ (l : ℕ). Filled x c.loop-lane.table (done_to x.streams c.loop-stream.stream l)) all c.loop-lane.invariant)

pub returns : goal.returns
returns g c =
    let r = c.args.ranking.now in
    let x : Meaning = g.R.Ranking.meaning r in
    let z = g.met.R.Ranking.sized r in
    let all : c.loop-stream.stream ≡ x.streams = omega (arith, c.requires.its_sizes.0) in
    record { is_its_table = filled_all x (g.met.R.Ranking.bounded r) z.1 z.3 c.loop-stream.table (subst (λ (i : ℕ). Filled x c.loop-stream.table (done_below i)) all c.loop-stream.invariant) }
