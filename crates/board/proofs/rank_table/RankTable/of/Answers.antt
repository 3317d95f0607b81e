use Rattle.std.proofs.Common.{◌≡◌, sym, subst}
use Rattle.ranking.specs.Market.{Market, Meaning, market_of, LawfulMarket}
use Rattle.ranking.proofs.Markets.{lawful_market}
use Rattle.board.specs.RankTables.{table_market}
use Rattle.board.proofs.RankTables.{across_law, bounded_law, strict_law, same_market}
use Rattle.board.proofs.rank_table.RankTable.of.Goals as goal

pub invariant_of-result : goal.invariant_of-result
invariant_of-result g c =
    let r = c.args.ranking.now in
    let x : Meaning = g.R.Ranking.meaning r in
    let lawful = lawful_market x (g.met.R.Ranking.sized r) (g.met.R.Ranking.bounded r) (g.met.R.Ranking.strict r) in
    let m : Market = table_market c.streams.result c.lanes.result c.ranks_of-table.result in
    let e : m ≡ market_of x = same_market (market_of x) lawful _ _ _ c.streams.ensures.is_the_stream_count c.lanes.ensures.is_the_lane_count c.ranks_of-table.ensures.is_its_table in
    let law : LawfulMarket m = subst LawfulMarket (sym e) lawful in
    record { sides = across_law m law; bounded = bounded_law m law; strict = strict_law m law }

pub returns : goal.returns
returns g c =
    let r = c.args.ranking.now in
    let x : Meaning = g.R.Ranking.meaning r in
    record { is_its_market = same_market (market_of x) (lawful_market x (g.met.R.Ranking.sized r) (g.met.R.Ranking.bounded r) (g.met.R.Ranking.strict r)) _ _ _ c.streams.ensures.is_the_stream_count c.lanes.ensures.is_the_lane_count c.ranks_of-table.ensures.is_its_table }
