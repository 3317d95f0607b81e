use Rattle.std.proofs.Common.{sym, subst, Decides, rules}
use Rattle.board.specs.Sides.{party_count}
use Rattle.board.specs.State.{Content, Standstill}
use Rattle.board.specs.Calls.{market_at, state_at}
use Rattle.ranking.specs.Stability.{Stable}
use Rattle.board.proofs.RankTables.{lawful_table}
use Rattle.board.proofs.Standing.{standstill_stable}
use Rattle.board.proofs.BoardPairings.{pairing_holds}
use Rattle.board.proofs.Ranges.{all_below}
use Rattle.board.proofs.tables.Tables.is_standstill.Goals as goal

pub returns : goal.returns
returns c =
    let t = c.args.self.now in
    let m = market_at t in
    let law = lawful_table t.ranks in
    let says : Decides c.all.result (Standstill m (state_at t)) = all_below _ _ c.all.result (party_count (market_at t)) (Content (market_at t) (state_at t)) c.all.ensures.ran (cc) (λ x b q k. search rules) in
    record { says_whether = says; standstill_is_stable = λ e. subst (Stable m) (sym (pairing_holds m law (state_at t) t.kept)) (standstill_stable m law (state_at t) t.kept (says.0 e)) }
