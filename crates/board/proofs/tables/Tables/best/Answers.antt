use Rattle.std.proofs.Common.{sym, ap, ◌∙◌, subst}
use Rattle.std.specs.Bool.{then_some}
use Rattle.board.specs.Calls.{market_at, state_at, Sought}
use Rattle.board.specs.declared.rows.Row.{Row}
use Rattle.board.proofs.RankTables.{lawful_table}
use Rattle.board.proofs.Seeking.{sought_or_held}
use Rattle.board.proofs.tables.Tables.best.Goals as goal

pub returns : goal.returns
returns c =
    let t = c.args.self.now in
    let held = ap (λ (r : Row). r.holding) c.row.ensures.is_the_row in
    record {
      best_or_content = subst (Sought (market_at t) (state_at t) c.args.party) (sym (c.then_some.ensures ∙ ap (λ b. then_some b c.in_ok-found.found) c.ne.ensures))
          (sought_or_held (market_at t) (lawful_table t.ranks) (state_at t) t.kept c.args.party c.in_ok-found.found c.in_ok-found.ensures.is_the_best c.row.result.holding held);
    }
