use Rattle.std.proofs.Common.{None, unwrap_or, is_some, if◌then◌else◌, Option, sym, subst}
use Rattle.board.specs.Turn.{Owed}
use Rattle.board.specs.Turn.Owed.{nobody, chain}
use Rattle.board.specs.Calls.{market_at, state_at}
use Rattle.board.proofs.tables.Tables.owed.Goals as goal

pub returns-in_err-party-clause-ran : goal.returns-in_err-party-clause-ran
returns-in_err-party-clause-ran c =
    let t = c.args.self.now in
    subst (λ o. Owed (market_at t) c.args.waiting o (state_at t) (state_at t) (unwrap_or c.from_residual.result 0) (if is_some c.from_residual.result then 1 else 0)) (sym c.in_err-party.was)
    (subst (λ (o : Option _). Owed (market_at t) c.args.waiting None (state_at t) (state_at t) (unwrap_or o 0) (if is_some o then 1 else 0)) (sym c.from_residual.ensures) nobody)

pub returns-clause-ran : goal.returns-clause-ran
returns-clause-ran c =
    let t = c.args.self.now in
    subst (λ o. Owed (market_at t) c.args.waiting o (state_at t) (state_at c.chain.new.self) c.chain.result 1) (sym c.in_ok-party.was) (chain c.chain.ensures.ran)
