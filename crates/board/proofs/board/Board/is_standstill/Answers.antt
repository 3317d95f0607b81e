use Rattle.std.proofs.Common.{◌≡◌, Bool, true, Decides, subst}
use Rattle.ranking.specs.Market.{Market, market_of}
use Rattle.ranking.specs.Pairings.{holding_of}
use Rattle.ranking.specs.Stability.{Stable}
use Rattle.board.specs.State.{State, Standstill}
use Rattle.board.specs.Meaning.{state_in}
use Rattle.board.specs.Calls.{state_at, pairing_at}
use Rattle.board.proofs.board.Board.is_standstill.Goals as goal

-- both clauses, of a market and a board
abbrev Says : Bool → Market → State → Type 0
Says whether m σ = Decides whether (Standstill m σ) × (whether ≡ true → Stable m (holding_of m (pairing_at m σ)))

pub returns-clause-says_whether : goal.returns-clause-says_whether
returns-clause-says_whether g c =
    let whether = c.is_standstill.result in
    let answer = c.is_standstill.ensures in
    let says = subst (λ v. Says whether (market_of (g.R.Ranking.meaning v.parts.ranking)) (state_in v.parts.rows)) c.self.view_is
    (subst (λ (m : Market). Says whether m (state_at c.self.inside.0.0.tables)) c.self.invariant (answer.says_whether, answer.standstill_is_stable)) in
    says.0

pub returns-clause-standstill_is_stable : goal.returns-clause-standstill_is_stable
returns-clause-standstill_is_stable g c =
    let whether = c.is_standstill.result in
    let answer = c.is_standstill.ensures in
    let says = subst (λ v. Says whether (market_of (g.R.Ranking.meaning v.parts.ranking)) (state_in v.parts.rows)) c.self.view_is
    (subst (λ (m : Market). Says whether m (state_at c.self.inside.0.0.tables)) c.self.invariant (answer.says_whether, answer.standstill_is_stable)) in
    says.1
