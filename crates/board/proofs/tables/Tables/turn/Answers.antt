use Rattle.std.proofs.Common.{◌≡◌, Bool, true, false, refl, ◌<◌, IfSome, None, Option, ℕ, unwrap_or, is_some, if◌then◌else◌, sym, ◌∙◌, subst}
use mir.Val.{bool_byte}
use Rattle.board.specs.State.{State}
use Rattle.board.specs.Sides.{party_count}
use Rattle.board.specs.Offer.{wronged}
use Rattle.board.specs.Turn.{Owed}
use Rattle.board.specs.Turn.Turn.{idle}
use Rattle.board.specs.Meaning.{market_in}
use Rattle.board.specs.Calls.{market_at, state_at}
use Rattle.board.specs.declared.rank_table.RankTable.{RankTable}
use Rattle.board.proofs.RankTables.{lawful_table}
use Rattle.board.proofs.Partners.{wronged_below}
use Rattle.board.proofs.Links.{turn_moves, turn_left, when_taken, when_not_taken}
use Rattle.board.proofs.tables.Tables.turn.Goals as goal

-- somebody is a party by these ranks
abbrev Below : Option ℕ → RankTable → Type 0
Below o r = IfSome o (λ x. x < party_count (market_in r))

pub returns-in_default-clause-turned : goal.returns-in_default-clause-turned
returns-in_default-clause-turned c = idle c.in_default.ensures.best_or_content

pub owed-first-requires : goal.owed-first-requires
owed-first-requires c =
    let t = c.args.self.now in
    let (_, _, by) = when_taken (market_at t) None (state_at t) c.args.party c.in-Some.other _ _ c.in-Taken.ensures.taken_by_the_rule in
    record { is_a_party = subst (Below c.in-Taken.wronged_by_q) (sym c.make_offer.ensures.ranks_unchanged) (subst (λ o. Below o t.ranks) (sym by) (wronged_below (market_at t) (lawful_table t.ranks) (state_at t) t.kept true c.in-Some.other)) }

pub owed-second-requires : goal.owed-second-requires
owed-second-requires c =
    let t = c.args.self.now in
    let (_, by, _) = when_taken (market_at t) None (state_at t) c.args.party c.in-Some.other _ _ c.in-Taken.ensures.taken_by_the_rule in
    record { is_a_party = subst (Below c.in-Taken.wronged_by_p) (sym (c.owed-first.ensures.ranks_unchanged ∙ c.make_offer.ensures.ranks_unchanged)) (subst (λ o. Below o t.ranks) (sym by) (wronged_below (market_at t) (lawful_table t.ranks) (state_at t) t.kept true c.args.party)) }

pub returns-in-NotTaken-clause-turned : goal.returns-in-NotTaken-clause-turned
returns-in-NotTaken-clause-turned c =
    let t = c.args.self.now in
    let left = when_not_taken (market_at t) None (state_at t) c.args.party c.in-Some.other c.in-NotTaken.ensures.taken_by_the_rule in
    turn_left (market_at t) (state_at t) (state_at c.make_offer.new.self) c.args.party c.in-Some.other c.in-Some.ensures.best_or_content left c.make_offer.ensures.board_after_it

one_if : (b : Bool) → bool_byte b ≡ (if b then 1 else 0)
one_if true = refl
one_if false = refl

-- an owed chain by these ranks
abbrev Ran : Option ℕ → Option ℕ → State → State → Option ℕ → RankTable → Type 0
Ran waiting wronged before after offers r = Owed (market_in r) waiting wronged before after (unwrap_or offers 0) (if is_some offers then 1 else 0)

pub returns-in-Taken-clause-turned : goal.returns-in-Taken-clause-turned
returns-in-Taken-clause-turned c =
    let t = c.args.self.now in
    let offer = c.make_offer.ensures in
    let first = c.owed-first in
    let second = c.owed-second in
    let ran = subst (Ran c.in-Taken.wronged_by_p c.in-Taken.wronged_by_q (state_at c.make_offer.new.self) (state_at first.new.self) first.result) offer.ranks_unchanged first.ensures.ran in
    let ran' = subst (Ran None c.in-Taken.wronged_by_p (state_at first.new.self) (state_at second.new.self) second.result) (first.ensures.ranks_unchanged ∙ offer.ranks_unchanged) second.ensures.ran in
    rw (c.unwrap_or.ensures, c.unwrap_or-in-Taken.ensures, c.from.ensures, one_if c.is_some.result, c.is_some.ensures, c.from-in-Taken.ensures, one_if c.is_some-in-Taken.result, c.is_some-in-Taken.ensures)
    (turn_moves (market_at t) (state_at t) (state_at c.make_offer.new.self) (state_at first.new.self) (state_at second.new.self) c.args.party c.in-Some.other _ _ _ _ c.in-Taken.wronged_by_p c.in-Taken.wronged_by_q c.in-Some.ensures.best_or_content
    (when_taken (market_at t) None (state_at t) c.args.party c.in-Some.other _ _ c.in-Taken.ensures.taken_by_the_rule) offer.board_after_it ran ran')
