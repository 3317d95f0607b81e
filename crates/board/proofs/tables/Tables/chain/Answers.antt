use Rattle.std.proofs.Common.{ℕ, ◌+◌, ◌*◌, ◌<◌, ◌≤◌, Option, sym, refl, ◌∙◌, subst}
use Rattle.board.specs.State.{State}
use Rattle.board.specs.Turn.{Chain}
use Rattle.board.specs.Meaning.{market_in}
use Rattle.board.specs.Calls.{market_at, state_at}
use Rattle.board.specs.declared.rank_table.RankTable.{RankTable}
use Rattle.board.specs.declared.tables.Tables.{Tables}
use Rattle.board.proofs.RankTables.{lawful_table}
use Rattle.board.proofs.Rooms.{room}
use Rattle.board.proofs.Links.{Linked, side_of, begins, stops, goes_on_lem, passes, ends, when_taken, when_not_taken}
use Rattle.board.proofs.tables.Tables.chain.Goals as goal

pub loop-other-init : goal.loop-other-init
loop-other-init c =
    let t = c.args.self.now in
    record { linked = begins (market_at t) (lawful_table t.ranks) c.args.waiting (state_at t) c.args.first c.requires.is_a_party; same_ranks = refl }

-- a chain that has ended, by ranks that are the first ones
abbrev Ended : Option ℕ → State → ℕ → State → ℕ → RankTable → Type 0
Ended waiting start first τ k r = Chain (market_in r) waiting start first τ k × (k ≤ r.sizes.streams * r.sizes.lanes)

pub returns : goal.returns
returns c =
    let t = c.loop-other.self in
    let inv = c.loop-other.invariant in
    let (ran, few) = subst (Ended c.args.waiting (state_at c.args.self.now) c.args.first (state_at t) c.loop-other.offers) inv.same_ranks
    (stops (market_at t) (lawful_table t.ranks) c.args.waiting (state_at c.args.self.now) c.args.first (state_at t) t.kept c.loop-other.party c.loop-other.offers inv.linked c.in_default.ensures.best_or_content) in
    record { ran = ran; has_few_offers = few; ranks_unchanged = inv.same_ranks }

-- the chain goes on with x, and less is left
abbrev Next : Option ℕ → State → ℕ → (before after : Tables) → (x k : ℕ) → RankTable → Type 0
Next waiting start first before after x k r =
    Linked (market_in r) waiting start first (state_at after) x (k + 1)
    × (room (market_in r) (side_of (market_in r) first) (state_at after).opens < room (market_at before) (side_of (market_at before) first) (state_at before).opens)

passing : (c : goal.In-Taken-default-Some) → Next c.args.waiting (state_at c.args.self.now) c.args.first c.loop-other.self c.make_offer.new.self c.in-Taken-default-Some.wronged c.loop-other.offers c.make_offer.new.self.ranks
passing c =
    let t = c.loop-other.self in
    let τ = c.make_offer.new.self in
    let offer = c.make_offer.ensures in
    let (taken, _, by) = when_taken (market_at t) c.args.waiting (state_at t) c.loop-other.party c.in-Some.other _ _ c.in-Taken-default-Some.ensures.taken_by_the_rule in
    subst (Next c.args.waiting (state_at c.args.self.now) c.args.first t τ c.in-Taken-default-Some.wronged c.loop-other.offers) (sym offer.ranks_unchanged)
    (passes (market_at t) (lawful_table t.ranks) c.args.waiting (state_at c.args.self.now) c.args.first (state_at t) t.kept c.loop-other.party c.loop-other.offers c.loop-other.invariant.linked c.in-Some.other c.in-Some.ensures.best_or_content
    (state_at τ) offer.board_after_it taken c.in-Taken-default-Some.wronged (sym by ∙ c.in-Taken-default-Some.wronged_by_q-is))

going_on : (c : goal.In-NotTaken) → Next c.args.waiting (state_at c.args.self.now) c.args.first c.loop-other.self c.make_offer.new.self c.loop-other.party c.loop-other.offers c.make_offer.new.self.ranks
going_on c =
    let t = c.loop-other.self in
    let τ = c.make_offer.new.self in
    let offer = c.make_offer.ensures in
    subst (Next c.args.waiting (state_at c.args.self.now) c.args.first t τ c.loop-other.party c.loop-other.offers) (sym offer.ranks_unchanged)
    (goes_on_lem (market_at t) (lawful_table t.ranks) c.args.waiting (state_at c.args.self.now) c.args.first (state_at t) t.kept c.loop-other.party c.loop-other.offers c.loop-other.invariant.linked c.in-Some.other c.in-Some.ensures.best_or_content
    (state_at τ) offer.board_after_it (when_not_taken (market_at t) c.args.waiting (state_at t) c.loop-other.party c.in-Some.other c.in-NotTaken.ensures.taken_by_the_rule))

pub loop-other-preserved : goal.loop-other-preserved
loop-other-preserved c = record { linked = (passing c).0; same_ranks = c.make_offer.ensures.ranks_unchanged ∙ c.loop-other.invariant.same_ranks }

pub loop-other-smaller : goal.loop-other-smaller
loop-other-smaller c = (passing c).1

pub loop-other-preserved-in-NotTaken : goal.loop-other-preserved-in-NotTaken
loop-other-preserved-in-NotTaken c = record { linked = (going_on c).0; same_ranks = c.make_offer.ensures.ranks_unchanged ∙ c.loop-other.invariant.same_ranks }

pub loop-other-smaller-in-NotTaken : goal.loop-other-smaller-in-NotTaken
loop-other-smaller-in-NotTaken c = (going_on c).1

pub returns-in-Taken-default-None : goal.returns-in-Taken-default-None
returns-in-Taken-default-None c =
    let t = c.loop-other.self in
    let τ = c.make_offer.new.self in
    let offer = c.make_offer.ensures in
    let inv = c.loop-other.invariant in
    let (taken, _, by) = when_taken (market_at t) c.args.waiting (state_at t) c.loop-other.party c.in-Some.other _ _ c.in-Taken-default-None.ensures.taken_by_the_rule in
    let (ran, few) = subst (Ended c.args.waiting (state_at c.args.self.now) c.args.first (state_at τ) (c.loop-other.offers + 1)) inv.same_ranks
    (ends (market_at t) (lawful_table t.ranks) c.args.waiting (state_at c.args.self.now) c.args.first (state_at t) t.kept c.loop-other.party c.loop-other.offers inv.linked c.in-Some.other c.in-Some.ensures.best_or_content
    (state_at τ) offer.board_after_it taken (sym by ∙ c.in-Taken-default-None.wronged_by_q-is)) in
    record { ran = ran; has_few_offers = few; ranks_unchanged = offer.ranks_unchanged ∙ inv.same_ranks }
