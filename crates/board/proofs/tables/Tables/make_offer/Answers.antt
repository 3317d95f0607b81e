use Rattle.std.proofs.Common.{true, false, sym, ◌∙◌}
use Rattle.board.proofs.AtTables.{held_has_row, offer_kept}
use Rattle.board.proofs.tables.Tables.make_offer.Goals as goal

pub invariant_of-self : goal.invariant_of-self
invariant_of-self c = record { kept = offer_kept c.args.self.now c.args.waiting c.args.p c.args.q false c.refuse.new.self c.requires.goes_to_the_best (sym c.takes_offer.ensures.is_the_rule ∙ c.if-not-takes_offer.true) c.refuse.ensures.is_not_taken }

pub accept-requires-clause-partners_have_rows : goal.accept-requires-clause-partners_have_rows
accept-requires-clause-partners_have_rows c = (held_has_row c.args.self.now c.args.p, held_has_row c.args.self.now c.args.q)

pub invariant_of-self-2 : goal.invariant_of-self-2
invariant_of-self-2 c = record { kept = offer_kept c.args.self.now c.args.waiting c.args.p c.args.q true c.accept.new.self c.requires.goes_to_the_best (sym c.takes_offer.ensures.is_the_rule ∙ c.if-not-takes_offer.false) c.accept.ensures.is_taken }
