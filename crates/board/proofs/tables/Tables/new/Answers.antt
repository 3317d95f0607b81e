use Rattle.std.proofs.Common.{sym, subst}
use Rattle.board.specs.Kept.{Kept}
use Rattle.board.specs.Meaning.{market_in}
use Rattle.board.proofs.Standing.{new_kept}
use Rattle.board.proofs.tables.Tables.new.Goals as goal

pub invariant_of-result : goal.invariant_of-result
invariant_of-result g c =
    let m = market_in c.of-ranks.result in
    record { kept = subst (Kept m) (sym (c.new-rows.ensures.are_new)) (new_kept m) }
