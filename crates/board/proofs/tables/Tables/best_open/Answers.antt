use Rattle.std.proofs.Common.{◌≡◌, Some, sym, ◌∙◌, arith}
use Rattle.sets.specs.Sets.{has}
use Rattle.board.specs.Calls.{market_at, state_at}
use Rattle.board.proofs.Seeking.{found_lower}
use Rattle.board.proofs.tables.Tables.best_open.Goals as goal

pub loop-other-preserved-then-from-lowest : goal.loop-other-preserved-then-from-lowest
loop-other-preserved-then-from-lowest c =
    let m = market_at c.args.self.now in
    let q = c.in-Some.other in
    let k = c.in-Some-rank.rank in
    let next = c.in-Some.ensures in
    let rank : m.rank c.args.party q ≡ Some k = sym c.rank.ensures.is_the_rank ∙ c.in-Some-rank.is in
    rw c.from-lowest.ensures
    (found_lower m (state_at c.args.self.now) c.args.party (has c.loop-other.open.0) (has c.pop_first.new.self.0) c.loop-other.found c.loop-other.lowest k q
    c.loop-other.invariant next.is_the_lowest.1 next.takes_it_away rank (c.args.self.now.ranks.bounded (c.args.party, q, k) rank) (omega (arith, c.from.ensures, c.if-from-lowest.true)))
