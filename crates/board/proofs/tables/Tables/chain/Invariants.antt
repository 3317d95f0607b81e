use Rattle.std.proofs.Common.{◌≡◌}
use Rattle.board.specs.Calls.{market_at, state_at}
use Rattle.board.proofs.Links.{Linked, side_of}
use Rattle.board.proofs.Rooms.{room}
use Rattle.board.proofs.tables.Tables.chain.Given as goal

abbrev pub invariant-loop-other : goal.invariant-loop-other
invariant-loop-other l = record {
  linked : Linked (market_at l.self) l.waiting (state_at l.initial.self) l.first (state_at l.self) l.party l.offers;
  same_ranks : l.self.ranks ≡ l.initial.self.ranks;
}

abbrev pub decreases-loop-other : goal.decreases-loop-other
decreases-loop-other l = room (market_at l.self) (side_of (market_at l.self) l.first) (state_at l.self).opens
