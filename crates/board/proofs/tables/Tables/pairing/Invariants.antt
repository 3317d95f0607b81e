use Rattle.std.proofs.Common.{◌≡◌, ℕ, ◌<◌, ◌≤◌, length, get_or}
use Rattle.board.specs.Calls.{market_at, state_at, lane_byte}
use Rattle.board.proofs.tables.Tables.pairing.Given as goal

abbrev pub invariant-loop-stream : goal.invariant-loop-stream
invariant-loop-stream l =
    (length l.lanes ≡ 16)
    × ((i : ℕ) → i < l.stream → get_or l.lanes i 0 ≡ lane_byte (market_at l.self).streams ((state_at l.self).holding i))
    × ((i : ℕ) → l.stream ≤ i → i < 16 → get_or l.lanes i 0 ≡ 255)
