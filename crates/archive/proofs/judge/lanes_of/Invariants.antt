use Rattle.std.proofs.Common.{◌≡◌, ℕ, ◌<◌, map, length, get_or, take}
use Rattle.record.specs.Faults.{pair_of}
use Rattle.archive.specs.Pairs.{lane_of}
use Rattle.archive.proofs.judge.lanes_of.Given as goal

abbrev pub invariant-loop-word : goal.invariant-loop-word
invariant-loop-word l = ((i : ℕ) → i < 16 → get_or l.lanes i 255 ≡ lane_of (map pair_of (take l.word-index l.pairs)) i) × (length l.lanes ≡ 16)
