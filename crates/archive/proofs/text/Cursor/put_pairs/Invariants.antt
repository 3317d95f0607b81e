use Rattle.std.proofs.Common.{◌≡◌, ◌*◌, ◌≤◌, take}
use Rattle.archive.specs.Texts.{Wrote}
use Rattle.archive.specs.Judging.{pair_lines}
use Rattle.archive.proofs.text.Cursor.put_pairs.Given as goal

-- the lines of the streams so far are written, at most ten bytes each
abbrev pub invariant-loop-stream : goal.invariant-loop-stream
invariant-loop-stream l =
    Wrote l.initial.self.bytes.now 0 (pair_lines 0 (take l.stream l.judged.lanes)) l.self.bytes.now l.self.at
    × (l.self.at ≤ 10 * l.stream)
    × (l.self.bytes.ghost_name ≡ l.initial.self.bytes.ghost_name)
