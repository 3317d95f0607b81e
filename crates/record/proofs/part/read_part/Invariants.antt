use Rattle.std.proofs.Common.{◌≡◌, take}
use Rattle.record.specs.Kinds.{kind_number}
use Rattle.record.proofs.Passing.{Going}
use Rattle.record.proofs.part.read_part.Given as goal

-- the words so far have passed, and the scan has seen them
abbrev pub invariant-loop-at : goal.invariant-loop-at
invariant-loop-at g l =
    Going l.words (kind_number l.kind) l.from l.at
    × g.S.Scan.sees l.scan (take l.at l.words)
    × (g.S.Scan.scans l.scan ≡ l.kind)
