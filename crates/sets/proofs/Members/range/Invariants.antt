use Rattle.std.proofs.Common.{◌≡◌, ℕ, ◌<◌, ◌&&◌, ltb, leb}
use Rattle.sets.specs.Sets.{has}
use Rattle.sets.proofs.Members.range.Given as goal

-- the set has the numbers from `from` on and below k, and where `end` is below `from` there is none to add
abbrev pub invariant-loop-k : goal.invariant-loop-k
invariant-loop-k l = ((j : ℕ) → has l.members.0 j ≡ (leb l.from j && (ltb j l.k && ltb j 32))) × (l.end < l.from → l.k ≡ l.from)
