use Rattle.std.proofs.Common.{◌≡◌, ℕ, ◌<◌, map, length, None}
use Rattle.record.specs.Lists.{earliest}
use Rattle.ranking.specs.Figures.{figured_at, Small, party_fault}
use Rattle.ranking.proofs.scorer.Side.of.Given as goal

-- nothing refused so far, and the table holds the figures so far
abbrev pub invariant-loop-k : goal.invariant-loop-k
invariant-loop-k g l = record {
  unrefused : earliest (party_fault l.first (map g.figured l.records)) l.k ≡ None;
  held : (i : ℕ) → i < l.k → figured_at l.figures i ≡ figured_at (map g.figured l.records) i;
  small : Small l.figures;
  whole : length l.figures ≡ 16;
}
