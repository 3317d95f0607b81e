-- A scoring: a ranking worked out from figures.
use Rattle.std.specs.Prelude.{◌≡◌, ℕ, ◌<◌, List, length, Some, None, Option}
use Rattle.ranking.specs.Market.{Meaning}
use Rattle.ranking.specs.Listings.{unlisted}
use Rattle.ranking.specs.Figures.{figured_at, scored_meaning}
use Rattle.ranking.specs.declared.figures.PartyFigures.{PartyFigures}
use Rattle.ranking.specs.declared.scorer.Side.{Side}
use Rattle.ranking.specs.declared.scorer.Sides.{Sides}
use Rattle.ranking.specs.declared.scorer.Scoring.{Scoring}

-- a side has the figures of a list
pub record SideOf (side : Side) (xs : List PartyFigures) : Type 0 where
  pub count : side.count ≡ length xs
  pub each : (k : ℕ) → k < length xs → figured_at side.figures k ≡ figured_at xs k

-- what both sides mean, where there are any; else one stream and one lane, and nobody ranks anybody
abbrev pub sides_meaning : Option Sides → Meaning
sides_meaning None = unlisted
sides_meaning (Some x) =
    scored_meaning x.streams.count x.lanes.count (figured_at x.streams.figures) (figured_at x.lanes.figures)

-- what a scoring means
abbrev pub scored : Scoring → Meaning
scored x = sides_meaning x.sides
