use Rattle.ranking.specs.Figures.{stream_figured, lane_figured}
use Rattle.ranking.proofs.scorer.Sides.of.Given as goal

abbrev pub ghost-of : goal.ghost-of
ghost-of a = stream_figured

abbrev pub ghost-of-2 : goal.ghost-of-2
ghost-of-2 a = lane_figured
