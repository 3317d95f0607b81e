-- What a caller sees of a board.
use Rattle.std.specs.Prelude.{List}
use Rattle.board.specs.declared.rows.Row.{Row}

-- the ranking that it was made with, and a row for each party
pub record Seen (R : Type 0) : Type 0 where
  pub ranking : R
  pub rows : List Row
