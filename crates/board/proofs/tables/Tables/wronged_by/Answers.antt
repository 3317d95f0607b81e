use Rattle.board.proofs.AtTables.{held_row}
use Rattle.board.proofs.tables.Tables.wronged_by.Goals as goal

pub row-requires-2 : goal.row-requires-2
row-requires-2 c = record { has_a_row = held_row c.args.self.now c.args.y c.in_ok-held.held c.row.result c.row.ensures.is_the_row c.in_ok-held.was }
