use Rattle.board.proofs.AtTables.{held_row}
use Rattle.board.proofs.tables.Tables.held_rank.Goals as goal

pub rank-requires : goal.rank-requires
rank-requires c = record { have_rows = (c.requires.has_a_row, held_row c.args.self.now c.args.party c.in_ok-held.held c.row.result c.row.ensures.is_the_row c.in_ok-held.was) }
