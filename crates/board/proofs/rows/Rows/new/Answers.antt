use Rattle.std.proofs.Common.{refl}
use Rattle.board.specs.Meaning.{market_in}
use Rattle.board.proofs.NewRows.{empty_rows}
use Rattle.board.proofs.rows.Rows.new.Goals as goal

pub loop-party-init : goal.loop-party-init
loop-party-init c = let (e, (f, g)) = c.default-rows.ensures in (refl, empty_rows (market_in c.args.ranks.now) _ e f g)
