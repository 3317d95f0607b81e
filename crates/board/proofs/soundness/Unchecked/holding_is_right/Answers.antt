use Rattle.std.proofs.Common.{sym, ap, ◌∙◌, arith}
use Rattle.std.proofs.lemmas.Bool.{ltb-true}
use Rattle.board.specs.Meaning.{market_in}
use Rattle.board.specs.declared.rows.Row.{Row}
use Rattle.board.proofs.Checking.{held_past}
use Rattle.board.proofs.soundness.Unchecked.holding_is_right.Goals as goal

pub returns-else-b-lt32 : goal.returns-else-b-lt32
returns-else-b-lt32 c =
    let b = c.in-Some.b in
    record {
      says_whether = (
        λ e. absurd (omega (arith, ltb-true b 32 e)),
        λ f. absurd (held_past (market_in c.args.self.ranks.now) c.args.self.rows.now c.args.a b c.if-b-lt32.false (ap (λ (r : Row). r.holding) (sym c.row.ensures.is_the_row) ∙ c.in-Some.is) (f b)),
      );
    }
