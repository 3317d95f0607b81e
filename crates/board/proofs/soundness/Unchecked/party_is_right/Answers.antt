use Rattle.std.proofs.Common.{sym, ◌∙◌}
use Rattle.std.proofs.lemmas.Bool.{false≢true}
use Rattle.board.specs.Meaning.{state_of, market_in}
use Rattle.board.proofs.Checking.{held_part, open_part}
use Rattle.board.proofs.soundness.Unchecked.party_is_right.Goals as goal
use Rattle.board.proofs.soundness.Unchecked.party_is_right.Goals.{then-holding_is_right, else-holding_is_right}

pub returns-else-pairs_are_right : goal.returns-else-pairs_are_right
returns-else-pairs_are_right c =
    let m = market_in c.args.self.ranks.now in
    let σ = state_of c.args.self.rows.now in
    record {
      says_whether = (
        λ e. absurd (false≢true (sym c.if-pairs_are_right.false ∙ e)),
        λ f. elim c.if-holding_is_right.branch [
          | then-holding_is_right w ↦ w.value-is ∙ w.pairs_are_right.ensures.says_whether.1 (open_part m σ c.args.a f)
          | else-holding_is_right w ↦ absurd (false≢true (sym w.if-holding_is_right.false ∙ c.holding_is_right.ensures.says_whether.1 (held_part m σ c.args.a f)))
        ],
      );
    }
