use Rattle.std.proofs.Common.{ap, ◌∙◌, ap₂}
use Rattle.board.specs.State.{State}
use Rattle.board.specs.Offer.{leaves, pairs_up}
use Rattle.board.specs.declared.rows.Row.{Row}
use Rattle.board.proofs.rows.Rows.accept.Goals as goal

pub returns : goal.returns
returns c =
    let p = c.args.p in
    let q = c.args.q in
    let of_p = ap (λ (r : Row). r.holding) c.row-held_by_p.ensures.is_the_row in
    let of_q = ap (λ (r : Row). r.holding) c.row-held_by_q.ensures.is_the_row in
    record {
      is_taken = c.pair_up.ensures.paired ∙ ap (λ (σ : State). pairs_up σ p q)
          (c.leave-2.ensures.left ∙ ap₂ (λ (σ : State) h. leaves σ q h) (c.leave.ensures.left ∙ ap₂ (λ (σ : State) h. leaves σ p h) c.join.ensures.joined of_p) of_q);
    }
