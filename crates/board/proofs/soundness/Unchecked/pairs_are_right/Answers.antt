use Rattle.std.proofs.Common.{◌≡◌, true, ⊎_elim, rules}
use Rattle.board.specs.Sides.{party_count}
use Rattle.board.specs.Kept.{open_right}
use Rattle.board.specs.Meaning.{state_of, market_in}
use Rattle.std.proofs.lemmas.Bool.{cases_lt}
use Rattle.board.proofs.Checking.{no_party}
use Rattle.board.proofs.Ranges.{all_below}
use Rattle.board.proofs.soundness.Unchecked.pairs_are_right.Goals as goal

pub returns : goal.returns
returns c =
    let m = market_in c.args.self.ranks.now in
    let σ = state_of c.args.self.rows.now in
    let below = all_below _ _ c.all.result (party_count m) (λ b. open_right m σ c.args.a b ≡ true) c.all.ensures.ran (cc) (λ x b q k. search rules) in
    record { says_whether = (λ e b. ⊎_elim (below.0 e b) (no_party m σ c.args.a b) (cases_lt b (party_count m)), λ f. below.1 (λ b _. f b)) }
