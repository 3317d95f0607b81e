use Rattle.std.proofs.Common.{◌≡◌, ℕ, true, refl, rules}
use Rattle.board.specs.Kept.{kept_at}
use Rattle.board.specs.Meaning.{state_of, market_in}
use Rattle.board.proofs.RankTables.{lawful_table}
use Rattle.board.proofs.Checking.{rows_kept}
use Rattle.board.proofs.Ranges.{all_below}
use Rattle.board.proofs.soundness.Unchecked.is_kept.Goals as goal

pub returns : goal.returns
returns c =
    let m = market_in c.args.self.ranks.now in
    let rows = c.args.self.rows.now in
    let says = all_below _ _ c.all.result 32 (λ a. (b : ℕ) → kept_at m (state_of rows) a b ≡ true) c.all.ensures.ran refl (λ x b q k. search rules) in
    record { says_whether = (λ e. rows_kept m (lawful_table c.args.self.ranks.now) rows (says.0 e), λ k. says.1 (λ a _. k a)) }
