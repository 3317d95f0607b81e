-- The rows of a new board.
use Rattle.std.proofs.Common.{◌≡◌, ℕ, Bool, false, ◌&&◌, ltb, get_or, replicate, None, refl, ◌∙◌, ⊎_elim, arith}
use Rattle.std.proofs.lemmas.List.{get_or_past, get_or-replicate}
use Rattle.std.proofs.lemmas.Bool.{cases_lt}
use Rattle.std.proofs.lemmas.Bool.Decides.{nat_tests}
use Rattle.sets.specs.Sets.{has}
use Rattle.sets.proofs.Bits.{has_none}
use Rattle.ranking.specs.Market.{Market}
use Rattle.board.specs.Sides.{across}
use Rattle.board.specs.Meaning.{no_row}
use Rattle.board.specs.declared.rows.Row.{Row}

-- a row of a board whose open sets are set for the parties below k
pub record NewRow (m : Market) (k a : ℕ) (row : Row) : Type 0 where
  pub holding : row.holding ≡ None
  pub opens : (b : ℕ) → has row.open_set.0 b ≡ (ltb a k && across m a b)
  pub bidder : (b : ℕ) → has row.bidders.0 b ≡ false

-- where all rows are one that holds nobody and has no members, nobody's open set is set
pub empty_rows : (m : Market) (row : Row) → row.holding ≡ None → row.open_set.0 ≡ 0 → row.bidders.0 ≡ 0 → (a : ℕ) → NewRow m 0 a (get_or (replicate 32 row) a no_row)
empty_rows m row e f g a = ⊎_elim
    (λ l. rw (get_or-replicate 32 a row no_row l) (record { holding = e; opens = λ b. rw f (has_none b) ∙ nobody_below a (across m a b); bidder = λ b. rw g (has_none b) }))
    (λ l. rw (get_or_past (replicate 32 row) a no_row l) (record { holding = refl; opens = λ b. has_none b ∙ nobody_below a (across m a b); bidder = has_none }))
    (cases_lt a 32)
  where
    nobody_below : (a : ℕ) (b : Bool) → false ≡ (ltb a 0 && b)
    nobody_below a b = grind (arith, nat_tests)
