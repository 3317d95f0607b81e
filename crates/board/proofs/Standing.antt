-- A standstill is stable.
use Rattle.std.proofs.Common.{◌≡◌, ℕ, true, false, ◌||◌, is_some, Some, None, Option, sym, refl, ap, ◌∙◌, ⊎_elim}
use Rattle.std.proofs.lemmas.Bool.{false_from_ne_true, and_parts, and_from, or_cases, both_ways, eq-eqb}
use Rattle.record.proofs.Lists.{or_false}
use Rattle.ranking.specs.Market.{Market, LawfulMarket}
use Rattle.board.specs.Sides.{across}
use Rattle.ranking.specs.Stability.{is_party, holds, wants, blocks, ranks_both, held_ranked, Stable}
use Rattle.ranking.proofs.Blocking.{blocks_wants}
use Rattle.board.specs.State.{State, new_state, seeks, Standstill}
use Rattle.board.specs.Kept.{Kept}
use Rattle.board.proofs.Keeping.{held_facts, open_facts, kept_from, across_below, across_swap, ranked_across, wanted_ranked}

-- a new board keeps it
pub new_kept : (m : Market) → Kept m (new_state m)
new_kept m = kept_from m (new_state m)
    (λ a b e. absurd (both_ways false refl e))
    (λ a b e. record { pair = ap (λ x. x || across m b a) e; missing = ap (λ x. x || false) e })
    (λ a b e. sym (or_false (across m a b)) ∙ e)

module _ (m : Market) (law : LawfulMarket m) (σ : State) (kept : Kept m σ) where
  -- who holds somebody and whom it holds rank each other
  pub partners_rank : (p : ℕ) → held_ranked m σ.holding p ≡ true
  partners_rank p = go (σ.holding p) refl
    where
      go : (o : Option ℕ) → σ.holding p ≡ o → ranks_both m p o ≡ true
      go None e = refl
      go (Some q) e =
          let held : holds σ.holding p q ≡ true = ap (λ o. is_party o q) e ∙ eq-eqb q q refl in
          let facts = held_facts m σ kept p q held in
          and_from (is_some (m.rank p q)) (is_some (m.rank q p)) facts.ranked (held_facts m σ kept q p facts.back).ranked

  -- at a standstill nobody in an open set is wanted
  unwanted : Standstill m σ → (p q : ℕ) → across m p q ≡ true → σ.opens p q ≡ true → wants m σ.holding p q ≡ true → ⊥
  unwanted still p q x o w = both_ways (seeks m σ p q) (still p (across_below m p q x).0 q) (and_from (σ.opens p q) (wants m σ.holding p q) o w)

  -- at a standstill no pair blocks
  pub no_pair_blocks : Standstill m σ → (p q : ℕ) → blocks m σ.holding p q ≡ false
  no_pair_blocks still p q = false_from_ne_true (blocks m σ.holding p q) blocked
    where
      blocked : blocks m σ.holding p q ≡ true → ⊥
      blocked e =
          let (w, v) = and_parts (wants m σ.holding p q) (wants m σ.holding q p) (sym (blocks_wants m σ.holding p q) ∙ e) in
          let x : across m p q ≡ true = ranked_across m law p q (wanted_ranked m σ.holding p q w) in
          ⊎_elim (λ o. unwanted still p q x o w) (λ o. unwanted still q p (across_swap m q p ∙ x) o v) (or_cases (σ.opens p q) (σ.opens q p) (open_facts m σ kept p q x).pair)

  pub standstill_stable : Standstill m σ → Stable m σ.holding
  standstill_stable still = record { ranked = partners_rank; unblocked = no_pair_blocks still }
