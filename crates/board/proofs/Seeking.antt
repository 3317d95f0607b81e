-- The search for the best ranked member of an open set, and what it says of who is content.
use Rattle.std.proofs.Common.{◌≡◌, ℕ, ◌<◌, ◌≤◌, Bool, true, false, cond, not, ◌&&◌, eqb, ltb, ◌==◌, nat_lt, is_some, Some, None, Option, sym, refl, ap, ◌∙◌, subst, ⊎_elim, arith}
use Rattle.std.proofs.lemmas.Bool.{and_from, and_right, and_left, both_ways, cases_lt, cases_Bool, lt-ltb, eq-eqb, eqb-true}
use Rattle.std.proofs.lemmas.Bool.Decides.{nat_tests}
use Rattle.ranking.specs.Market.{Market, prefers, LawfulMarket}
use Rattle.ranking.specs.Stability.{is_party, rank_of, wants}
use Rattle.board.specs.State.{State, Content, Best}
use Rattle.board.specs.Kept.{Kept}
use Rattle.board.specs.Calls.{BestOpen, Sought}
use Rattle.std.specs.Option.{option_eq}
use Rattle.std.specs.Bool.{then_some}
use Rattle.board.proofs.Keeping.{held_facts}

-- Ranks in order.
better_ranked : (a b : Option ℕ) → prefers a b ≡ true → is_some a ≡ true
better_ranked None b e = absurd (both_ways false refl e)
better_ranked (Some k) b e = refl

-- whoever is not better than a rank is not better than a better one
not_better_down : (r low high : Option ℕ) → prefers low high ≡ true → prefers r high ≡ false → prefers r low ≡ false
not_better_down None low high e f = refl
not_better_down (Some k) None high e f = absurd (both_ways false refl e)
not_better_down (Some k) (Some l) None e f = absurd (both_ways true f refl)
not_better_down (Some k) (Some l) (Some h) e f = grind (arith, nat_tests)

unranked : (o : Option ℕ) → prefers o None ≡ false → is_some o ≡ false
unranked None e = refl
unranked (Some k) e = e

-- of two ranked, different and in strict order, the one that is not beaten is better
pub strictly_better : (a b : Option ℕ) → is_some a ≡ true → is_some b ≡ true → ((k : ℕ) → a ≡ Some k → b ≡ Some k → ⊥) → prefers b a ≡ false → prefers a b ≡ true
strictly_better None b e f d n = absurd (both_ways false refl e)
strictly_better (Some k) None e f d n = absurd (both_ways false refl f)
strictly_better (Some k) (Some l) e f d n = ⊎_elim (λ (h : k < l). lt-ltb k l h) (λ (h : l ≤ k). absurd (again h)) (cases_lt k l)
  where
    again : l ≤ k → ⊥
    again h = ⊎_elim (λ (i : l < k). both_ways (ltb l k) n (lt-ltb l k i)) (λ (i : k ≤ l). d l (ap Some (let s : k ≡ l = omega arith in s)) refl) (cases_lt l k)

-- the rank that a number says: itself, or none from 65,536 on
abbrev pub rank_from : ℕ → Option ℕ
rank_from x = cond (nat_lt x 65536) (Some x) None

-- what was found among the members that were looked at
abbrev FoundAt : Market → State → ℕ → Option ℕ → Option ℕ → Type 0
FoundAt m σ p None best = best ≡ None
FoundAt m σ p (Some q) best = (σ.opens p q ≡ true) × (m.rank p q ≡ best) × (is_some best ≡ true)

-- of p's open set these are left; none of the others is better than what was found
pub record Found (m : Market) (σ : State) (p : ℕ) (left : ℕ → Bool) (found best : Option ℕ) : Type 0 where
  pub within : (r : ℕ) → left r ≡ true → σ.opens p r ≡ true
  pub least : (r : ℕ) → σ.opens p r ≡ true → left r ≡ false → prefers (m.rank p r) best ≡ false
  pub is : FoundAt m σ p found best

-- a member that is taken out, with a rank below all that were found
pub found_lower : (m : Market) (σ : State) (p : ℕ) (left after : ℕ → Bool) (found : Option ℕ) (lowest k q : ℕ) → Found m σ p left found (rank_from lowest) → left q ≡ true → ((r : ℕ) → after r ≡ (not (r == q) && left r)) → m.rank p q ≡ Some k → k ≤ 65535 → k < lowest → Found m σ p after (Some q) (rank_from k)
found_lower m σ p left after found lowest k q held member taken e few low = record {
  within = λ r a. let was = held.within r in let now = taken r in grind (arith, nat_tests);
  least = λ r o a.
      let now = taken r in
      let was = held.least r o in
      let down = not_better_down (m.rank p r) (Some k) (rank_from lowest) lower in
      grind (arith, nat_tests);
  is = (held.within q member, e ∙ sym ranked, ap is_some ranked);
}
  where
    ranked : rank_from k ≡ Some k
    ranked = grind (arith, nat_tests)

    lower : prefers (Some k) (rank_from lowest) ≡ true
    lower = grind (arith, nat_tests)

module _ (m : Market) (law : LawfulMarket m) (σ : State) (kept : Kept m σ) (p : ℕ) where
  -- where p holds the best of its open set, it is content; otherwise the best is sought
  pub best_held_content : (q : ℕ) → BestOpen m σ p (Some q) → σ.holding p ≡ Some q → Content m σ p
  best_held_content q best e r = ⊎_elim
      (λ o. and_right (σ.opens p r) _ (ap (λ h. prefers (m.rank p r) (rank_of (m.rank p) h)) e ∙ best.2 r o))
      (λ o. and_left (σ.opens p r) _ o)
      (cases_Bool (σ.opens p r))

  pub best_sought : (q : ℕ) → BestOpen m σ p (Some q) → (σ.holding p ≡ Some q → ⊥) → Best m σ p q
  best_sought q best d = record { sought = and_from (σ.opens p q) (wants m σ.holding p q) best.0 (go (σ.holding p) refl); first = best.2 }
    where
      ranked_better : (o : Option ℕ) → is_some o ≡ true → prefers o None ≡ true
      ranked_better None e = absurd (both_ways false refl e)
      ranked_better (Some k) e = refl

      go : (h : Option ℕ) → σ.holding p ≡ h → prefers (m.rank p q) (rank_of (m.rank p) h) ≡ true
      go None e = ranked_better (m.rank p q) best.1
      go (Some x) e =
          let facts = held_facts m σ kept p x (ap (λ o. is_party o x) e ∙ eq-eqb x x refl) in
          strictly_better (m.rank p q) (m.rank p x) best.1 facts.ranked (λ k a b. d (e ∙ ap Some (law.strict p x q k b a))) (best.2 x facts.opened)

-- who is the party q
pub the_party : (o : Option ℕ) (q : ℕ) → is_party o q ≡ true → o ≡ Some q
the_party None q e = absurd (both_ways false refl e)
the_party (Some x) q e = ap Some (eqb-true x q e)

pub not_the_party : (o : Option ℕ) (q : ℕ) → is_party o q ≡ false → o ≡ Some q → ⊥
not_the_party o q e s = both_ways (is_party o q) e (ap (λ x. is_party x q) s ∙ eq-eqb q q refl)

module _ (m : Market) (law : LawfulMarket m) (σ : State) (kept : Kept m σ) (p : ℕ) where
  -- the best of p's open set is sought, unless p holds it
  pub sought_or_held : (q : ℕ) → BestOpen m σ p (Some q) → (h : Option ℕ) → h ≡ σ.holding p → Sought m σ p (then_some (not (option_eq eqb h (Some q))) q)
  sought_or_held q best h e = go (is_party h q) refl
    where
      same : (h : Option ℕ) → option_eq eqb h (Some q) ≡ is_party h q
      same None = refl
      same (Some x) = refl

      go : (b : Bool) → is_party h q ≡ b → Sought m σ p (then_some (not (option_eq eqb h (Some q))) q)
      go true s = subst (λ b. Sought m σ p (then_some (not b) q)) (sym (same h ∙ s)) (best_held_content m law σ kept p q best (sym e ∙ the_party h q s))
      go false s = subst (λ b. Sought m σ p (then_some (not b) q)) (sym (same h ∙ s)) (best_sought m law σ kept p q best (λ i. not_the_party h q s (e ∙ i)))
