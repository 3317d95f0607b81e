-- A turn has one outcome: the best party, a chain, what is owed and a turn are each settled by the board.
use Rattle.std.proofs.Common.{◌≡◌, ℕ, suc, ◌+◌, Bool, true, false, ◌↔◌, Some, None, Option, sym, refl, ap, ◌∙◌, subst, ap₂, arith}
use Rattle.std.proofs.lemmas.Option.{none-some}
use Rattle.std.proofs.lemmas.Bool.{true≢false, false≢true, both_ways, ltb-false, and_parts}
use Rattle.ranking.specs.Market.{Market, LawfulMarket, prefers}
use Rattle.ranking.specs.Stability.{wants}
use Rattle.board.specs.State.{State, seeks, Content, Best}
use Rattle.board.specs.Offer.{offered, takes, wronged}
use Rattle.board.specs.Turn.{Chain, Owed, Tally, Turn}
use Rattle.board.specs.Turn.Chain.{content, refused, passed, ended}
use Rattle.board.specs.Turn.Owed.{nobody, chain}
use Rattle.board.specs.Turn.Turn.{idle, moves}
use Rattle.board.specs.Outcome.{OneOutcome}

-- what is both somebody and nobody
some_none : {A : Type 0} (o : Option ℕ) (x : ℕ) → o ≡ Some x → o ≡ None → A
some_none o x e f = absurd (none-some x (sym f ∙ e))

-- two ranks that are there, and neither of which is better, are one
level : (a b c d : Option ℕ) → prefers a c ≡ true → prefers b d ≡ true → prefers a b ≡ false → prefers b a ≡ false → (k : ℕ) × (a ≡ Some k) × (b ≡ Some k)
level None b c d e f g h = absurd (false≢true e)
level (Some k) None c d e f g h = absurd (true≢false g)
level (Some k) (Some l) c d e f g h = (k, refl, ap Some (omega (arith, ltb-false k l g, ltb-false l k h)))

module _ (m : Market) where
  -- nobody who is content has a best party
  restless : {A : Type 0} {σ : State} {p q : ℕ} → Best m σ p q → Content m σ p → A
  restless {σ = σ} {p = p} {q = q} b c = absurd (both_ways (seeks m σ p q) (c q) b.sought)

  -- a turn is idle exactly when the party is content
  pub idle_when : {σ τ : State} {p : ℕ} {a : Tally} → Turn m σ p τ a → (a.moved ≡ 0) ↔ Content m σ p
  idle_when (idle c) = (λ _. c, λ _. refl)
  idle_when (moves b t x y) = (λ e. absurd (omega arith), λ c. restless b c)

  -- and otherwise it moves
  pub moved_when : {σ τ : State} {p : ℕ} {a : Tally} → Turn m σ p τ a → (a.moved ≡ 1) ↔ (Content m σ p → ⊥)
  moved_when (idle c) = (λ e. absurd (omega arith), λ n. absurd (n c))
  moved_when (moves b t x y) = (λ _ c. restless b c, λ _. refl)

module _ (m : Market) (law : LawfulMarket m) where
  pub best_one : {σ : State} {p q r : ℕ} → Best m σ p q → Best m σ p r → q ≡ r
  best_one {σ = σ} {p = p} {q = q} {r = r} x y =
      let (oq, wq) = and_parts (σ.opens p q) (wants m σ.holding p q) x.sought in
      let (or, wr) = and_parts (σ.opens p r) (wants m σ.holding p r) y.sought in
      let (k, e, f) = level (m.rank p q) (m.rank p r) _ _ wq wr (y.first q oq) (x.first r or) in
      law.strict p q r k e f

  -- what an offer of p to one best party says, said of the other
  moved_to : {σ : State} {p q r : ℕ} (P : ℕ → Type 0) → Best m σ p q → Best m σ p r → P r → P q
  moved_to P x y = subst P (best_one y x)

  module _ (w : Option ℕ) where
    pub chain_one : {σ : State} {p : ℕ} {τ υ : State} {k l : ℕ} → Chain m w σ p τ k → Chain m w σ p υ l → (τ ≡ υ) × (k ≡ l)
    chain_one (content c) (content c') = (refl, refl)
    chain_one (content c) (refused b' t' r') = restless m b' c
    chain_one (content c) (passed b' t' u' r') = restless m b' c
    chain_one (content c) (ended b' t' u') = restless m b' c
    chain_one (refused b t r) (content c') = restless m b c'
    chain_one (passed b t u r) (content c') = restless m b c'
    chain_one (ended b t u) (content c') = restless m b c'
    chain_one {σ} {p} {υ = υ} (refused b t r) (refused {k = j} b' t' r') =
        let (e, f) = chain_one r (moved_to (λ x. Chain m w (offered σ p x false) p υ j) b b' r') in
        (e, ap suc f)
    chain_one {σ} {p} (refused {q = q} b t r) (passed b' t' u' r') = absurd (both_ways (takes m w σ p q) t (moved_to (λ x. takes m w σ p x ≡ true) b b' t'))
    chain_one {σ} {p} (refused {q = q} b t r) (ended b' t' u') = absurd (both_ways (takes m w σ p q) t (moved_to (λ x. takes m w σ p x ≡ true) b b' t'))
    chain_one {σ} {p} (passed {q = q} b t u r) (refused b' t' r') = absurd (both_ways (takes m w σ p q) (moved_to (λ x. takes m w σ p x ≡ false) b b' t') t)
    chain_one {σ} {p} (ended {q = q} b t u) (refused b' t' r') = absurd (both_ways (takes m w σ p q) (moved_to (λ x. takes m w σ p x ≡ false) b b' t') t)
    chain_one {σ} {p} {υ = υ} (passed {q = q} {x = x} b t u r) (passed {x = y} {k = j} b' t' u' r') =
        let v : wronged σ true q ≡ Some y = moved_to (λ z. wronged σ true z ≡ Some y) b b' u' in
        let s : Chain m w (offered σ p q true) y υ j = moved_to (λ z. Chain m w (offered σ p z true) y υ j) b b' r' in
        let e : y ≡ x = cc in
        let (f, g) = chain_one r (subst (λ z. Chain m w (offered σ p q true) z υ j) e s) in
        (f, ap suc g)
    chain_one {σ} {p} (passed {q = q} {x = x} b t u r) (ended b' t' u') = some_none (wronged σ true q) x u (moved_to (λ z. wronged σ true z ≡ None) b b' u')
    chain_one {σ} {p} (ended {q = q} b t u) (passed {x = x} b' t' u' r') = some_none (wronged σ true q) x (moved_to (λ z. wronged σ true z ≡ Some x) b b' u') u
    chain_one {σ} {p} (ended b t u) (ended b' t' u') = (ap (λ x. offered σ p x true) (best_one b b'), refl)

    pub owed_one : {o : Option ℕ} {σ τ υ : State} {i c j d : ℕ} → Owed m w o σ τ i c → Owed m w o σ υ j d → (τ ≡ υ) × (i ≡ j) × (c ≡ d)
    owed_one nobody nobody = (refl, refl, refl)
    owed_one (chain r) (chain r') = let (e, f) = chain_one r r' in (e, f, refl)

  -- the two chains of a turn, once the offer is known
  abbrev Both : State → ℕ → ℕ → Bool → State → State → (i c j d : ℕ) → Type 0
  Both σ p q taken ρ τ i c j d = Owed m (wronged σ taken p) (wronged σ taken q) (offered σ p q taken) ρ i c × Owed m None (wronged σ taken p) ρ τ j d

  both_one : (σ : State) (p q : ℕ) (taken : Bool) {ρ τ ρ' υ : State} {i c j d i' c' j' d' : ℕ} → Both σ p q taken ρ τ i c j d → Both σ p q taken ρ' υ i' c' j' d' → (τ ≡ υ) × (i + j ≡ i' + j') × (c + d ≡ c' + d')
  both_one σ p q taken {υ = υ} {j' = j'} {d' = d'} (x, y) (x', y') =
      let (e, f, g) = owed_one (wronged σ taken p) x x' in
      let (h, k, l) = owed_one None y (subst (λ z. Owed m None (wronged σ taken p) z υ j' d') (sym e) y') in
      (h, ap₂ ◌+◌ f k, ap₂ ◌+◌ g l)

  pub turn_one : {σ : State} {p : ℕ} {τ υ : State} {a b : Tally} → Turn m σ p τ a → Turn m σ p υ b → (τ ≡ υ) × (a ≡ b)
  turn_one (idle c) (idle c') = (refl, refl)
  turn_one (idle c) (moves b' t' x' y') = restless m b' c
  turn_one (moves b t x y) (idle c') = restless m b c'
  turn_one {σ} {p} {υ = υ} (moves {q = q} {taken = taken} b t x y) (moves {ρ = ρ} {q = r} {i = i} {j = j} {c = c} {d = d} {taken = t₁} b' t' x' y') =
      let e : t₁ ≡ taken = moved_to (λ z. t₁ ≡ takes m None σ p z) b b' (sym t') ∙ t in
      let z : Both σ p q t₁ ρ υ i c j d = moved_to (λ s. Both σ p s t₁ ρ υ i c j d) b b' (x', y') in
      let (f, g, h) = both_one σ p q taken (x, y) (subst (λ s. Both σ p q s ρ υ i c j d) e z) in
      (f, ap₂ (λ o n. record { moved = 1; offers = 1 + o; chains = n }) g h)

pub one_outcome : OneOutcome
one_outcome m law σ τ υ p a b = turn_one m law
