-- Chains and turns, as relations between boards. They count offers and chains.
use Rattle.std.specs.Prelude.{◌≡◌, ℕ, suc, ◌+◌, Bool, true, false, Some, None, Option}
use Rattle.ranking.specs.Market.{Market}
use Rattle.board.specs.State.{State, Content, Best}
use Rattle.board.specs.Offer.{offered, takes, wronged}

-- the chain of p leads from one board to another, with this many offers, while somebody is waiting or nobody
pub data Chain (m : Market) (waiting : Option ℕ) : State → ℕ → State → ℕ → Type 0 where
  -- p is content: the chain ends
  content : {σ : State} {p : ℕ} → Content m σ p → Chain m waiting σ p σ 0
  -- p's offer is not taken: p goes on
  refused : {σ τ : State} {p q k : ℕ} → Best m σ p q → takes m waiting σ p q ≡ false → Chain m waiting (offered σ p q false) p τ k → Chain m waiting σ p τ (suc k)
  -- p's offer is taken, and x is wronged: x goes on
  passed : {σ τ : State} {p q x k : ℕ} → Best m σ p q → takes m waiting σ p q ≡ true → wronged σ true q ≡ Some x → Chain m waiting (offered σ p q true) x τ k → Chain m waiting σ p τ (suc k)
  -- p's offer is taken, and nobody is wronged: the chain ends
  ended : {σ : State} {p q : ℕ} → Best m σ p q → takes m waiting σ p q ≡ true → wronged σ true q ≡ None → Chain m waiting σ p (offered σ p q true) 1

-- the chain that a wronged party is owed, if there is one: its offers, and how many chains that is
pub data Owed (m : Market) (waiting : Option ℕ) : Option ℕ → State → State → (offers chains : ℕ) → Type 0 where
  nobody : {σ : State} → Owed m waiting None σ σ 0 0
  chain : {σ τ : State} {x k : ℕ} → Chain m waiting σ x τ k → Owed m waiting (Some x) σ τ k 1

-- what a turn counts: whether it moved, 1 or 0, its offers and its chains
pub record Tally : Type 0 where
  pub moved : ℕ
  pub offers : ℕ
  pub chains : ℕ

-- the turn of p leads from one board to another
pub data Turn (m : Market) : State → ℕ → State → Tally → Type 0 where
  -- p is content: the turn is idle
  idle : {σ : State} {p : ℕ} → Content m σ p → Turn m σ p σ (record { moved = 0; offers = 0; chains = 0 })
  -- p makes an offer to q. Then comes the chain of the party that q left, if that is wronged, while a wronged party that p
  -- left is waiting; and then the chain of that one
  moves : {σ ρ τ : State} {p q i j c d : ℕ} {taken : Bool} → Best m σ p q → takes m None σ p q ≡ taken
      → Owed m (wronged σ taken p) (wronged σ taken q) (offered σ p q taken) ρ i c
      → Owed m None (wronged σ taken p) ρ τ j d
      → Turn m σ p τ (record { moved = 1; offers = 1 + (i + j); chains = c + d })
