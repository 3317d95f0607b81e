-- What a board holds, and who is content.
use Rattle.std.specs.Prelude.{◌≡◌, ℕ, ◌<◌, Bool, true, false, ◌&&◌, None, Option}
use Rattle.ranking.specs.Market.{Market, prefers}
use Rattle.board.specs.Sides.{across, party_count}
use Rattle.ranking.specs.Stability.{wants}

-- what a board holds, by party numbers
pub record State : Type 0 where
  -- whom each party holds, or nobody
  pub holding : ℕ → Option ℕ
  -- whether the second is in the open set of the first, those to whom it may still make an offer
  pub opens : ℕ → ℕ → Bool
  -- whether the second is among the bidders of the first, those who ever made it an offer
  pub bidder : ℕ → ℕ → Bool

-- a new board: nobody holds anybody, every open set is the whole other side, and there are no bidders
abbrev pub new_state : Market → State
new_state m = record { holding = λ p. None; opens = λ p q. across m p q; bidder = λ p q. false }

-- whether p would make q an offer: q is in p's open set, and p ranks it better than its holding, or at all if it holds
-- nobody
abbrev pub seeks : Market → State → ℕ → ℕ → Bool
seeks m σ p q = σ.opens p q && wants m σ.holding p q

-- p is content: there is nobody in its open set whom it ranks better than its holding, or at all if it holds nobody
abbrev pub Content : Market → State → ℕ → Type 0
Content m σ p = (q : ℕ) → seeks m σ p q ≡ false

-- a standstill: every party is content
abbrev pub Standstill : Market → State → Type 0
Standstill m σ = (p : ℕ) → p < party_count m → Content m σ p

-- the offer of p, which is not content, goes to q: p seeks q, and ranks nobody in its open set better
pub record Best (m : Market) (σ : State) (p q : ℕ) : Type 0 where
  pub sought : seeks m σ p q ≡ true
  pub first : (r : ℕ) → σ.opens p r ≡ true → prefers (m.rank p r) (m.rank p q) ≡ false
