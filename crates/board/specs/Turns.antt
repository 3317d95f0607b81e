-- Turns one after another, and what comes out.
use Rattle.std.specs.Prelude.{◌≡◌, ℕ, ◌+◌, Bool, List, [], ◌∷◌, None, Decides, Option, slice_index_or}
use Rattle.ranking.specs.Market.{Market}
use Rattle.board.specs.State.{State, Standstill}
use Rattle.board.specs.Turn.{Tally, Turn}

-- what no turn counts
abbrev pub no_tally : Tally
no_tally = record { moved = 0; offers = 0; chains = 0 }

-- two tallies counted together
abbrev pub together : Tally → Tally → Tally
together a b = record { moved = a.moved + b.moved; offers = a.offers + b.offers; chains = a.chains + b.chains }

-- turns of these parties, one after another, lead from one board to another; their tallies are counted together
pub data Turns (m : Market) : State → List ℕ → State → Tally → Type 0 where
  none : {σ : State} → Turns m σ [] σ no_tally
  next : {σ ρ τ : State} {p : ℕ} {ps : List ℕ} {a b : Tally} → Turn m σ p ρ a → Turns m ρ ps τ b → Turns m σ (p ∷ ps) τ (together a b)

-- what a turn of p comes to
pub record TurnGives (m : Market) (σ : State) (p : ℕ) (held : List (Option ℕ)) (tally : Tally) (still : Bool) : Type 0 where
  -- the board after it
  pub after : State
  pub turn : Turn m σ p after tally
  -- whom the parties hold, party after party; all others hold nobody
  pub holding : (q : ℕ) → after.holding q ≡ slice_index_or held q None
  -- whether that is a standstill
  pub standstill : Decides still (Standstill m after)

-- what turns of these parties come to, likewise
pub record TurnsGive (m : Market) (σ : State) (ps : List ℕ) (held : List (Option ℕ)) (tally : Tally) (still : Bool) : Type 0 where
  pub after : State
  pub turns : Turns m σ ps after tally
  pub holding : (q : ℕ) → after.holding q ≡ slice_index_or held q None
  pub standstill : Decides still (Standstill m after)
