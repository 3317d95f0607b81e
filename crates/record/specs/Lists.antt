-- Words on lists of numbers that the definitions of every crate share.
use Rattle.std.specs.Prelude.{◌≡◌, ℕ, zero, suc, ◌+◌, Bool, true, false, cond, ◌&&◌, ◌||◌, List, [], ◌∷◌, Some, None, Option, ◌==◌}
use Rattle.record.specs.Refusals.{or_else}

-- whether every member passes the test
abbrev pub every : {X : Type 0} → (X → Bool) → List X → Bool
every test [] = true
every test (x ∷ xs) = test x && every test xs

-- whether x is a member
abbrev pub among : ℕ → List ℕ → Bool
among x [] = false
among x (y ∷ ys) = x == y || among x ys

-- no member comes twice
abbrev pub Distinct : List ℕ → Type 0
Distinct [] = Unit {0}
Distinct (x ∷ xs) = (among x xs ≡ false) × Distinct xs

-- one more, or none
abbrev pub next : Option ℕ → Option ℕ
next None = None
next (Some k) = Some (k + 1)

-- the place of the first member that is x, counted from 0, or none
abbrev pub place_in : ℕ → List ℕ → Option ℕ
place_in x [] = None
place_in x (y ∷ ys) = cond (x == y) (Some 0) (next (place_in x ys))

-- of the refusals of the members below n, the one of the lowest member that has one
abbrev pub earliest : (ℕ → Option (ℕ × ℕ)) → ℕ → Option (ℕ × ℕ)
earliest fault zero = None
earliest fault (suc n) = or_else (earliest fault n) (fault n)
