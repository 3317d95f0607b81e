-- A set of numbers, as the bits of a number.
use Rattle.std.specs.Prelude.{ℕ, ◌/◌, ◌%◌, ◌^◌, Bool, ◌==◌}

-- whether the set has the member k: bit k is 1
unfoldable pub has : ℕ → ℕ → Bool
has set k = (set / 2 ^ k % 2) == 1
