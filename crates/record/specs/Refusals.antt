-- Every refusal by its number and its place. All promises about refusals go through code_of.
use Rattle.std.specs.Prelude.{ℕ, Bool, cond, Some, None, Ok, Err, Option, Result}
use Rattle.record.specs.declared.refusal.Refusal.{Refusal}
use Rattle.record.specs.declared.refusal.Refusal.TheVariants.{Length, Kind, Limit, Order, Figure, Party, Rule, Pairing, Room, Turns, Filled, Unstable}

-- the number, which says why, and the place: a word's index, a party, a stream, a length,
-- or 0 where there is nothing to point at
abbrev pub code_of : Refusal → ℕ × ℕ
code_of Length = (1, 0)
code_of (Kind word) = (2, word)
code_of (Limit word) = (3, word)
code_of (Order word) = (4, word)
code_of (Figure party) = (5, party)
code_of (Party party) = (6, party)
code_of (Rule n) = (7, n)
code_of (Pairing stream) = (8, stream)
code_of (Room len) = (9, len)
code_of (Turns index) = (10, index)
code_of Filled = (11, 0)
code_of (Unstable pair) = (12, pair)

-- the code with which a call was refused, or none where it was not
abbrev pub refused_by : {X : Type 0} → Result X Refusal → Option (ℕ × ℕ)
refused_by (Ok x) = None
refused_by (Err f) = Some (code_of f)

-- the refusal with this code where the test holds, else none
abbrev pub refuse_if : Bool → ℕ × ℕ → Option (ℕ × ℕ)
refuse_if b code = cond b (Some code) None

-- the first refusal, or where there is none the second: what comes first decides
abbrev pub or_else : Option (ℕ × ℕ) → Option (ℕ × ℕ) → Option (ℕ × ℕ)
or_else None second = second
or_else (Some code) second = Some code
