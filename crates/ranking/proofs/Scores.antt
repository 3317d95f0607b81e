-- Figures read one after the other.
use Rattle.std.proofs.Common.{◌≡◌, ℕ, ◌+◌, ◌<◌, true, false, not, List, map, length, get_or, set, replicate, Some, None, sym, ap, ◌∙◌, arith}
use Rattle.std.proofs.lemmas.List.{get_or-set_same, get_or-set_other, get_or-replicate, get_or_past, length-replicate, get_or-map}
use Rattle.record.specs.Refusals.{refuse_if}
use Rattle.record.specs.Lists.{earliest}
use Rattle.record.proofs.Lists.{earliest_more, earliest_found}
use Rattle.ranking.specs.Figures.{unfigured, figured_at, small, Small, party_fault, side_fault}
use Rattle.ranking.specs.declared.figures.PartyFigures.{PartyFigures}

-- a table of one party's figures, again and again
pub small_same : (n : ℕ) (v : PartyFigures) → small v ≡ true → Small (replicate n v)
small_same n v h k = let inside = get_or-replicate n k v unfigured in let past = get_or_past (replicate n v) k unfigured in let long = length-replicate n v in grind arith

pub small_set : (xs : List PartyFigures) (k : ℕ) (v : PartyFigures) → k < length xs → small v ≡ true → Small xs → Small (set xs k v)
small_set xs k v h l s i = let same = get_or-set_same xs k v unfigured h in let other = get_or-set_other xs k i v unfigured in let kept = s i in grind arith

-- one more party's figures in the table
pub held_more : (xs table : List PartyFigures) (k : ℕ) (v : PartyFigures) → k < length table → v ≡ figured_at xs k → ((i : ℕ) → i < k → figured_at table i ≡ figured_at xs i) → (i : ℕ) → i < k + 1 → figured_at (set table k v) i ≡ figured_at xs i
held_more xs table k v h e known i l = let same = get_or-set_same table k v unfigured h in let other = get_or-set_other table k i v unfigured in let kept = known i in grind arith

-- the figures that a record of the list gives
pub record_read : {X : Type 0} (f : X → PartyFigures) (xs : List X) (k : ℕ) (x : X) → k < length xs → x ≡ get_or xs k x → f x ≡ figured_at (map f xs) k
record_read f xs k x h e = ap f e ∙ sym (get_or-map f xs k x unfigured h)

-- figures that are small are not refused
pub party_read : (first : ℕ) (xs : List PartyFigures) (k : ℕ) → small (figured_at xs k) ≡ true → earliest (party_fault first xs) k ≡ None → earliest (party_fault first xs) (k + 1) ≡ None
party_read first xs k h e = earliest_more (party_fault first xs) k e ∙ ap (λ b. refuse_if (not b) (5, first + k)) h

-- figures of which one is too large are refused
pub party_refused : (first : ℕ) (xs : List PartyFigures) (k : ℕ) → k < length xs → small (figured_at xs k) ≡ false → earliest (party_fault first xs) k ≡ None → side_fault first xs ≡ Some (5, first + k)
party_refused first xs k h l e = earliest_found (party_fault first xs) k (length xs) (5, first + k) h e (ap (λ b. refuse_if (not b) (5, first + k)) l)
