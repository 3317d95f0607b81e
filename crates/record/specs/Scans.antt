-- What the reader keeps of the words so far, and what that says of them.
use Rattle.std.specs.Prelude.{◌≡◌, ℕ, true, leb, List, map, length, nat_le, nat_lt}
use Rattle.sets.specs.Sets.{has}
use Rattle.record.specs.Lists.{every, among}
use Rattle.record.specs.Faults.{kind, of_kind, high, ranked_by, turns_in, pairs_in}
use Rattle.record.specs.declared.scan.ChoiceScan.{ChoiceScan}
use Rattle.record.specs.declared.scan.PairScan.{PairScan}
use Rattle.record.specs.declared.scan.TurnScan.{TurnScan}

-- every word is of a kind below k
abbrev pub KindsBelow : ℕ → List ℕ → Type 0
KindsBelow k ws = every (λ w. nat_lt (kind w) k) ws ≡ true

-- `next` and `named` are the count and the members of the choices of `owner`
pub record OwnerSeen (scan : ChoiceScan) (before : List ℕ) : Type 0 where
  pub count : scan.next ≡ length (ranked_by before scan.owner)
  pub members : (q : ℕ) → has scan.named.0 q ≡ among q (ranked_by before scan.owner)

-- the highest owner is `owner`
pub record ChoicesSeen (scan : ChoiceScan) (before : List ℕ) : Type 0 where
  pub owners : (k : ℕ) → every (λ v. leb (high v) k) (of_kind 2 before) ≡ nat_le scan.owner k
  pub latest : OwnerSeen scan before

-- `count` is the number of turns
pub record TurnsSeen (scan : TurnScan) (before : List ℕ) : Type 0 where
  pub count : scan.count ≡ length (turns_in before)

-- the streams lie below `floor`, and no lower number would do; `given` are the lanes
pub record PairsSeen (scan : PairScan) (before : List ℕ) : Type 0 where
  pub streams : (k : ℕ) → every (λ q. nat_lt q.0 k) (pairs_in before) ≡ nat_le scan.floor k
  pub lanes : (q : ℕ) → has scan.given.0 q ≡ among q (map (λ p. p.1) (pairs_in before))
