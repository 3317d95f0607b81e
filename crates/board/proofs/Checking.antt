-- What every board keeps, checked party by party.
use Rattle.std.proofs.Common.{◌≡◌, ℕ, ◌<◌, ◌≤◌, Bool, true, false, not, ◌&&◌, ◌||◌, Some, refl, ap, ◌∙◌, ⊎_elim, arith}
use Rattle.std.proofs.lemmas.List.{get_or_past}
use Rattle.std.proofs.lemmas.Bool.{and_parts, cases_lt, eq-eqb}
use Rattle.std.proofs.lemmas.Bool.Decides.{nat_tests}
use Rattle.sets.specs.Sets.{has}
use Rattle.sets.proofs.Bits.{has_none}
use Rattle.ranking.specs.Market.{Market, LawfulMarket}
use Rattle.board.specs.Sides.{across, party_count}
use Rattle.ranking.specs.Stability.{is_party, holds}
use Rattle.board.specs.State.{State}
use Rattle.board.specs.Kept.{held_right, open_right, sides_right, kept_at, Kept}
use Rattle.board.specs.Meaning.{no_row, row_of, state_of}
use Rattle.board.specs.declared.rows.Row.{Row}
use Rattle.board.specs.declared.rows.Rows.{Rows}

module _ (m : Market) (σ : State) (a : ℕ) where
  pub held_part : ((b : ℕ) → kept_at m σ a b ≡ true) → (b : ℕ) → held_right m σ a b ≡ true
  held_part f b = (and_parts (held_right m σ a b) (open_right m σ a b && sides_right m σ a b) (f b)).0

  pub open_part : ((b : ℕ) → kept_at m σ a b ≡ true) → (b : ℕ) → open_right m σ a b ≡ true
  open_part f b = (and_parts (open_right m σ a b) (sides_right m σ a b) (and_parts (held_right m σ a b) (open_right m σ a b && sides_right m σ a b) (f b)).1).0

-- a number that has no row holds nobody and has no sets
no_row_lem : (h o bid c : Bool) (x y z : Bool) → h ≡ false → o ≡ false → bid ≡ false → c ≡ false → ((not h || x) && ((not c || y) && (not (o || bid) || z))) ≡ true
no_row_lem h o bid c x y z e f g k = grind arith

past_across : (m : Market) (a b : ℕ) → m.streams ≤ 16 → m.lanes ≤ 16 → 32 ≤ a → across m a b ≡ false
past_across m a b s g h = grind (arith, nat_tests)

pub rows_kept : (m : Market) → LawfulMarket m → (rows : Rows) → ((a : ℕ) → a < 32 → (b : ℕ) → kept_at m (state_of rows) a b ≡ true) → Kept m (state_of rows)
rows_kept m law rows f a b = ⊎_elim (λ l. f a l b) past (cases_lt a 32)
  where
    past : 32 ≤ a → kept_at m (state_of rows) a b ≡ true
    past h =
        let none : row_of rows a ≡ no_row = get_or_past rows.rows a no_row (omega (arith, rows.one_each)) in
        no_row_lem (holds (state_of rows).holding a b) ((state_of rows).opens a b) ((state_of rows).bidder a b) (across m a b) _ _ _
        (ap (λ (r : Row). is_party r.holding b) none)
        (ap (λ (r : Row). has r.open_set.0 b) none ∙ has_none b)
        (ap (λ (r : Row). has r.bidders.0 b) none ∙ has_none b)
        (past_across m a b law.sized.1 law.sized.3 h)

-- whoever holds a number past 31 is not held back, which is not right
pub held_past : (m : Market) (rows : Rows) (a b : ℕ) → 32 ≤ b → (state_of rows).holding a ≡ Some b → held_right m (state_of rows) a b ≡ true → ⊥
held_past m rows a b h e =
    let none : row_of rows b ≡ no_row = get_or_past rows.rows b no_row (omega (arith, rows.one_each)) in
    one_way (holds (state_of rows).holding a b) (holds (state_of rows).holding b a) _ (ap (λ o. is_party o b) e ∙ eq-eqb b b refl) (ap (λ (r : Row). is_party r.holding a) none)
  where
    one_way : (x y z : Bool) → x ≡ true → y ≡ false → (not x || (y && z)) ≡ true → ⊥
    one_way x y z e f g = grind arith

-- the pair of anybody and a number that is no party's is right
pub no_party : (m : Market) (σ : State) (a b : ℕ) → party_count m ≤ b → open_right m σ a b ≡ true
no_party m σ a b h = beside (across m a b) _ (past m a b h)
  where
    past : (m : Market) (a b : ℕ) → party_count m ≤ b → across m a b ≡ false
    past m a b h = grind (arith, nat_tests)

    beside : (c x : Bool) → c ≡ false → (not c || x) ≡ true
    beside c x e = grind arith
