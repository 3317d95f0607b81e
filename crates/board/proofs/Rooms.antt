-- What is left of the open sets of one side, which bounds the offers of a chain.
use Rattle.std.proofs.Common.{◌≡◌, ℕ, ◌+◌, ◌-◌, ◌*◌, ◌<◌, ◌≤◌, Bool, true, false, cond, not, ltb, sym, refl, ap, ◌∙◌, arith}
use Rattle.std.proofs.lemmas.Bool.{both_ways}
use Rattle.std.proofs.lemmas.Bool.Decides.{nat_tests}
use Rattle.ranking.specs.Market.{Market}
use Rattle.board.specs.Sides.{across}
use Rattle.ranking.specs.Stability.{holds}
use Rattle.board.specs.State.{State}
use Rattle.board.specs.Offer.{with_member, offered}
use Rattle.board.proofs.Offers.{open_after, open_taken}
use Rattle.board.proofs.Sums.{sum, bit, bit_most, sum_most, sum_less, sum_falls}

-- one of the two parties is on the side that offers, streams where the test is true; whom it may make an offer to is the other
abbrev pub offerer : (s : ℕ) → Bool → ℕ → ℕ → ℕ
offerer s streams i j = cond streams i (s + j)

abbrev pub receiver : (s : ℕ) → Bool → ℕ → ℕ → ℕ
receiver s streams i j = cond streams (s + j) i

-- the members of the open sets of the side that offers, counted
unfoldable pub room : Market → Bool → (ℕ → ℕ → Bool) → ℕ
room m side opens = sum m.streams (λ i. sum m.lanes (λ j. bit (opens (offerer m.streams side i j) (receiver m.streams side i j))))

-- they are at most s × g
pub room_most : (m : Market) (side : Bool) (opens : ℕ → ℕ → Bool) → room m side opens ≤ m.streams * m.lanes
unfolding room
room_most m side opens = sum_most m.streams m.lanes _ (λ i _. let b = sum_most m.lanes 1 _ (λ j _. bit_most (opens (offerer m.streams side i j) (receiver m.streams side i j))) in omega arith)

bit_less : (x y : Bool) → (x ≡ true → y ≡ true) → bit x ≤ bit y
bit_less x y h = grind arith

bit_falls : (x y : Bool) → x ≡ false → y ≡ true → bit x + 1 ≤ bit y
bit_falls x y e f = grind arith

-- whether p is on the side
abbrev pub on_side : Market → Bool → ℕ → Bool
on_side m side p = cond side (ltb p m.streams) (not (ltb p m.streams))

place : (m : Market) (side : Bool) (p q : ℕ) → across m p q ≡ true → on_side m side p ≡ true → (i : ℕ) × (j : ℕ) × (i < m.streams) × (j < m.lanes) × (offerer m.streams side i j ≡ p) × (receiver m.streams side i j ≡ q)
place m true p q x e = let (a, b, c, d) = parts p q x e in (p, q - m.streams, a, b, refl, c)
  where
    parts : (p q : ℕ) → across m p q ≡ true → ltb p m.streams ≡ true → (p < m.streams) × (q - m.streams < m.lanes) × (m.streams + (q - m.streams) ≡ q) × (m.streams ≤ q)
    parts p q x e = let s : (p < m.streams) × (m.streams ≤ q) × (q < m.streams + m.lanes) = inside p q x e in (omega arith, omega arith, omega arith, omega arith)
      where
        inside : (p q : ℕ) → across m p q ≡ true → ltb p m.streams ≡ true → (p < m.streams) × (m.streams ≤ q) × (q < m.streams + m.lanes)
        inside p q x e = grind (arith, nat_tests)
place m false p q x e = let (a, b, c) = parts p q x e in (q, p - m.streams, a, b, c, refl)
  where
    parts : (p q : ℕ) → across m p q ≡ true → not (ltb p m.streams) ≡ true → (q < m.streams) × (p - m.streams < m.lanes) × (m.streams + (p - m.streams) ≡ p)
    parts p q x e = let s : (q < m.streams) × (m.streams ≤ p) × (p < m.streams + m.lanes) = inside p q x e in (omega arith, omega arith, omega arith)
      where
        inside : (p q : ℕ) → across m p q ≡ true → not (ltb p m.streams) ≡ true → (q < m.streams) × (m.streams ≤ p) × (p < m.streams + m.lanes)
        inside p q x e = grind (arith, nat_tests)

offerer_side : (m : Market) (side : Bool) (i j : ℕ) → i < m.streams → on_side m side (offerer m.streams side i j) ≡ true
offerer_side m true i j h = grind (arith, nat_tests)
offerer_side m false i j h = grind (arith, nat_tests)

-- where nobody of the side gains a member and x, of that side, loses y, less is left
pub room_falls : (m : Market) (side : Bool) (before after : ℕ → ℕ → Bool) (x y : ℕ) → across m x y ≡ true → on_side m side x ≡ true
    → ((a b : ℕ) → on_side m side a ≡ true → after a b ≡ true → before a b ≡ true) → after x y ≡ false → before x y ≡ true → room m side after + 1 ≤ room m side before
unfolding room
room_falls m side before after x y c on less gone was =
    let (i, j, hi, hj, e, f) = place m side x y c on in
    let gone' : after (offerer m.streams side i j) (receiver m.streams side i j) ≡ false = ap (λ a. after a (receiver m.streams side i j)) e ∙ ap (after x) f ∙ gone in
    let was' : before (offerer m.streams side i j) (receiver m.streams side i j) ≡ true = ap (λ a. before a (receiver m.streams side i j)) e ∙ ap (before x) f ∙ was in
    sum_falls m.streams (row after) (row before) i hi (λ k h. sum_less m.lanes (term after k) (term before k) (λ l _. one k l h))
    (sum_falls m.lanes (term after i) (term before i) j hj (λ l _. one i l hi) (bit_falls _ _ gone' was'))
  where
    term : (ℕ → ℕ → Bool) → ℕ → ℕ → ℕ
    term o k l = bit (o (offerer m.streams side k l) (receiver m.streams side k l))

    row : (ℕ → ℕ → Bool) → ℕ → ℕ
    row o k = sum m.lanes (λ l. bit (o (offerer m.streams side k l) (receiver m.streams side k l)))

    one : (k l : ℕ) → k < m.streams → bit (after (offerer m.streams side k l) (receiver m.streams side k l)) ≤ bit (before (offerer m.streams side k l) (receiver m.streams side k l))
    one k l h = bit_less _ _ (less (offerer m.streams side k l) (receiver m.streams side k l) (offerer_side m side k l h))

-- where p, of the side, has q in its open set, something is left
pub room_some : (m : Market) (side : Bool) (opens : ℕ → ℕ → Bool) (p q : ℕ) → across m p q ≡ true → on_side m side p ≡ true → opens p q ≡ true → 1 ≤ room m side opens
room_some m side opens p q c on o =
    let h = room_falls m side opens (λ a b. false) p q c on (λ a b _ e. absurd (both_ways false refl e)) refl o in omega arith

-- whom p faces is not on p's side
pub faces : (m : Market) (side : Bool) (p q : ℕ) → across m p q ≡ true → on_side m side p ≡ true → on_side m side q ≡ false
faces m true p q x e = grind (arith, nat_tests)
faces m false p q x e = grind (arith, nat_tests)

-- whoever faces somebody who is not on the side is on it
pub faces_back : (m : Market) (side : Bool) (p q : ℕ) → across m p q ≡ true → on_side m side q ≡ false → on_side m side p ≡ true
faces_back m true p q x e = grind (arith, nat_tests)
faces_back m false p q x e = grind (arith, nat_tests)

-- by an offer of p to q only q gains a member
gains_left : (o : ℕ → ℕ → Bool) (p q a b : ℕ) → (a ≡ q → ⊥) → with_member (with_member o q p true) p q false a b ≡ true → o a b ≡ true
gains_left o p q a b n e = grind (arith, nat_tests)

gains_taken : (h o : ℕ → ℕ → Bool) (p q a b : ℕ) → (a ≡ q → ⊥) → open_after h o p q a b ≡ true → o a b ≡ true
gains_taken h o p q a b n e = grind (arith, nat_tests)

lost_left : (o : ℕ → ℕ → Bool) (p q : ℕ) → with_member (with_member o q p true) p q false p q ≡ false
lost_left o p q = grind (arith, nat_tests)

lost_taken : (h o : ℕ → ℕ → Bool) (p q x : ℕ) → h q x ≡ true → open_after h o p q x q ≡ false
lost_taken h o p q x e = grind (arith, nat_tests)

module _ (m : Market) (side : Bool) (σ : State) (p q : ℕ) (c : across m p q ≡ true) (on : on_side m side p ≡ true) where
  not_q : (a : ℕ) → on_side m side a ≡ true → a ≡ q → ⊥
  not_q a e s = both_ways (on_side m side q) (faces m side p q c on) (ap (on_side m side) (sym s) ∙ e)

  -- an offer that is not taken
  pub room_left : σ.opens p q ≡ true → room m side (offered σ p q false).opens + 1 ≤ room m side σ.opens
  room_left o = room_falls m side σ.opens (offered σ p q false).opens p q c on (λ a b e. gains_left σ.opens p q a b (not_q a e)) (lost_left σ.opens p q) o

  -- an offer that is taken from q's holding x
  pub room_passed : (x : ℕ) → holds σ.holding q x ≡ true → across m x q ≡ true → σ.opens x q ≡ true → (room m side (offered σ p q true).opens + 1 ≤ room m side σ.opens) × (on_side m side x ≡ true)
  room_passed x h d o =
      let onx : on_side m side x ≡ true = faces_back m side x q d (faces m side p q c on) in (
        room_falls m side σ.opens (offered σ p q true).opens x q d onx
            (λ a b e f. gains_taken (holds σ.holding) σ.opens p q a b (not_q a e) (sym (open_taken σ p q a b) ∙ f))
            (open_taken σ p q x q ∙ lost_taken (holds σ.holding) σ.opens p q x h) o,
        onx,
      )
