-- The tables after an offer, place by place.
use Rattle.std.proofs.Common.{◌≡◌, ℕ, Bool, true, false, cond, ◌&&◌, ◌||◌, eqb, Some, None, Option, refl, ap, ◌∙◌, arith}
use Rattle.std.proofs.lemmas.Bool.Decides.{nat_tests}
use Rattle.ranking.specs.Stability.{is_party, holds}
use Rattle.board.specs.State.{State}
use Rattle.board.specs.Offer.{with_member, with_holding, joins, leaves, pairs_up, offered}

-- whether a holds b after p and q paired up and their old partners were left, where h says who held whom
abbrev pub held_after : (ℕ → ℕ → Bool) → ℕ → ℕ → ℕ → ℕ → Bool
held_after h p q a b = cond (eqb a p) (eqb q b) (cond (eqb a q) (eqb p b) (cond (h q a || h p a) false (h a b)))

-- whether b is in a's open set then
abbrev pub open_after : (ℕ → ℕ → Bool) → (ℕ → ℕ → Bool) → ℕ → ℕ → ℕ → ℕ → Bool
open_after h o p q a b = cond (h q a && eqb b q) false (cond (h p a && eqb b p) false (with_member o q p true a b))

-- a holding as a test, where a holding was taken away
dropped : (h : ℕ → Option ℕ) (x a b : ℕ) → is_party (with_holding h x None a) b ≡ cond (eqb x a) false (is_party (h a) b)
dropped h x a b = go (eqb a x) (eqb x a) (swap a x)
  where
    swap : (a x : ℕ) → eqb a x ≡ eqb x a
    swap a x = grind (arith, nat_tests)

    go : (e f : Bool) → e ≡ f → is_party (cond e None (h a)) b ≡ cond f false (is_party (h a) b)
    go true true s = refl
    go true false s = grind arith
    go false true s = grind arith
    go false false s = refl

-- a holding as a test, where two parties paired up
paired : (o : Option ℕ) (p q b : ℕ) (e f : Bool) → is_party (cond e (Some q) (cond f (Some p) o)) b ≡ cond e (eqb q b) (cond f (eqb p b) (is_party o b))
paired o p q b true f = refl
paired o p q b false true = refl
paired o p q b false false = refl

either_dropped : (x y r : Bool) → cond x false (cond y false r) ≡ cond (x || y) false r
either_dropped true y r = refl
either_dropped false y r = refl

pub held_taken : (σ : State) (p q a b : ℕ) → holds (offered σ p q true).holding a b ≡ held_after (holds σ.holding) p q a b
held_taken σ p q a b = go (σ.holding p) (σ.holding q)
  where
    left : (hp hq : Option ℕ) → is_party ((leaves (leaves (joins σ p q) p hp) q hq).holding a) b ≡ cond (is_party hq a || is_party hp a) false (is_party (σ.holding a) b)
    left None None = refl
    left (Some x) None = dropped σ.holding x a b
    left None (Some y) = dropped σ.holding y a b ∙ either_dropped (eqb y a) false (is_party (σ.holding a) b)
    left (Some x) (Some y) =
        dropped (with_holding σ.holding x None) y a b
        ∙ ap (λ r. cond (eqb y a) false r) (dropped σ.holding x a b)
        ∙ either_dropped (eqb y a) (eqb x a) (is_party (σ.holding a) b)

    go : (hp hq : Option ℕ) → is_party ((pairs_up (leaves (leaves (joins σ p q) p hp) q hq) p q).holding a) b ≡ cond (eqb a p) (eqb q b) (cond (eqb a q) (eqb p b) (cond (is_party hq a || is_party hp a) false (is_party (σ.holding a) b)))
    go hp hq =
        paired ((leaves (leaves (joins σ p q) p hp) q hq).holding a) p q b (eqb a p) (eqb a q)
        ∙ ap (λ r. cond (eqb a p) (eqb q b) (cond (eqb a q) (eqb p b) r)) (left hp hq)

pub open_taken : (σ : State) (p q a b : ℕ) → (offered σ p q true).opens a b ≡ open_after (holds σ.holding) σ.opens p q a b
open_taken σ p q a b = go (σ.holding p) (σ.holding q)
  where
    swap : (a x : ℕ) → eqb a x ≡ eqb x a
    swap a x = grind (arith, nat_tests)

    go : (hp hq : Option ℕ) → (leaves (leaves (joins σ p q) p hp) q hq).opens a b ≡ cond (is_party hq a && eqb b q) false (cond (is_party hp a && eqb b p) false (with_member σ.opens q p true a b))
    go None None = refl
    go (Some x) None = ap (λ e. cond (e && eqb b p) false (with_member σ.opens q p true a b)) (swap a x)
    go None (Some y) = ap (λ e. cond (e && eqb b q) false (with_member σ.opens q p true a b)) (swap a y)
    go (Some x) (Some y) =
        ap (λ e. cond (e && eqb b q) false (cond (eqb a x && eqb b p) false (with_member σ.opens q p true a b))) (swap a y)
        ∙ ap (λ e. cond (eqb y a && eqb b q) false (cond (e && eqb b p) false (with_member σ.opens q p true a b))) (swap a x)

pub bidder_taken : (σ : State) (p q a b : ℕ) → (offered σ p q true).bidder a b ≡ with_member σ.bidder q p true a b
bidder_taken σ p q a b = go (σ.holding p) (σ.holding q)
  where
    go : (hp hq : Option ℕ) → (leaves (leaves (joins σ p q) p hp) q hq).bidder a b ≡ with_member σ.bidder q p true a b
    go None None = refl
    go (Some x) None = refl
    go None (Some y) = refl
    go (Some x) (Some y) = refl
