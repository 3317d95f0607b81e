-- A chain in the making: what its offers so far leave to do.
use Rattle.std.proofs.Common.{◌≡◌, ℕ, suc, ◌+◌, ◌*◌, ◌<◌, ◌≤◌, Bool, true, false, cond, not, ltb, Some, None, Option, sym, refl, ap, ◌∙◌, subst, add-zero, zero-add, arith}
use Rattle.ranking.specs.Market.{Market, LawfulMarket}
use Rattle.board.specs.Sides.{party_count}
use Rattle.board.specs.State.{State, Content, Best}
use Rattle.board.specs.Offer.{offered, takes, wronged}
use Rattle.board.specs.Turn.{Chain, Owed, Turn}
use Rattle.board.specs.Turn.Turn.{moves}
use Rattle.board.specs.Turn.Owed.{nobody}
use Rattle.board.specs.Turn.Chain.{content, refused, passed, ended}
use Rattle.board.specs.Kept.{Kept}
use Rattle.board.specs.Calls.{answer_to}
use Rattle.board.specs.declared.procedure.Offered.{Offered}
use Rattle.board.proofs.Keeping.{Offering, offering, held_facts, ranked_across}
use Rattle.board.proofs.Rooms.{room, room_most, room_some, room_left, room_passed, on_side}
use Rattle.board.proofs.Partners.{held, wronged_held, partner_below}

-- the side that offers in a chain of p, true for streams
abbrev pub side_of : Market → ℕ → Bool
side_of m p = ltb p m.streams

-- a chain that began with first on σ₀ has made k offers, and p is current on σ
pub record Linked (m : Market) (waiting : Option ℕ) (σ₀ : State) (first : ℕ) (σ : State) (p k : ℕ) : Type 0 where
  pub party : p < party_count m
  pub on : on_side m (side_of m first) p ≡ true
  pub few : k + room m (side_of m first) σ.opens ≤ m.streams * m.lanes
  pub rest : (τ : State) (j : ℕ) → Chain m waiting σ p τ j → Chain m waiting σ₀ first τ (k + j)

on_own_side : (m : Market) (p : ℕ) → on_side m (side_of m p) p ≡ true
on_own_side m p = go (ltb p m.streams)
  where
    go : (b : Bool) → cond b b (not b) ≡ true
    go true = refl
    go false = refl

module _ (m : Market) (law : LawfulMarket m) (waiting : Option ℕ) (σ₀ : State) (first : ℕ) where
  pub begins : first < party_count m → Linked m waiting σ₀ first σ₀ first 0
  begins h = record {
    party = h;
    on = on_own_side m first;
    few = omega (arith, room_most m (side_of m first) σ₀.opens);
    rest = λ τ j c. subst (Chain m waiting σ₀ first τ) (sym (zero-add j)) c;
  }

  module _ (σ : State) (kept : Kept m σ) (p k : ℕ) (v : Linked m waiting σ₀ first σ p k) where
    -- p is content
    pub stops : Content m σ p → Chain m waiting σ₀ first σ k × (k ≤ m.streams * m.lanes)
    stops c = (subst (Chain m waiting σ₀ first σ) (add-zero k) (v.rest σ 0 (content c)), omega (arith, v.few))

    module _ (q : ℕ) (best : Best m σ p q) (τ : State) (is : τ ≡ offered σ p q (takes m waiting σ p q)) where
      offer : Offering m σ p q
      offer = offering m law σ kept p q best.sought

      one_more : (x : ℕ) → ((υ : State) (j : ℕ) → Chain m waiting τ x υ j → Chain m waiting σ p υ (suc j)) → (υ : State) (j : ℕ) → Chain m waiting τ x υ j → Chain m waiting σ₀ first υ (k + 1 + j)
      one_more x f υ j c = subst (Chain m waiting σ₀ first υ) (let e : k + suc j ≡ k + 1 + j = omega arith in e) (v.rest υ (suc j) (f υ j c))

      -- p's offer is not taken
      pub goes_on_lem : takes m waiting σ p q ≡ false → Linked m waiting σ₀ first τ p (k + 1) × (room m (side_of m first) τ.opens < room m (side_of m first) σ.opens)
      goes_on_lem t =
          let left : τ ≡ offered σ p q false = is ∙ ap (offered σ p q) t in
          let falls : room m (side_of m first) τ.opens + 1 ≤ room m (side_of m first) σ.opens = subst (λ (υ : State). room m (side_of m first) υ.opens + 1 ≤ room m (side_of m first) σ.opens) (sym left) (room_left m (side_of m first) σ p q offer.sides v.on offer.opened) in (
            record {
              party = v.party;
              on = v.on;
              few = omega (arith, v.few);
              rest = one_more p (λ υ j c. refused best t (subst (λ υ'. Chain m waiting υ' p υ j) left c));
            },
            omega arith,
          )

      -- it is taken, and x is wronged
      pub passes : takes m waiting σ p q ≡ true → (x : ℕ) → wronged σ true q ≡ Some x → Linked m waiting σ₀ first τ x (k + 1) × (room m (side_of m first) τ.opens < room m (side_of m first) σ.opens)
      passes t x w =
          let paired : τ ≡ offered σ p q true = is ∙ ap (offered σ p q) t in
          let holds-x : σ.holding q ≡ Some x = wronged_held m law σ kept true q x w in
          let facts = held_facts m σ kept q x (held m law σ kept q x holds-x) in
          let back = held_facts m σ kept x q facts.back in
          let (falls, on) = room_passed m (side_of m first) σ p q offer.sides v.on x (held m law σ kept q x holds-x) (ranked_across m law x q back.ranked) back.opened in
          let falls' : room m (side_of m first) τ.opens + 1 ≤ room m (side_of m first) σ.opens = subst (λ (υ : State). room m (side_of m first) υ.opens + 1 ≤ room m (side_of m first) σ.opens) (sym paired) falls in (
            record {
              party = partner_below m law σ kept q x holds-x;
              on = on;
              few = omega (arith, v.few);
              rest = one_more x (λ υ j c. passed best t w (subst (λ υ'. Chain m waiting υ' x υ j) paired c));
            },
            omega arith,
          )

      -- it is taken, and nobody is wronged
      pub ends : takes m waiting σ p q ≡ true → wronged σ true q ≡ None → Chain m waiting σ₀ first τ (k + 1) × (k + 1 ≤ m.streams * m.lanes)
      ends t w =
          let paired : τ ≡ offered σ p q true = is ∙ ap (offered σ p q) t in
          let some = room_some m (side_of m first) σ.opens p q offer.sides v.on offer.opened in
          (subst (λ υ. Chain m waiting σ₀ first υ (k + 1)) (sym paired) (v.rest (offered σ p q true) 1 (ended best t w)), omega (arith, v.few))

-- what is known of an offer that was taken, or was not
pub when_taken : (m : Market) (waiting : Option ℕ) (σ : State) (p q : ℕ) (byP byQ : Option ℕ) → Offered.Taken byP byQ ≡ answer_to m waiting σ p q → (takes m waiting σ p q ≡ true) × (byP ≡ wronged σ true p) × (byQ ≡ wronged σ true q)
when_taken m waiting σ p q byP byQ = go (takes m waiting σ p q)
  where
    go : (t : Bool) → Offered.Taken byP byQ ≡ cond t (Offered.Taken (wronged σ true p) (wronged σ true q)) Offered.NotTaken → (t ≡ true) × (byP ≡ wronged σ true p) × (byQ ≡ wronged σ true q)
    go true e = (refl, cc, cc)
    go false e = (cc, cc, cc)

pub when_not_taken : (m : Market) (waiting : Option ℕ) (σ : State) (p q : ℕ) → Offered.NotTaken ≡ answer_to m waiting σ p q → takes m waiting σ p q ≡ false
when_not_taken m waiting σ p q = go (takes m waiting σ p q)
  where
    go : (t : Bool) → Offered.NotTaken ≡ cond t (Offered.Taken (wronged σ true p) (wronged σ true q)) Offered.NotTaken → t ≡ false
    go true e = cc
    go false e = refl

-- a turn whose offer is taken, by what its chains came to
pub turn_moves : (m : Market) (σ τ ρ υ : State) (p q i c j d : ℕ) (byP byQ : Option ℕ) → Best m σ p q → (takes m None σ p q ≡ true) × (byP ≡ wronged σ true p) × (byQ ≡ wronged σ true q) → τ ≡ offered σ p q (takes m None σ p q)
    → Owed m byP byQ τ ρ i c → Owed m None byP ρ υ j d → Turn m σ p υ (record { moved = 1; offers = 1 + (i + j); chains = c + d })
turn_moves m σ τ ρ υ p q i c j d byP byQ best (rule, e, f) is first second =
    moves {taken = true} best rule
    (subst (λ o. Owed m o (wronged σ true q) (offered σ p q true) ρ i c) e (subst (λ o. Owed m byP o (offered σ p q true) ρ i c) f (subst (λ s. Owed m byP byQ s ρ i c) (is ∙ ap (offered σ p q) rule) first)))
    (subst (λ o. Owed m None o ρ υ j d) e second)

-- a turn whose offer is not taken
pub turn_left : (m : Market) (σ τ : State) (p q : ℕ) → Best m σ p q → takes m None σ p q ≡ false → τ ≡ offered σ p q (takes m None σ p q) → Turn m σ p τ (record { moved = 1; offers = 1; chains = 0 })
turn_left m σ τ p q best rule is = rw (is, rule) (moves {taken = false} best rule nobody nobody)
