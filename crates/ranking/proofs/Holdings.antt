-- Whom each party holds under a lawful pairing: a stream and a lane, each the other.
use Rattle.std.proofs.Common.{◌≡◌, ℕ, ◌+◌, ◌-◌, ◌<◌, true, ◌⊎◌, List, get_or, is_some, Some, None, Option, sym, refl, ap, ◌∙◌, inl, inr, ⊎_elim, arith}
use Rattle.std.proofs.lemmas.Bool.{cases_lt}
use Rattle.std.proofs.lemmas.Bool.Decides.{nat_tests}
use Rattle.record.specs.Lists.{place_in}
use Rattle.record.proofs.Lists.{among_place, among_from, place_at_lem}
use Rattle.ranking.specs.Market.{Market}
use Rattle.ranking.specs.Pairings.{LawfulPairing, lane_party, holding_of}

-- stream i has lane j
abbrev pub Has : Market → List ℕ → ℕ → ℕ → Type 0
Has m bytes i j = (i < m.streams) × (j < m.lanes) × (get_or bytes i 0 ≡ j)

pub holding_stream : (m : Market) (bytes : List ℕ) (p : ℕ) → p < m.streams → holding_of m bytes p ≡ lane_party m (get_or bytes p 0)
holding_stream m bytes p h = grind (arith, nat_tests)

pub holding_lane : (m : Market) (bytes : List ℕ) (j : ℕ) → j < m.lanes → holding_of m bytes (m.streams + j) ≡ place_in j bytes
holding_lane m bytes j h = let e : m.streams + j - m.streams ≡ j = omega arith in grind (arith, nat_tests)

-- who has each other hold each other
pub has_stream : (m : Market) (bytes : List ℕ) (i j : ℕ) → Has m bytes i j → holding_of m bytes i ≡ Some (m.streams + j)
has_stream m bytes i j t = grind (arith, nat_tests)

pub has_lane : (m : Market) (bytes : List ℕ) (i j : ℕ) → LawfulPairing m bytes → Has m bytes i j → holding_of m bytes (m.streams + j) ≡ Some i
has_lane m bytes i j p t = holding_lane m bytes j t.1 ∙ go (place_in j bytes) refl
  where
    there : is_some (place_in j bytes) ≡ true
    there = sym (among_place j bytes) ∙ among_from j bytes i (omega (arith, p.count)) t.2

    go : (o : Option ℕ) → place_in j bytes ≡ o → o ≡ Some i
    go None e = let x : is_some {T = ℕ} None ≡ true = rw e at there in cc
    go (Some k) e =
        let at = place_at_lem j bytes k e in
        ap Some (p.once k i (omega (arith, p.count, at.0)) t.0 (omega (arith, at.1)) (at.1 ∙ sym t.2))

-- whoever holds somebody: one is a stream, and the other the lane that it has
pub holding_tells : (m : Market) (bytes : List ℕ) (p q : ℕ) → LawfulPairing m bytes → holding_of m bytes p ≡ Some q → ((j : ℕ) × (q ≡ m.streams + j) × Has m bytes p j) ⊎ ((j : ℕ) × (p ≡ m.streams + j) × Has m bytes q j)
holding_tells m bytes p q l e = ⊎_elim
    (λ b. let named : (get_or bytes p 0 < m.lanes) × (q ≡ m.streams + get_or bytes p 0) = grind (arith, nat_tests) in inl (get_or bytes p 0, named.1, (b, named.0, refl)))
    (λ b.
    let placed : place_in (p - m.streams) bytes ≡ Some q = grind (arith, nat_tests) in
    let lane : p - m.streams < m.lanes = grind (arith, nat_tests) in
    let at = place_at_lem (p - m.streams) bytes q placed in
    inr (p - m.streams, omega arith, (omega (arith, at.0, l.count), lane, at.1)))
    (cases_lt p m.streams)

-- a holding is mutual
pub holding_mutual : (m : Market) (bytes : List ℕ) (p q : ℕ) → LawfulPairing m bytes → holding_of m bytes p ≡ Some q → holding_of m bytes q ≡ Some p
holding_mutual m bytes p q l e = ⊎_elim
    (λ t. rw t.1 (has_lane m bytes p t.0 l t.2))
    (λ t. rw t.1 (has_stream m bytes q t.0 t.2))
    (holding_tells m bytes p q l e)
