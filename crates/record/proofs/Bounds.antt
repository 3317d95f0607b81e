-- The first word and the last.
use Rattle.std.proofs.Common.{◌≡◌, ℕ, ◌+◌, ◌/◌, ◌%◌, ◌<◌, ◌≤◌, Bool, true, false, not, ◌&&◌, eqb, ltb, leb, List, [], ◌∷◌, length, get_or, take, Some, None, Option, sym, refl, ap, ◌∙◌, ⊎_elim, arith}
use Rattle.std.proofs.lemmas.List.{take_more, length-take-le}
use Rattle.std.proofs.lemmas.Bool.{and_parts, and_from, eq-eqb, ne_eqb, lt-ltb, leb-true, cases_Bool}
use Rattle.record.specs.Refusals.{refuse_if, or_else}
use Rattle.record.specs.Lists.{every, earliest}
use Rattle.record.specs.Faults.{kind, middle, low, number, allowed, fault_at, by_kind, head_within, choice_within, turn_within, pair_within, choice_in_order, turn_in_order, pair_in_order, end_in_order}
use Rattle.record.specs.Reading.{ReadTo}
use Rattle.record.proofs.Lists.{earliest_more, earliest_found}
use Rattle.record.proofs.Passing.{allowed_middle}

or_none : (o : Option (ℕ × ℕ)) → or_else o None ≡ o
or_none None = refl
or_none (Some c) = refl

-- what is wrong with a word of kind j, where it is allowed or not
at_kind : (ws : List ℕ) (i : ℕ) (b : Bool) (j : ℕ) → Option (ℕ × ℕ)
at_kind ws i b j =
    let w = get_or ws i 0 in
    let s = middle (get_or ws 0 0) in
    let g = low (get_or ws 0 0) in
    or_else (refuse_if (not b) (2, i))
    (or_else (refuse_if (not (by_kind j (head_within w) (choice_within s g w) (turn_within s g w) (pair_within s g w) true)) (3, i))
    (refuse_if (not (by_kind j true (choice_in_order (take i ws) w) (turn_in_order (take i ws)) (pair_in_order (take i ws) w) (end_in_order (take i ws) w))) (4, i)))

fault_of : (ws : List ℕ) (i : ℕ) (b : Bool) (j : ℕ) → allowed (take i ws) (get_or ws i 0) (eqb (i + 1) (length ws)) ≡ b → kind (get_or ws i 0) ≡ j → fault_at ws i ≡ at_kind ws i b j
unfolding at_kind
fault_of ws i b j a e = ap (λ c. at_kind ws i c (kind (get_or ws i 0))) a ∙ ap (at_kind ws i b) e

-- a word that is not allowed is refused for its kind
pub fault_kind : (ws : List ℕ) (i : ℕ) → allowed (take i ws) (get_or ws i 0) (eqb (i + 1) (length ws)) ≡ false → fault_at ws i ≡ Some (2, i)
unfolding at_kind
fault_kind ws i a = fault_of ws i false (kind (get_or ws i 0)) a refl

pub head_fault : (ws : List ℕ) → kind (get_or ws 0 0) ≡ 1 → fault_at ws 0 ≡ refuse_if (not (head_within (get_or ws 0 0))) (3, 0)
unfolding at_kind
head_fault ws e = fault_of ws 0 true 1 (eq-eqb (kind (get_or ws 0 0)) 1 e) e ∙ or_none (refuse_if (not (head_within (get_or ws 0 0))) (3, 0))

front_length : (ws : List ℕ) (i : ℕ) → i < length ws → length (take i ws) ≡ i
front_length ws i h = length-take-le i ws (omega arith)

pub allowed_last : (before : List ℕ) (w : ℕ) → 1 ≤ length before → allowed before w true ≡ eqb (kind w) 5
allowed_last [] w h = absurd (omega arith)
allowed_last (v ∷ vs) w h = refl

pub head_read : (ws : List ℕ) → 2 ≤ length ws → kind (get_or ws 0 0) ≡ 1 → head_within (get_or ws 0 0) ≡ true → ReadTo ws 2 1
head_read ws h e w = record {
  inside = omega arith;
  some = omega arith;
  clean = earliest_more (fault_at ws) 0 refl ∙ head_fault ws e ∙ ap (λ b. refuse_if (not b) (3, 0)) w;
  below = ap (every (λ v. ltb (kind v) 2)) (take_more ws 0 0 (omega arith)) ∙ and_from _ true (lt-ltb (kind (get_or ws 0 0)) 2 (omega arith)) refl;
  ahead = λ l s.
      let v = get_or ws 1 0 in
      let p = and_parts (leb 2 (kind v)) (leb (kind v) 4 && every (λ u. leb (kind u) (kind v)) (take 1 ws)) (sym (allowed_middle (take 1 ws) v (rw (front_length ws 1 (omega arith)) (omega arith))) ∙ s) in
      leb-true 2 (kind v) p.0;
}

-- the sizes that a head gives
pub head_sizes : (w : ℕ) → head_within w ≡ true → (1 ≤ middle w) × (middle w ≤ 16) × (1 ≤ low w) × (low w ≤ 16)
head_sizes w e =
    let a = and_parts (eqb (w / 65536 % 4096) 0) (leb 1 (middle w) && (leb (middle w) 16 && (leb 1 (low w) && leb (low w) 16))) e in
    let b = and_parts (leb 1 (middle w)) (leb (middle w) 16 && (leb 1 (low w) && leb (low w) 16)) a.1 in
    let c = and_parts (leb (middle w) 16) (leb 1 (low w) && leb (low w) 16) b.1 in
    let d = and_parts (leb 1 (low w)) (leb (low w) 16) c.1 in
    (leb-true 1 (middle w) b.0, leb-true (middle w) 16 c.0, leb-true 1 (low w) d.0, leb-true (low w) 16 d.1)

module _ (ws : List ℕ) (n : ℕ) (r : ReadTo ws 5 n) where
  long : 1 ≤ length (take n ws)
  long = rw (front_length ws n r.inside) r.some

  found : (code : ℕ × ℕ) → fault_at ws n ≡ Some code → earliest (fault_at ws) (length ws) ≡ Some code
  found code e = earliest_found (fault_at ws) n (length ws) code r.inside r.clean e

  -- no word but the last may stand after the pairs
  pub not_the_last : (n + 1 ≡ length ws → ⊥) → earliest (fault_at ws) (length ws) ≡ Some (2, n)
  not_the_last ne = found (2, n) (fault_kind ws n (ap (allowed (take n ws) (get_or ws n 0)) (ne_eqb (n + 1) (length ws) ne) ∙ ⊎_elim (λ t. absurd (wrong t)) (λ f. f) (cases_Bool (allowed (take n ws) (get_or ws n 0) false))))
    where
      wrong : allowed (take n ws) (get_or ws n 0) false ≡ true → ⊥
      wrong t =
          let v = get_or ws n 0 in
          let p = and_parts (leb 2 (kind v)) (leb (kind v) 4 && every (λ u. leb (kind u) (kind v)) (take n ws)) (sym (allowed_middle (take n ws) v long) ∙ t) in
          let q = and_parts (leb (kind v) 4) (every (λ u. leb (kind u) (kind v)) (take n ws)) p.1 in
          let high : kind v ≤ 4 = leb-true (kind v) 4 q.0 in
          let low' : 5 ≤ kind v = r.ahead (omega (arith, r.inside)) t in
          omega arith

  last_allowed : n + 1 ≡ length ws → allowed (take n ws) (get_or ws n 0) (eqb (n + 1) (length ws)) ≡ eqb (kind (get_or ws n 0)) 5
  last_allowed e = ap (allowed (take n ws) (get_or ws n 0)) (eq-eqb (n + 1) (length ws) e) ∙ allowed_last (take n ws) (get_or ws n 0) long

  pub no_end : n + 1 ≡ length ws → (kind (get_or ws n 0) ≡ 5 → ⊥) → earliest (fault_at ws) (length ws) ≡ Some (2, n)
  no_end e ne = found (2, n) (fault_kind ws n (last_allowed e ∙ ne_eqb (kind (get_or ws n 0)) 5 ne))

  end_fault : n + 1 ≡ length ws → kind (get_or ws n 0) ≡ 5 → fault_at ws n ≡ refuse_if (not (eqb (number (get_or ws n 0)) n)) (4, n)
  unfolding at_kind
  end_fault e k = fault_of ws n true 5 (last_allowed e ∙ eq-eqb (kind (get_or ws n 0)) 5 k) k ∙ ap (λ x. refuse_if (not (eqb (number (get_or ws n 0)) x)) (4, n)) (front_length ws n r.inside)

  pub wrong_count : n + 1 ≡ length ws → kind (get_or ws n 0) ≡ 5 → (number (get_or ws n 0) ≡ n → ⊥) → earliest (fault_at ws) (length ws) ≡ Some (4, n)
  wrong_count e k ne = found (4, n) (end_fault e k ∙ ap (λ b. refuse_if (not b) (4, n)) (ne_eqb (number (get_or ws n 0)) n ne))

  pub all_read : n + 1 ≡ length ws → kind (get_or ws n 0) ≡ 5 → number (get_or ws n 0) ≡ n → earliest (fault_at ws) (length ws) ≡ None
  all_read e k c = ap (earliest (fault_at ws)) (sym e) ∙ earliest_more (fault_at ws) n r.clean ∙ end_fault e k ∙ ap (λ b. refuse_if (not b) (4, n)) (eq-eqb (number (get_or ws n 0)) n c)
