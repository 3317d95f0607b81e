-- How a reader goes through the words of one kind, k, which begin at a, and has come to i.
use Rattle.std.proofs.Common.{◌≡◌, ℕ, ◌+◌, ◌-◌, ◌<◌, ◌≤◌, true, false, not, ◌&&◌, eqb, ltb, leb, ◌⊎◌, List, [], ◌∷◌, ◌++◌, length, get_or, take, drop, Some, None, sym, refl, ap, ◌∙◌, inl, inr, ⊎_elim, arith}
use Rattle.std.specs.List.{between}
use Rattle.std.proofs.lemmas.List.Edits.{between_more}
use Rattle.std.proofs.lemmas.List.{take_more, length-take-le}
use Rattle.std.proofs.lemmas.Bool.{and_parts, and_from, eq-eqb, ne_eqb, lt-ltb, ltb-true, leb-true, le-leb}
use Rattle.record.specs.Refusals.{refuse_if, or_else}
use Rattle.record.specs.Lists.{every, earliest}
use Rattle.record.specs.Faults.{kind, middle, low, allowed, within, in_order, fault_at}
use Rattle.record.specs.Scans.{KindsBelow}
use Rattle.record.specs.Reading.{ReadTo, PartRead}
use Rattle.record.proofs.Lists.{every_push, every_weaker, earliest_more, earliest_found}

pub record Going (ws : List ℕ) (k a i : ℕ) : Type 0 where
  pub start : ReadTo ws k a
  pub from : a ≤ i
  pub to : i < length ws
  pub clean : earliest (fault_at ws) i ≡ None
  pub below : KindsBelow (k + 1) (take i ws)
  pub kinds : every (λ w. eqb (kind w) k) (between a i ws) ≡ true
  pub least : (w : ℕ) → (i ≡ a) ⊎ (allowed (take i ws) w false ≡ true → k ≤ kind w)

between_none : (ws : List ℕ) (a : ℕ) → between a a ws ≡ []
between_none ws a = let e : a - a ≡ 0 = omega arith in ap (λ n. take n (drop a ws)) e

pub going_start : (ws : List ℕ) (k a : ℕ) → ReadTo ws k a → Going ws k a a
going_start ws k a r = record {
  start = r;
  from = omega arith;
  to = r.inside;
  clean = r.clean;
  below = every_weaker (λ w. ltb (kind w) k) (λ w. ltb (kind w) (k + 1)) (λ w e. lt-ltb (kind w) (k + 1) (omega (arith, ltb-true (kind w) k e))) (take a ws) r.below;
  kinds = ap (every (λ w. eqb (kind w) k)) (between_none ws a);
  least = λ w. inl refl;
}

-- what a word between the first and the last has to be
pub allowed_middle : (before : List ℕ) (w : ℕ) → 1 ≤ length before → allowed before w false ≡ (leb 2 (kind w) && (leb (kind w) 4 && every (λ u. leb (kind u) (kind w)) before))
allowed_middle [] w h = absurd (omega arith)
allowed_middle (v ∷ vs) w h = refl

front_length : (ws : List ℕ) (i : ℕ) → i < length ws → length (take i ws) ≡ i
front_length ws i h = length-take-le i ws (omega arith)

-- an allowed word is of no kind below a kind that stands before it
not_lower : (before : List ℕ) (v w : ℕ) → allowed (before ++ v ∷ []) w false ≡ true → kind v ≤ kind w
not_lower before v w e =
    let m = allowed_middle (before ++ v ∷ []) w (some before) in
    let p = and_parts (leb 2 (kind w)) (leb (kind w) 4 && every (λ u. leb (kind u) (kind w)) (before ++ v ∷ [])) (sym m ∙ e) in
    let q = and_parts (leb (kind w) 4) (every (λ u. leb (kind u) (kind w)) (before ++ v ∷ [])) p.1 in
    let l = and_parts (every (λ u. leb (kind u) (kind w)) before) (leb (kind v) (kind w)) (sym (every_push (λ u. leb (kind u) (kind w)) before v) ∙ q.1) in
    leb-true (kind v) (kind w) l.1
  where
    some : (b : List ℕ) → 1 ≤ length (b ++ v ∷ [])
    some [] = omega arith
    some (x ∷ xs) = omega arith

pub going_step : (ws : List ℕ) (k a i : ℕ) → Going ws k a i → i + 1 < length ws → kind (get_or ws i 0) ≡ k → fault_at ws i ≡ None → Going ws k a (i + 1)
going_step ws k a i g h e f =
    let w = get_or ws i 0 in
    let more : take (i + 1) ws ≡ take i ws ++ w ∷ [] = take_more ws i 0 g.to in
    record {
      start = g.start;
      from = omega arith;
      to = h;
      clean = earliest_more (fault_at ws) i g.clean ∙ f;
      below = ap (every (λ v. ltb (kind v) (k + 1))) more ∙ every_push (λ v. ltb (kind v) (k + 1)) (take i ws) w ∙ and_from _ _ g.below (lt-ltb (kind w) (k + 1) (omega arith));
      kinds = ap (every (λ v. eqb (kind v) k)) (between_more ws a i 0 g.from g.to) ∙ every_push (λ v. eqb (kind v) k) (between a i ws) w ∙ and_from _ _ g.kinds (eq-eqb (kind w) k e);
      least = λ v. inr (λ s. omega (arith, not_lower (take i ws) w v (ap (λ l. allowed l v false) (sym more) ∙ s)));
    }

-- the part ends at i, where no word that may stand there is of its kind
part_ends : (ws : List ℕ) (k a i : ℕ) → Going ws k a i → (i + 1 < length ws → allowed (take i ws) (get_or ws i 0) false ≡ true → k + 1 ≤ kind (get_or ws i 0)) → PartRead ws k a i
part_ends ws k a i g ahead' = record {
  from = g.from;
  reached = record {
    inside = g.to;
    some = omega (arith, g.from, g.start.some);
    clean = g.clean;
    below = g.below;
    ahead = ahead';
  };
  kinds = g.kinds;
}

pub going_stops : (ws : List ℕ) (k a i : ℕ) → Going ws k a i → (kind (get_or ws i 0) ≡ k → ⊥) → PartRead ws k a i
going_stops ws k a i g ne =
    part_ends ws k a i g (λ h s. ⊎_elim (λ e. first e h s) (λ f. let l : k ≤ kind (get_or ws i 0) = f s in omega arith) (g.least (get_or ws i 0)))
  where
    first : i ≡ a → i + 1 < length ws → allowed (take i ws) (get_or ws i 0) false ≡ true → k + 1 ≤ kind (get_or ws i 0)
    first e h s =
        let s' : allowed (take a ws) (get_or ws a 0) false ≡ true = rw e at s in
        let l : k ≤ kind (get_or ws a 0) = g.start.ahead (omega arith) s' in
        let l' : k ≤ kind (get_or ws i 0) = rw e l in
        omega arith

pub going_ends : (ws : List ℕ) (k a i : ℕ) → Going ws k a i → i + 1 ≡ length ws → PartRead ws k a i
going_ends ws k a i g e = part_ends ws k a i g (λ h s. absurd (omega arith))

pub going_fault : (ws : List ℕ) (k a i : ℕ) (code : ℕ × ℕ) → Going ws k a i → fault_at ws i ≡ Some code → earliest (fault_at ws) (length ws) ≡ Some code
going_fault ws k a i code g f = earliest_found (fault_at ws) i (length ws) code g.to g.clean f

-- a word of the kind at hand is allowed, so its numbers and then its order decide
pub fault_of_kind : (ws : List ℕ) (k a i : ℕ) → Going ws k a i → i + 1 < length ws → kind (get_or ws i 0) ≡ k → 2 ≤ k → k ≤ 4
    → fault_at ws i ≡ or_else (refuse_if (not (within (middle (get_or ws 0 0)) (low (get_or ws 0 0)) (get_or ws i 0))) (3, i)) (refuse_if (not (in_order (take i ws) (get_or ws i 0))) (4, i))
fault_of_kind ws k a i g h e lo hi =
    ap (λ b. or_else (refuse_if (not b) (2, i)) (or_else (refuse_if (not (within (middle (get_or ws 0 0)) (low (get_or ws 0 0)) (get_or ws i 0))) (3, i)) (refuse_if (not (in_order (take i ws) (get_or ws i 0))) (4, i)))) fine
  where
    w : ℕ
    w = get_or ws i 0

    long : 1 ≤ length (take i ws)
    long = rw (front_length ws i g.to) (omega (arith, g.from, g.start.some))

    all : every (λ u. leb (kind u) (kind w)) (take i ws) ≡ true
    all = every_weaker (λ u. ltb (kind u) (k + 1)) (λ u. leb (kind u) (kind w)) (λ u t. le-leb (kind u) (kind w) (omega (arith, ltb-true (kind u) (k + 1) t))) (take i ws) g.below

    fine : allowed (take i ws) w (eqb (i + 1) (length ws)) ≡ true
    fine = ap (allowed (take i ws) w) (ne_eqb (i + 1) (length ws) (omega arith)) ∙ allowed_middle (take i ws) w long
        ∙ and_from _ _ (le-leb 2 (kind w) (omega arith)) (and_from _ _ (le-leb (kind w) 4 (omega arith)) all)

-- the same by the sizes that the head gives
pub fault_of_part : (ws : List ℕ) (k a i s g : ℕ) → s ≡ middle (get_or ws 0 0) → g ≡ low (get_or ws 0 0) → Going ws k a i → i + 1 < length ws → kind (get_or ws i 0) ≡ k → 2 ≤ k → k ≤ 4
    → fault_at ws i ≡ or_else (refuse_if (not (within s g (get_or ws i 0))) (3, i)) (refuse_if (not (in_order (take i ws) (get_or ws i 0))) (4, i))
fault_of_part ws k a i s g es eg go h e lo hi =
    fault_of_kind ws k a i go h e lo hi
    ∙ ap (λ x. or_else (refuse_if (not (within x (low (get_or ws 0 0)) (get_or ws i 0))) (3, i)) (refuse_if (not (in_order (take i ws) (get_or ws i 0))) (4, i))) (sym es)
    ∙ ap (λ x. or_else (refuse_if (not (within s x (get_or ws i 0))) (3, i)) (refuse_if (not (in_order (take i ws) (get_or ws i 0))) (4, i))) (sym eg)
