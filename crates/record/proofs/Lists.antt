-- Laws of the words of specs/Lists.
use Rattle.std.proofs.Common.{◌≡◌, ℕ, zero, suc, ◌+◌, ◌-◌, ◌<◌, ◌≤◌, Bool, true, false, cond, not, ◌&&◌, ◌||◌, eqb, List, [], ◌∷◌, ◌++◌, length, get_or, is_some, Some, None, filter, Option, sym, refl, ap, ◌∙◌, ⊎_elim, add-one, arith}
use Rattle.std.specs.List.{AllByRecursion}
use Rattle.std.proofs.lemmas.Bool.{and_parts, or_parts, or_from, or_left, or_right, cases_order, cond_both, not-true, not-false, eqb-false, eq-eqb, ne_eqb, eqb-true}
use Rattle.record.specs.Refusals.{or_else}
use Rattle.record.specs.Lists.{every, among, Distinct, next, place_in, earliest}

and_assoc : (a b c : Bool) → (a && (b && c)) ≡ ((a && b) && c)
and_assoc true b c = refl
and_assoc false b c = refl

or_assoc : (a b c : Bool) → (a || (b || c)) ≡ ((a || b) || c)
or_assoc true b c = refl
or_assoc false b c = refl

and_true : (a : Bool) → (a && true) ≡ a
and_true true = refl
and_true false = refl

pub or_false : (a : Bool) → (a || false) ≡ a
or_false true = refl
or_false false = refl

pub every_append : {X : Type 0} (t : X → Bool) (xs ys : List X) → every t (xs ++ ys) ≡ (every t xs && every t ys)
every_append t [] ys = refl
every_append t (x ∷ xs) ys = ap (λ b. t x && b) (every_append t xs ys) ∙ and_assoc (t x) (every t xs) (every t ys)

pub every_push : {X : Type 0} (t : X → Bool) (xs : List X) (y : X) → every t (xs ++ y ∷ []) ≡ (every t xs && t y)
every_push t xs y = every_append t xs (y ∷ []) ∙ ap (λ b. every t xs && b) (and_true (t y))

-- a weaker test passes where a stronger one did
pub every_weaker : {X : Type 0} (t u : X → Bool) → ((x : X) → t x ≡ true → u x ≡ true) → (xs : List X) → every t xs ≡ true → every u xs ≡ true
every_weaker t u f [] e = refl
every_weaker t u f (x ∷ xs) e =
    let p = and_parts (t x) (every t xs) e in
    ap (λ b. b && every u xs) (f x p.0) ∙ every_weaker t u f xs p.1

pub every_all : {X : Type 0} (t : X → Bool) (xs : List X) → every t xs ≡ true → AllByRecursion (λ x. t x ≡ true) xs
every_all t [] e = tt
every_all t (x ∷ xs) e = let p = and_parts (t x) (every t xs) e in (p.0, every_all t xs p.1)

pub all_every : {X : Type 0} (t : X → Bool) (xs : List X) → AllByRecursion (λ x. t x ≡ true) xs → every t xs ≡ true
all_every t [] a = refl
all_every t (x ∷ xs) a = ap (λ b. b && every t xs) a.0 ∙ all_every t xs a.1

pub among_append : (x : ℕ) (xs ys : List ℕ) → among x (xs ++ ys) ≡ (among x xs || among x ys)
among_append x [] ys = refl
among_append x (y ∷ xs) ys = ap (λ b. eqb x y || b) (among_append x xs ys) ∙ or_assoc (eqb x y) (among x xs) (among x ys)

pub among_push : (x : ℕ) (xs : List ℕ) (y : ℕ) → among x (xs ++ y ∷ []) ≡ (among x xs || eqb x y)
among_push x xs y = among_append x xs (y ∷ []) ∙ ap (λ b. among x xs || b) (or_false (eqb x y))

-- what passes one test passes none that excludes it
pub kept_none : {X : Type 0} (t p : X → Bool) → ((x : X) → t x ≡ true → p x ≡ false) → (xs : List X) → every t xs ≡ true → filter p xs ≡ []
kept_none t p f [] e = refl
kept_none t p f (x ∷ xs) e =
    let q = and_parts (t x) (every t xs) e in
    ap (λ b. cond b (x ∷ filter p xs) (filter p xs)) (f x q.0) ∙ kept_none t p f xs q.1

pub kept_all : {X : Type 0} (t p : X → Bool) → ((x : X) → t x ≡ true → p x ≡ true) → (xs : List X) → every t xs ≡ true → filter p xs ≡ xs
kept_all t p f [] e = refl
kept_all t p f (x ∷ xs) e =
    let q = and_parts (t x) (every t xs) e in
    ap (λ b. cond b (x ∷ filter p xs) (filter p xs)) (f x q.0) ∙ ap (λ l. x ∷ l) (kept_all t p f xs q.1)

pub distinct_push : (xs : List ℕ) (y : ℕ) → Distinct xs → among y xs ≡ false → Distinct (xs ++ y ∷ [])
distinct_push [] y d a = (refl, tt)
distinct_push (x ∷ xs) y d a =
    let p = or_parts (eqb y x) (among y xs) a in
    let n : eqb x y ≡ false = ne_eqb x y (λ e. eqb-false y x p.0 (sym e)) in
    (among_push x xs y ∙ ap (λ b. b || eqb x y) d.0 ∙ n, distinct_push xs y d.1 p.1)

-- Of the refusals of the members below n: one step, the lowest found, and none found.
pub earliest_more : (f : ℕ → Option (ℕ × ℕ)) (i : ℕ) → earliest f i ≡ None → earliest f (i + 1) ≡ f i
earliest_more f i e = ap (earliest f) (add-one i) ∙ ap (λ o. or_else o (f i)) e

earliest_stays : (f : ℕ → Option (ℕ × ℕ)) (i k : ℕ) (c : ℕ × ℕ) → earliest f i ≡ Some c → earliest f (i + k) ≡ Some c
earliest_stays f i zero c e = let s : i + 0 ≡ i = omega arith in ap (earliest f) s ∙ e
earliest_stays f i (suc k) c e =
    let s : i + suc k ≡ suc (i + k) = omega arith in
    ap (earliest f) s ∙ ap (λ o. or_else o (f (i + k))) (earliest_stays f i k c e)

pub earliest_found : (f : ℕ → Option (ℕ × ℕ)) (i n : ℕ) (c : ℕ × ℕ) → i < n → earliest f i ≡ None → f i ≡ Some c → earliest f n ≡ Some c
earliest_found f i n c h e g =
    let d : n ≡ (i + 1) + (n - (i + 1)) = omega arith in
    ap (earliest f) d ∙ earliest_stays f (i + 1) (n - (i + 1)) c (earliest_more f i e ∙ g)

or_else_none : (a b : Option (ℕ × ℕ)) → or_else a b ≡ None → (a ≡ None) × (b ≡ None)
or_else_none None b e = (refl, e)
or_else_none (Some c) b e = grind arith

-- nobody below n has a refusal: nobody below n, one by one
pub earliest_none : (f : ℕ → Option (ℕ × ℕ)) (n : ℕ) → earliest f n ≡ None → (i : ℕ) → i < n → f i ≡ None
earliest_none f zero e i h = absurd (omega arith)
earliest_none f (suc n) e i h =
    let p = or_else_none (earliest f n) (f n) e in
    ⊎_elim (λ s. ap f s ∙ p.1) (⊎_elim (λ l. earliest_none f n p.0 i l) (λ l. absurd (omega arith))) (cases_order i n)

pub none_earliest : (f : ℕ → Option (ℕ × ℕ)) (n : ℕ) → ((i : ℕ) → i < n → f i ≡ None) → earliest f n ≡ None
none_earliest f zero g = refl
none_earliest f (suc n) g = ap (λ o. or_else o (f n)) (none_earliest f n (λ i h. g i (omega arith))) ∙ g n (omega arith)

-- Distinct numbers below n are at most n.
other : ℕ → ℕ → Bool
other n x = not (eqb x n)

among_kept : (x : ℕ) (p : ℕ → Bool) (xs : List ℕ) → among x xs ≡ false → among x (filter p xs) ≡ false
among_kept x p [] e = refl
among_kept x p (y ∷ ys) e =
    let q = or_parts (eqb x y) (among x ys) e in
    cond_both (p y) (y ∷ filter p ys) (filter p ys) (λ l. among x l ≡ false) (λ _. or_from _ _ q.0 (among_kept x p ys q.1)) (λ _. among_kept x p ys q.1)

distinct_kept : (p : ℕ → Bool) (xs : List ℕ) → Distinct xs → Distinct (filter p xs)
distinct_kept p [] d = tt
distinct_kept p (x ∷ xs) d =
    cond_both (p x) (x ∷ filter p xs) (filter p xs) Distinct (λ _. (among_kept x p xs d.0, distinct_kept p xs d.1)) (λ _. distinct_kept p xs d.1)

below_kept : (n : ℕ) (xs : List ℕ) → AllByRecursion (λ x. x < suc n) xs → AllByRecursion (λ x. x < n) (filter (other n) xs)
unfolding other
below_kept n [] a = tt
below_kept n (x ∷ xs) a =
    cond_both (other n x) (x ∷ filter (other n) xs) (filter (other n) xs) (AllByRecursion (λ y. y < n))
    (λ e. let h = a.0 in let ne = eqb-false x n (not-true (eqb x n) e) in (omega arith, below_kept n xs a.1))
    (λ _. below_kept n xs a.1)

kept_absent : (n : ℕ) (xs : List ℕ) → among n xs ≡ false → filter (other n) xs ≡ xs
unfolding other
kept_absent n [] e = refl
kept_absent n (x ∷ xs) e =
    let q = or_parts (eqb n x) (among n xs) e in
    let ne : eqb x n ≡ false = ne_eqb x n (λ s. eqb-false n x q.0 (sym s)) in
    ap (λ b. cond (not b) (x ∷ filter (other n) xs) (filter (other n) xs)) ne ∙ ap (λ l. x ∷ l) (kept_absent n xs q.1)

one_dropped : (n : ℕ) (xs : List ℕ) → Distinct xs → length xs ≤ suc (length (filter (other n) xs))
unfolding other
one_dropped n [] d = omega arith
one_dropped n (x ∷ xs) d =
    cond_both (other n x) (x ∷ filter (other n) xs) (filter (other n) xs) (λ l. suc (length xs) ≤ suc (length l))
    (λ _. omega (arith, one_dropped n xs d.1))
    (λ e. let s : x ≡ n = eqb-true x n (not-false (eqb x n) e) in
    omega (arith, ap length (kept_absent n xs (ap (λ y. among y xs) (sym s) ∙ d.0))))

pub few_distinct : (n : ℕ) (xs : List ℕ) → Distinct xs → AllByRecursion (λ x. x < n) xs → length xs ≤ n
few_distinct zero [] d a = omega arith
few_distinct zero (x ∷ xs) d a = absurd (let h = a.0 in omega arith)
few_distinct (suc n) xs d a =
    omega (arith, one_dropped n xs d, few_distinct n (filter (other n) xs) (distinct_kept (other n) xs d) (below_kept n xs a))

-- Of the place of a number in a list: who has one, what stands there, and one more at the end.
some_next : (o : Option ℕ) → is_some (next o) ≡ is_some o
some_next None = refl
some_next (Some k) = refl

next_none : (o : Option ℕ) → next o ≡ None → o ≡ None
next_none None e = refl
next_none (Some k) e = cc

-- a member has a place, and what has a place is a member
pub among_place : (x : ℕ) (xs : List ℕ) → among x xs ≡ is_some (place_in x xs)
among_place x [] = refl
among_place x (y ∷ ys) = go (eqb x y) (among_place x ys)
  where
    go : (b : Bool) → among x ys ≡ is_some (place_in x ys) → (b || among x ys) ≡ is_some (cond b (Some 0) (next (place_in x ys)))
    go true e = refl
    go false e = e ∙ sym (some_next (place_in x ys))

-- what stands somewhere in the list is a member
pub among_from : (x : ℕ) (xs : List ℕ) (i : ℕ) → i < length xs → get_or xs i 0 ≡ x → among x xs ≡ true
among_from x [] i h e = absurd (omega arith)
among_from x (z ∷ zs) zero h e = or_left (eqb x z) (among x zs) (eq-eqb x z (sym e))
among_from x (z ∷ zs) (suc i) h e = or_right (eqb x z) (among x zs) (among_from x zs i (omega arith) e)

-- at its place stands the member
pub place_at_lem : (x : ℕ) (xs : List ℕ) (k : ℕ) → place_in x xs ≡ Some k → (k < length xs) × (get_or xs k 0 ≡ x)
place_at_lem x [] k e = absurd (let z : ◌≡◌ {A = ℕ} 0 1 = cc in omega arith)
place_at_lem x (z ∷ zs) k e = go (eqb x z) (place_in x zs) refl e (place_at_lem x zs)
  where
    go : (b : Bool) (o : Option ℕ) → eqb x z ≡ b → cond b (Some 0) (next o) ≡ Some k → ((l : ℕ) → o ≡ Some l → (l < length zs) × (get_or zs l 0 ≡ x)) → (k < suc (length zs)) × (get_or (z ∷ zs) k 0 ≡ x)
    go true o q e r = let n : 0 ≡ k = cc in (omega arith, rw (← n) (sym (eqb-true x z q)))
    go false None q e r = absurd (let z : ◌≡◌ {A = ℕ} 0 1 = cc in omega arith)
    go false (Some l) q e r =
        let n : l + 1 ≡ k = cc in
        let m : suc l ≡ k = omega arith in
        (omega (arith, (r l refl).0), rw (← m) (r l refl).1)

-- one more at the end: another number's place stays
pub place_push_other : (x y : ℕ) (xs : List ℕ) → eqb x y ≡ false → place_in x (xs ++ y ∷ []) ≡ place_in x xs
place_push_other x y [] e = ap (λ b. cond b (Some 0) None) e
place_push_other x y (z ∷ zs) e = ap (λ o. cond (eqb x z) (Some 0) (next o)) (place_push_other x y zs e)

-- one more at the end: a number that was not there has the last place
pub place_push_new : (x : ℕ) (xs : List ℕ) → place_in x xs ≡ None → place_in x (xs ++ x ∷ []) ≡ Some (length xs)
place_push_new x [] e = ap (λ b. cond b (Some 0) None) (eq-eqb x x refl)
place_push_new x (z ∷ zs) e = go (eqb x z) e (place_push_new x zs)
  where
    go : (b : Bool) → cond b (Some 0) (next (place_in x zs)) ≡ None → (place_in x zs ≡ None → place_in x (zs ++ x ∷ []) ≡ Some (length zs)) → cond b (Some 0) (next (place_in x (zs ++ x ∷ []))) ≡ Some (suc (length zs))
    go true e f = absurd (let z : ◌≡◌ {A = ℕ} 0 1 = cc in omega arith)
    go false e f = ap next (f (next_none (place_in x zs) e)) ∙ ap Some (add-one (length zs))
