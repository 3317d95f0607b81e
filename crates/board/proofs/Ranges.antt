-- What `all` answers over a range, and `array::from_fn`.
use Rattle.std.proofs.Common.{◌≡◌, ℕ, zero, suc, ◌+◌, ◌<◌, ◌≤◌, Bool, true, false, List, length, get_or, Decides, Option, sym, refl, subst, ⊎_elim, arith}
use denote.Param.Members.{Mut}
use Rattle.std.specs.Bool.{MatchBool}
use Rattle.std.specs.Array.{IsFromFnResult, IsFromFnResultFrom}
use Rattle.std.specs.Fn.{Called}
use Rattle.std.specs.Option.{MatchOption}
use Rattle.std.specs.Iterator.{YieldsThen}
use Rattle.std.specs.List.{range_with_len, FoldsTo, AllWithin, HoldsAt}
use Rattle.std.specs.declared.ops.Range.{Range}
use Rattle.std.proofs.iter.Yields.{nat_range_steps}
use Rattle.std.proofs.lemmas.Bool.{both_ways, cases_eq}
use Rattle.std.proofs.lemmas.Iterator.{cases_from_all, YieldsList-from_range}
use Rattle.std.proofs.lemmas.List.FromFn.{length-range_with_len, get_or-range_with_len}

-- `all` over the numbers below n, by a test that decides P
pub all_below : {F : Type 0} {g : Mut F (ℕ × Unit {0}) Bool} {s : Range ℕ} (u : Range ℕ) (f : F) (r : Bool) (n : ℕ) (P : ℕ → Type 0)
    → (xs : List ℕ) × (o : Option ℕ) × (j : F) × YieldsThen nat_range_steps s xs o u × FoldsTo (λ p x q. Called g p (x, tt) true q) f xs j × MatchOption o (r ≡ true) (λ x. (r ≡ false) × ((h : F) × Called g j (x, tt) false h))
    → s ≡ record { start = 0; end = n } → ((x : ℕ) (b : Bool) (q : F) → Called g f (x, tt) b q → (q ≡ f) × Decides b (P x)) → Decides r ((k : ℕ) → k < n → P k)
all_below u f r n P ran e test = go r (cases_from_all u f r P (λ x. P x → ⊥) ran (YieldsList-from_range 0 n n e (omega arith)) (λ x q k. let t = test x true q k in (t.0, t.1.0 refl)) (λ x q k h. both_ways false refl ((test x false q k).1.1 h)))
  where
    at : (k : ℕ) → k < n → get_or (range_with_len 0 n) k 0 ≡ k
    at k h = let i = get_or-range_with_len 0 n k 0 h in omega arith

    go : (r : Bool) → MatchBool r (AllWithin P (range_with_len 0 n) 0 (length (range_with_len 0 n))) ((k : ℕ) × (k < length (range_with_len 0 n)) × HoldsAt (λ x. P x → ⊥) (range_with_len 0 n) k) → Decides r ((k : ℕ) → k < n → P k)
    go true h = (λ _ k l. let i = h k 0 (omega arith) (omega (arith, length-range_with_len 0 n)) in let z = at k l in rw z at i, λ _. refl)
    go false h =
        let (k, l, not-there) = h in
        let below : k < n = omega (arith, length-range_with_len 0 n) in
        let i = not-there 0 in let z = at k below in
        (λ e. absurd (both_ways false refl e), λ f. absurd ((rw z at i) (f k below)))

-- `array::from_fn`, by a closure whose result has P
pub made_at : {F B : Type 0} {g : Mut F (ℕ × Unit {0}) B} (f : F) (ys : List B) (n : ℕ) (P : ℕ → B → Type 0) → IsFromFnResult g f ys n → ((i : ℕ) (y : B) (q : F) → Called g f (i, tt) y q → (q ≡ f) × P i y) → (i : ℕ) (d : B) → i < n → P i (get_or ys i d)
made_at {B = B} {g = g} f ys n P made each i d h = go 0 n made.each i (omega arith) (omega arith)
  where
    go : (k m : ℕ) → IsFromFnResultFrom g f ys k m → (i : ℕ) → k ≤ i → i < k + m → P i (get_or ys i d)
    go k zero h i l u = absurd (omega arith)
    go k (suc m) (q, y, at, called, rest) i l u =
        let (same, has) = each k y q called in
        ⊎_elim
        (λ e. subst (λ j. P j (get_or ys j d)) (sym e) (subst (P k) (sym (at.1 d)) has))
        (λ e. go (k + 1) m (subst (λ p. IsFromFnResultFrom g p ys (k + 1) m) same rest) i (omega arith) (omega arith))
        (cases_eq i k)
