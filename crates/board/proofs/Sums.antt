-- Sums over the numbers below n.
use Rattle.std.proofs.Common.{◌≡◌, ℕ, zero, suc, ◌+◌, ◌*◌, ◌<◌, ◌≤◌, Bool, true, false, refl, ⊎_elim, suc-mul, arith}
use Rattle.std.proofs.lemmas.Bool.{cases_eq}

unfoldable pub sum : ℕ → (ℕ → ℕ) → ℕ
sum zero f = 0
sum (suc n) f = f n + sum n f

abbrev pub bit : Bool → ℕ
bit true = 1
bit false = 0

pub bit_most : (b : Bool) → bit b ≤ 1
bit_most true = omega arith
bit_most false = omega arith

-- terms of at most c
pub sum_most : (n c : ℕ) (f : ℕ → ℕ) → ((k : ℕ) → k < n → f k ≤ c) → sum n f ≤ n * c
unfolding sum
sum_most zero c f h = omega arith
sum_most (suc n) c f h = let a : f n ≤ c = h n (omega arith) in let b = sum_most n c f (λ k l. h k (omega arith)) in omega (arith, suc-mul n c)

-- smaller terms
pub sum_less : (n : ℕ) (f g : ℕ → ℕ) → ((k : ℕ) → k < n → f k ≤ g k) → sum n f ≤ sum n g
unfolding sum
sum_less zero f g h = omega arith
sum_less (suc n) f g h = let a : f n ≤ g n = h n (omega arith) in let b = sum_less n f g (λ k l. h k (omega arith)) in omega arith

-- smaller terms, one of them by one at least
pub sum_falls : (n : ℕ) (f g : ℕ → ℕ) (x : ℕ) → x < n → ((k : ℕ) → k < n → f k ≤ g k) → f x + 1 ≤ g x → sum n f + 1 ≤ sum n g
unfolding sum
sum_falls zero f g x l h d = absurd (omega arith)
sum_falls (suc n) f g x l h d = ⊎_elim here (λ e. there (sum_falls n f g x (omega arith) (λ k l. h k (omega arith)) d)) (cases_eq x n)
  where
    here : x ≡ n → f n + sum n f + 1 ≤ g n + sum n g
    here e = let a = sum_less n f g (λ k l. h k (omega arith)) in let b : f n + 1 ≤ g n = rw (← e) d in omega arith

    there : sum n f + 1 ≤ sum n g → f n + sum n f + 1 ≤ g n + sum n g
    there b = let a : f n ≤ g n = h n (omega arith) in omega arith

-- a term is at most the sum
pub sum_term : (n : ℕ) (f : ℕ → ℕ) (x : ℕ) → x < n → f x ≤ sum n f
unfolding sum
sum_term zero f x l = absurd (omega arith)
sum_term (suc n) f x l = ⊎_elim (λ e. let b : f x ≡ f n = rw e refl in omega arith) (λ e. let b = sum_term n f x (omega arith) in omega arith) (cases_eq x n)
