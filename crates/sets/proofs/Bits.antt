-- The members of a set after one more bit, or one bit less.
use Rattle.std.proofs.Common.{◌≡◌, ℕ, suc, min, ◌+◌, ◌/◌, ◌-◌, ◌*◌, ◌%◌, ◌^◌, ◌<◌, ◌≤◌, Bool, true, false, not, ◌&&◌, ◌||◌, eqb, sym, refl, ap, ◌∙◌, ⊎_elim, arith}
use lib.Bits.{bit_and, bit_or, and_le_l}
use Rattle.std.proofs.Math.Nat.{pow-suc}
use Rattle.std.proofs.lemmas.Nat.{shr-shr, pow_pos}
use mir.Syntax.{w32}
use Rattle.std.specs.Int.{bit_at, bit_not, trailing_zeros}
use Rattle.std.proofs.lemmas.Nat.Bits.{bit_at-trailing_zeros, bit_at_set_same, bit_at_set_other, bit_at_clear_same, bit_at_clear_other, bit_at_above, bit_at-zero, bit_at_and, bit_at_not, bit_at-lt, same_from_bits_below, same_from_bits, bit_at-pow_same, bit_at-pow_other, bit_at_cat_low, bit_at_cat_high, bit_at_ones_above}
use Rattle.std.proofs.lemmas.Bool.{both_ways, cases_eq, cases_lt, ne_eqb, eq-eqb, eqb-false}
use Rattle.std.proofs.lemmas.Bool.Decides.{nat_tests}
use Rattle.sets.specs.Sets.{has}

pub has_none : (j : ℕ) → has 0 j ≡ false
unfolding has
has_none j = ap (λ b. eqb b 1) (bit_at-zero j)

-- a set of 32 bits has no member above 31
pub has_above : (m k : ℕ) → m < 2 ^ 32 → 32 ≤ k → has m k ≡ false
unfolding has
has_above m k f h = ap (λ b. eqb b 1) (bit_at_above m 32 k f h)

-- a set of few bits with no member is the empty one
pub no_members_lem : (w m : ℕ) → m < 2 ^ w → ((j : ℕ) → has m j ≡ false) → m ≡ 0
unfolding has
no_members_lem w m h f = same_from_bits_below w m 0 h (pow_pos w) (λ j l. (let n = eqb-false (bit_at m j) 1 (f j) in omega (arith, bit_at-lt m j)) ∙ sym (bit_at-zero j))

-- one bit decides: it is as wanted at k, and as it was elsewhere
at_one : (x y j k : ℕ) (a b : Bool) → (j ≡ k → eqb x 1 ≡ a) → (j ≡ k → b ≡ a) → ((j ≡ k → ⊥) → x ≡ y) → ((j ≡ k → ⊥) → b ≡ eqb y 1) → eqb x 1 ≡ b
at_one x y j k a b same right other left = ⊎_elim (λ e. same e ∙ sym (right e)) (λ n. ap (λ v. eqb v 1) (other n) ∙ sym (left n)) (cases_eq j k)

pub has_insert : (m k j : ℕ) → k < 32 → has (bit_or m ((1 * 2 ^ k) % 4294967296)) j ≡ (eqb j k || has m j)
unfolding has
has_insert m k j h =
    at_one (bit_at (bit_or m ((1 * 2 ^ k) % 4294967296)) j) (bit_at m j) j k true (eqb j k || eqb (bit_at m j) 1)
    (λ e. rw e (ap (λ v. eqb v 1) (bit_at_set_same w32 m k h))) (λ e. ap (λ b. b || eqb (bit_at m j) 1) (eq-eqb j k e))
    (λ n. bit_at_set_other w32 m k h j n) (λ n. ap (λ b. b || eqb (bit_at m j) 1) (ne_eqb j k n))

pub has_remove : (m k j : ℕ) → m < 2 ^ 32 → k < 32 → has (bit_and m (bit_not w32 ((1 * 2 ^ k) % 4294967296))) j ≡ (not (eqb j k) && has m j)
unfolding has
has_remove m k j f h = ⊎_elim below above (cases_lt j 32)
  where
    and_false : (b : Bool) → (b && false) ≡ false
    and_false true = refl
    and_false false = refl

    cut : ℕ
    cut = bit_and m (bit_not w32 ((1 * 2 ^ k) % 4294967296))

    below : j < 32 → eqb (bit_at cut j) 1 ≡ (not (eqb j k) && eqb (bit_at m j) 1)
    below l =
        at_one (bit_at cut j) (bit_at m j) j k false (not (eqb j k) && eqb (bit_at m j) 1)
        (λ e. rw e (ap (λ v. eqb v 1) (bit_at_clear_same w32 m k h))) (λ e. ap (λ b. not b && eqb (bit_at m j) 1) (eq-eqb j k e))
        (λ n. bit_at_clear_other w32 m k h j l n) (λ n. ap (λ b. not b && eqb (bit_at m j) 1) (ne_eqb j k n))

    above : 32 ≤ j → eqb (bit_at cut j) 1 ≡ (not (eqb j k) && eqb (bit_at m j) 1)
    above l = ap (λ v. eqb v 1) (bit_at_above cut 32 j (omega (arith, and_le_l m (bit_not w32 ((1 * 2 ^ k) % 4294967296)))) l) ∙ sym (ap (λ v. not (eqb j k) && eqb v 1) (bit_at_above m 32 j f l) ∙ and_false (not (eqb j k)))

-- a mask without the bits of another is 0 exactly when the first set is within the second
left : (x y : ℕ) → x < 2 → y < 2 → min x (1 - y) ≡ 0 → eqb x 1 ≡ true → eqb y 1 ≡ true
left x y f g e h = grind (arith, nat_tests)

none_left : (x y : ℕ) → x < 2 → y < 2 → (eqb x 1 ≡ true → eqb y 1 ≡ true) → min x (1 - y) ≡ 0
none_left x y f g h = grind (arith, nat_tests)

module _ (a b : ℕ) (f : a < 2 ^ 32) (g : b < 2 ^ 32) where
  rest_at : (j : ℕ) → j < 32 → bit_at (bit_and a (bit_not w32 b)) j ≡ min (bit_at a j) (1 - bit_at b j)
  rest_at j l = bit_at_and a (bit_not w32 b) j ∙ ap (min (bit_at a j)) (bit_at_not w32 b j g l)

  pub within_from : bit_and a (bit_not w32 b) ≡ 0 → (j : ℕ) → has a j ≡ true → has b j ≡ true
  unfolding has
  within_from e j h = ⊎_elim
      (λ l. left (bit_at a j) (bit_at b j) (bit_at-lt a j) (bit_at-lt b j) (sym (rest_at j l) ∙ ap (λ n. bit_at n j) e ∙ bit_at-zero j) h)
      (λ l. absurd (both_ways false refl (sym (ap (λ v. eqb v 1) (bit_at_above a 32 j f l)) ∙ h)))
      (cases_lt j 32)

  pub within_to : ((j : ℕ) → has a j ≡ true → has b j ≡ true) → bit_and a (bit_not w32 b) ≡ 0
  unfolding has
  within_to h = same_from_bits_below 32 (bit_and a (bit_not w32 b)) 0 (omega (arith, and_le_l a (bit_not w32 b))) (omega arith)
      (λ j l. rest_at j l ∙ none_left (bit_at a j) (bit_at b j) (bit_at-lt a j) (bit_at-lt b j) (h j) ∙ sym (bit_at-zero j))

-- the lowest bit that is 1 is the lowest member
pub lowest : (m : ℕ) → 0 < m → m < 2 ^ 32 → (trailing_zeros w32 m < 32) × (has m (trailing_zeros w32 m) ≡ true) × ((j : ℕ) → j < trailing_zeros w32 m → has m j ≡ false)
unfolding has
lowest m p f = let l = bit_at-trailing_zeros w32 m p f in (l.0, ap (λ v. eqb v 1) l.1, λ j h. ap (λ v. eqb v 1) (l.2 j h))

-- a number and the one below it: the bits above the lowest 1 are the same, and under it are zeros in the first
module _ (m k : ℕ) (one : bit_at m k ≡ 1) (zeros : (i : ℕ) → i < k → bit_at m i ≡ 0) where
  twice : 2 ^ (k + 1) ≡ 2 ^ k * 2
  twice = let e : k + 1 ≡ suc k = omega arith in ap (λ n. 2 ^ n) e ∙ pow-suc 2 k

  parts : m ≡ m / 2 ^ (k + 1) * 2 ^ (k + 1) + 2 ^ k
  parts = same_from_bits m (m / 2 ^ (k + 1) * 2 ^ (k + 1) + 2 ^ k) go
    where
      go : (i : ℕ) → bit_at m i ≡ bit_at (m / 2 ^ (k + 1) * 2 ^ (k + 1) + 2 ^ k) i
      go i = ⊎_elim
          (λ l. ⊎_elim
          (λ e. ap (bit_at m) e ∙ one ∙ sym (bit_at-pow_same k) ∙ ap (bit_at (2 ^ k)) (sym e))
          (λ d. zeros i (omega arith) ∙ sym (bit_at-pow_other k i d))
          (cases_eq i k)
          ∙ sym (bit_at_cat_low (m / 2 ^ (k + 1)) (k + 1) (2 ^ k) i l))
          (λ l.
          let e : i ≡ k + 1 + (i - (k + 1)) = omega arith in
          ap (bit_at m) e
          ∙ ap (λ x. x % 2) (sym (shr-shr m (k + 1) (i - (k + 1))))
          ∙ sym (bit_at_cat_high (m / 2 ^ (k + 1)) (k + 1) (2 ^ k) i (omega (arith, twice, pow_pos k)) l))
          (cases_lt i (k + 1))

  below : m - 1 ≡ m / 2 ^ (k + 1) * 2 ^ (k + 1) + (2 ^ k - 1)
  below = omega (arith, parts, pow_pos k)

  pub rest_below : (j : ℕ) → j < k → bit_at (bit_and m (m - 1)) j ≡ 0
  rest_below j l = bit_at_and m (m - 1) j ∙ ap (λ x. min x (bit_at (m - 1) j)) (zeros j l) ∙ omega arith

  pub rest_same : bit_at (bit_and m (m - 1)) k ≡ 0
  rest_same = bit_at_and m (m - 1) k ∙ ap (min (bit_at m k)) (ap (λ x. bit_at x k) below ∙ bit_at_cat_low (m / 2 ^ (k + 1)) (k + 1) (2 ^ k - 1) k (omega arith) ∙ bit_at_ones_above k k (omega arith)) ∙ omega arith

  pub rest_above : (j : ℕ) → k < j → bit_at (bit_and m (m - 1)) j ≡ bit_at m j
  rest_above j l =
      let high : bit_at m j ≡ bit_at (m / 2 ^ (k + 1)) (j - (k + 1)) = ap (λ x. bit_at x j) parts ∙ bit_at_cat_high (m / 2 ^ (k + 1)) (k + 1) (2 ^ k) j (omega (arith, twice, pow_pos k)) (omega arith) in
      let pred : bit_at (m - 1) j ≡ bit_at (m / 2 ^ (k + 1)) (j - (k + 1)) = ap (λ x. bit_at x j) below ∙ bit_at_cat_high (m / 2 ^ (k + 1)) (k + 1) (2 ^ k - 1) j (omega (arith, twice, pow_pos k)) (omega arith) in
      bit_at_and m (m - 1) j ∙ ap (min (bit_at m j)) (pred ∙ sym high) ∙ omega arith

-- without its lowest member
pub has_rest : (m j : ℕ) → 0 < m → m < 2 ^ 32 → has (bit_and m (m - 1)) j ≡ (not (eqb j (trailing_zeros w32 m)) && has m j)
unfolding has
has_rest m j p f =
    let l = bit_at-trailing_zeros w32 m p f in
    let k = trailing_zeros w32 m in
    ⊎_elim
    (λ e. ap (λ x. eqb (bit_at (bit_and m (m - 1)) x) 1) e ∙ ap (λ v. eqb v 1) (rest_same m k l.1 l.2) ∙ sym (ap (λ b. not b && eqb (bit_at m j) 1) (eq-eqb j k e)))
    (λ d. ap (λ v. eqb v 1) (⊎_elim (λ h. rest_below m k l.1 l.2 j h ∙ sym (l.2 j h)) (λ h. rest_above m k l.1 l.2 j (omega arith)) (cases_lt j k)) ∙ sym (ap (λ b. not b && eqb (bit_at m j) 1) (ne_eqb j k d)))
    (cases_eq j k)
