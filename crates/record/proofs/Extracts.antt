-- What stands in the words of a content: the words of each kind, and what they say.
use Rattle.std.proofs.Common.{◌≡◌, ℕ, zero, suc, ◌+◌, ◌<◌, ◌≤◌, Bool, true, eqb, ltb, List, [], ◌∷◌, ◌++◌, map, length, filter, sym, refl, ap, ◌∙◌, ⊎_elim, arith}
use Rattle.std.specs.List.{AllByRecursion}
use Rattle.std.proofs.lemmas.List.Elements.{filter-append}
use Rattle.std.proofs.lemmas.List.{append-nil}
use Rattle.std.proofs.lemmas.Bool.{and_from, eq-eqb, ne_eqb, eqb-true, ltb-true, lt-ltb, cases_order}
use Rattle.record.specs.Lists.{every}
use Rattle.record.specs.Format.{choice_word, turn_word, pair_word, owner_words, choice_words}
use Rattle.record.specs.Faults.{kind, high, low, pair_of}
use Rattle.record.proofs.Lists.{every_append, every_weaker, kept_none, kept_all}
use Rattle.record.proofs.Wording.{kind_choice, high_choice, low_choice, kind_turn, low_turn, kind_pair, middle_pair, low_pair}

-- every number is a byte
abbrev pub Bytes : List ℕ → Type 0
Bytes xs = AllByRecursion (λ x. x < 256) xs

-- One owner's words: their kind, their owner, and whom they name.
pub owner_every : (t : ℕ → Bool) (o k : ℕ) (xs : List ℕ) → ((j q : ℕ) → j < k + length xs → q < 256 → t (choice_word o j q) ≡ true) → Bytes xs → every t (owner_words o k xs) ≡ true
owner_every t o k [] f b = refl
owner_every t o k (x ∷ xs) f b =
    and_from (t (choice_word o k x)) (every t (owner_words o (k + 1) xs)) (f k x (omega arith) b.0) (owner_every t o (k + 1) xs (λ j q l. f j q (omega arith)) b.1)

pub owner_lows : (o k : ℕ) (xs : List ℕ) → o < 256 → k + length xs ≤ 256 → Bytes xs → map low (owner_words o k xs) ≡ xs
owner_lows o k [] a l b = refl
owner_lows o k (x ∷ xs) a l b =
    ap (λ y. y ∷ map low (owner_words o (k + 1) xs)) (low_choice o k x a (omega arith) b.0)
    ∙ ap (λ ys. x ∷ ys) (owner_lows o (k + 1) xs a (omega arith) b.1)

module _ (o k : ℕ) (xs : List ℕ) (a : o < 256) (l : k + length xs ≤ 256) (b : Bytes xs) where
  pub owner_kinds : every (λ w. eqb (kind w) 2) (owner_words o k xs) ≡ true
  owner_kinds = owner_every (λ w. eqb (kind w) 2) o k xs (λ j q h c. eq-eqb (kind (choice_word o j q)) 2 (kind_choice o j q a (omega arith) c)) b

  pub owner_owners : every (λ w. eqb (high w) o) (owner_words o k xs) ≡ true
  owner_owners = owner_every (λ w. eqb (high w) o) o k xs (λ j q h c. eq-eqb (high (choice_word o j q)) o (high_choice o j q a (omega arith) c)) b

-- The choices of the first n parties.
module _ (ranked : ℕ → List ℕ) (bytes : (p : ℕ) → Bytes (ranked p)) (few : (p : ℕ) → length (ranked p) ≤ 256) where
  pub choice_kinds : (n : ℕ) → n ≤ 256 → every (λ w. eqb (kind w) 2) (choice_words ranked n) ≡ true
  choice_kinds zero h = refl
  choice_kinds (suc n) h =
      every_append (λ w. eqb (kind w) 2) (choice_words ranked n) (owner_words n 0 (ranked n))
      ∙ and_from _ _ (choice_kinds n (omega arith)) (owner_kinds n 0 (ranked n) h (omega (arith, few n)) (bytes n))

  pub choice_owners : (n : ℕ) → n ≤ 256 → every (λ w. ltb (high w) n) (choice_words ranked n) ≡ true
  choice_owners zero h = refl
  choice_owners (suc n) h =
      every_append (λ w. ltb (high w) (suc n)) (choice_words ranked n) (owner_words n 0 (ranked n))
      ∙ and_from _ _
      (every_weaker (λ w. ltb (high w) n) (λ w. ltb (high w) (suc n)) (λ w t. lt-ltb (high w) (suc n) (omega (arith, ltb-true (high w) n t))) (choice_words ranked n) (choice_owners n (omega arith)))
      (every_weaker (λ w. eqb (high w) n) (λ w. ltb (high w) (suc n)) (λ w t. lt-ltb (high w) (suc n) (omega (arith, eqb-true (high w) n t))) (owner_words n 0 (ranked n)) (owner_owners n 0 (ranked n) h (omega (arith, few n)) (bytes n)))

  -- what an owner names in them is what it ranks
  pub choice_lows : (n p : ℕ) → n ≤ 256 → p < n → map low (filter (λ w. eqb (high w) p) (choice_words ranked n)) ≡ ranked p
  choice_lows zero p h l = absurd (omega arith)
  choice_lows (suc n) p h l = ap (map low) (filter-append (λ w. eqb (high w) p) (choice_words ranked n) (owner_words n 0 (ranked n))) ∙ ⊎_elim same (⊎_elim (λ g. below (choice_lows n p (omega arith) g) g) (λ g. absurd (omega arith))) (cases_order p n)
    where
      one : every (λ w. eqb (high w) n) (owner_words n 0 (ranked n)) ≡ true
      one = owner_owners n 0 (ranked n) h (omega (arith, few n)) (bytes n)

      same : p ≡ n → map low (filter (λ w. eqb (high w) p) (choice_words ranked n) ++ filter (λ w. eqb (high w) p) (owner_words n 0 (ranked n))) ≡ ranked p
      same e =
          let before : filter (λ w. eqb (high w) p) (choice_words ranked n) ≡ [] =
          kept_none (λ w. ltb (high w) n) (λ w. eqb (high w) p) (λ w t. ne_eqb (high w) p (λ s. absurd (omega (arith, ltb-true (high w) n t)))) (choice_words ranked n) (choice_owners n (omega arith)) in
          let here : filter (λ w. eqb (high w) p) (owner_words n 0 (ranked n)) ≡ owner_words n 0 (ranked n) =
          kept_all (λ w. eqb (high w) n) (λ w. eqb (high w) p) (λ w t. eq-eqb (high w) p (omega (arith, eqb-true (high w) n t))) (owner_words n 0 (ranked n)) one in
          ap (λ l₁. map low (l₁ ++ filter (λ w. eqb (high w) p) (owner_words n 0 (ranked n)))) before
          ∙ ap (map low) here
          ∙ owner_lows n 0 (ranked n) h (omega (arith, few n)) (bytes n)
          ∙ ap ranked (sym e)

      below : map low (filter (λ w. eqb (high w) p) (choice_words ranked n)) ≡ ranked p → p < n → map low (filter (λ w. eqb (high w) p) (choice_words ranked n) ++ filter (λ w. eqb (high w) p) (owner_words n 0 (ranked n))) ≡ ranked p
      below known g =
          let here : filter (λ w. eqb (high w) p) (owner_words n 0 (ranked n)) ≡ [] =
          kept_none (λ w. eqb (high w) n) (λ w. eqb (high w) p) (λ w t. ne_eqb (high w) p (λ s. absurd (omega (arith, eqb-true (high w) n t)))) (owner_words n 0 (ranked n)) one in
          ap (λ l₁. map low (filter (λ w. eqb (high w) p) (choice_words ranked n) ++ l₁)) here
          ∙ ap (map low) (append-nil (filter (λ w. eqb (high w) p) (choice_words ranked n)))
          ∙ known

-- Turns and pairs.
pub turn_kinds : (ts : List ℕ) → Bytes ts → every (λ w. eqb (kind w) 3) (map turn_word ts) ≡ true
turn_kinds [] b = refl
turn_kinds (t ∷ ts) b = and_from _ _ (eq-eqb (kind (turn_word t)) 3 (kind_turn t b.0)) (turn_kinds ts b.1)

pub turn_lows : (ts : List ℕ) → Bytes ts → map low (map turn_word ts) ≡ ts
turn_lows [] b = refl
turn_lows (t ∷ ts) b = ap (λ x. x ∷ map low (map turn_word ts)) (low_turn t b.0) ∙ ap (λ xs. t ∷ xs) (turn_lows ts b.1)

abbrev pub BytePairs : List (ℕ × ℕ) → Type 0
BytePairs ps = AllByRecursion (λ q. (q.0 < 256) × (q.1 < 256)) ps

pub pair_kinds : (ps : List (ℕ × ℕ)) → BytePairs ps → every (λ w. eqb (kind w) 4) (map pair_word ps) ≡ true
pair_kinds [] b = refl
pair_kinds (q ∷ ps) b = and_from _ _ (eq-eqb (kind (pair_word q)) 4 (kind_pair q b.0.0 b.0.1)) (pair_kinds ps b.1)

pub pair_values : (ps : List (ℕ × ℕ)) → BytePairs ps → map pair_of (map pair_word ps) ≡ ps
pair_values [] b = refl
pair_values (q ∷ ps) b =
    let e : pair_of (pair_word q) ≡ q = λ i. (middle_pair q b.0.0 b.0.1 i, low_pair q b.0.0 b.0.1 i) in
    ap (λ x. x ∷ map pair_of (map pair_word ps)) e ∙ ap (λ xs. q ∷ xs) (pair_values ps b.1)
