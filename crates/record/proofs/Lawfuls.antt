-- The words of a lawful content have no fault.
use Rattle.std.proofs.Common.{◌≡◌, ℕ, zero, suc, ◌+◌, ◌/◌, ◌%◌, ◌<◌, ◌≤◌, Bool, true, false, cond, not, ◌&&◌, ◌||◌, eqb, ltb, leb, List, [], ◌∷◌, ◌++◌, map, length, get_or, take, drop, None, filter, sym, refl, ap, ◌∙◌, subst, ⊎_elim, append_assoc, arith}
use Rattle.std.specs.List.{AllByRecursion}
use Rattle.std.proofs.lemmas.List.{append-nil, length-append, length_push, map-append, take_at, take_more, take-append-le, take-append-drop, get_or_append_left, get_or_at}
use Rattle.std.proofs.lemmas.List.Elements.{filter-append}
use Rattle.std.proofs.ByRecursion.{All-get_or}
use Rattle.std.proofs.lemmas.Bool.{and_parts, and_from, or_parts, lt-ltb, ltb-true, le-leb, leb-true, ne_eqb, eq-eqb, eqb-true, eqb-false, not-true, cases_lt}
use Rattle.record.specs.Refusals.{refuse_if, or_else}
use Rattle.record.specs.Lists.{every, among, Distinct, earliest}
use Rattle.record.specs.Bytes.{lawful_length}
use Rattle.record.specs.Format.{Content, Lawful, Records, Rising, parties, facing, head_word, choice_word, turn_word, pair_word, end_word, owner_words, choice_words, body_words, record_words}
use Rattle.record.specs.Faults.{kind, high, middle, low, number, of_kind, ranked_by, turns_in, pairs_in, pair_of, by_kind, head_within, choice_within, turn_within, pair_within, within, choice_in_order, turn_in_order, pair_in_order, end_in_order, in_order, allowed, fault_at, record_fault}
use Rattle.record.proofs.Lists.{every_push, every_append, every_weaker, every_all, kept_none, none_earliest}
use Rattle.record.proofs.Scanning.{of_kind_push, of_kind_none, ranked_by_push, turns_in_push, pairs_in_push, facing_few}
use Rattle.record.proofs.Passing.{allowed_middle}
use Rattle.record.proofs.Bounds.{allowed_last}
use Rattle.record.proofs.Wording.{kind_head, middle_head, low_head, bits_head, kind_choice, high_choice, middle_choice, low_choice, bits_choice, kind_turn, low_turn, bits_turn, kind_pair, middle_pair, low_pair, bits_pair, kind_end, number_end}
use Rattle.record.proofs.Extracts.{choice_kinds, choice_owners, turn_kinds}
use Rattle.record.proofs.Contents.{few_ranked, ranked_bytes, few_parties, turn_bytes, few_words, only_same, kinds_choices, content_choices, content_ranked}

-- A word keeps every rule after those before it.
abbrev Fine : (s g : ℕ) → List ℕ → ℕ → Type 0
Fine s g before w = (allowed before w false ≡ true) × (within s g w ≡ true) × (in_order before w ≡ true)

-- So does each word of a list, one after the other.
abbrev Clean : (s g : ℕ) → List ℕ → List ℕ → Type 0
Clean s g before [] = Unit {0}
Clean s g before (w ∷ ws) = Fine s g before w × Clean s g (before ++ w ∷ []) ws

clean_append : (s g : ℕ) (before xs ys : List ℕ) → Clean s g before xs → Clean s g (before ++ xs) ys → Clean s g before (xs ++ ys)
clean_append s g before [] ys a b = subst (λ l. Clean s g l ys) (append-nil before) b
clean_append s g before (x ∷ xs) ys a b =
    (a.0, clean_append s g (before ++ x ∷ []) xs ys a.1 (subst (λ l. Clean s g l ys) (sym (append_assoc before (x ∷ []) xs)) b))

clean_at : (s g : ℕ) (before xs : List ℕ) → Clean s g before xs → (k : ℕ) → k < length xs → Fine s g (before ++ take k xs) (get_or xs k 0)
clean_at s g before [] c k h = absurd (omega arith)
clean_at s g before (x ∷ xs) c zero h = subst (λ l. Fine s g l x) (sym (append-nil before)) c.0
clean_at s g before (x ∷ xs) c (suc k) h =
    subst (λ l. Fine s g l (get_or xs k 0)) (append_assoc before (x ∷ []) (take k xs)) (clean_at s g (before ++ x ∷ []) xs c.1 k (omega arith))

-- every word is of a kind up to k
abbrev UpTo : ℕ → List ℕ → Type 0
UpTo k ws = every (λ u. leb (kind u) k) ws ≡ true

upto_push : (k w : ℕ) (ws : List ℕ) → UpTo k ws → kind w ≤ k → UpTo k (ws ++ w ∷ [])
upto_push k w ws u h = every_push (λ v. leb (kind v) k) ws w ∙ and_from _ _ u (le-leb (kind w) k h)

long_push : (ws : List ℕ) (w : ℕ) → 1 ≤ length (ws ++ w ∷ [])
long_push ws w = rw (length_push ws w) (omega arith)

middle_allowed : (k w : ℕ) (ws : List ℕ) → kind w ≡ k → 2 ≤ k → k ≤ 4 → 1 ≤ length ws → UpTo k ws → allowed ws w false ≡ true
middle_allowed k w ws e lo hi l u =
    allowed_middle ws w l ∙ and_from _ _ (le-leb 2 (kind w) (omega arith)) (and_from _ _ (le-leb (kind w) 4 (omega arith)) (subst (λ j. every (λ v. leb (kind v) j) ws ≡ true) (sym e) u))

module _ (s g w : ℕ) (ws : List ℕ) (l : 1 ≤ length ws) where
  fine_choice : kind w ≡ 2 → UpTo 2 ws → choice_within s g w ≡ true → choice_in_order ws w ≡ true → Fine s g ws w
  fine_choice e u a b = (
    middle_allowed 2 w ws e (omega arith) (omega arith) l u,
    ap (λ j. by_kind j (head_within w) (choice_within s g w) (turn_within s g w) (pair_within s g w) true) e ∙ a,
    ap (λ j. by_kind j true (choice_in_order ws w) (turn_in_order ws) (pair_in_order ws w) (end_in_order ws w)) e ∙ b,
  )

  fine_turn : kind w ≡ 3 → UpTo 3 ws → turn_within s g w ≡ true → turn_in_order ws ≡ true → Fine s g ws w
  fine_turn e u a b = (
    middle_allowed 3 w ws e (omega arith) (omega arith) l u,
    ap (λ j. by_kind j (head_within w) (choice_within s g w) (turn_within s g w) (pair_within s g w) true) e ∙ a,
    ap (λ j. by_kind j true (choice_in_order ws w) (turn_in_order ws) (pair_in_order ws w) (end_in_order ws w)) e ∙ b,
  )

  fine_pair : kind w ≡ 4 → UpTo 4 ws → pair_within s g w ≡ true → pair_in_order ws w ≡ true → Fine s g ws w
  fine_pair e u a b = (
    middle_allowed 4 w ws e (omega arith) (omega arith) l u,
    ap (λ j. by_kind j (head_within w) (choice_within s g w) (turn_within s g w) (pair_within s g w) true) e ∙ a,
    ap (λ j. by_kind j true (choice_in_order ws w) (turn_in_order ws) (pair_in_order ws w) (end_in_order ws w)) e ∙ b,
  )

-- a member in the middle of distinct ones is none of those before it
distinct_middle : (xs : List ℕ) (y : ℕ) (ys : List ℕ) → Distinct (xs ++ y ∷ ys) → among y xs ≡ false
distinct_middle [] y ys d = refl
distinct_middle (x ∷ xs) y ys d = or_from' (ne_eqb y x (λ e. absurd (apart xs d.0 e))) (distinct_middle xs y ys d.1)
  where
    or_from' : eqb y x ≡ false → among y xs ≡ false → (eqb y x || among y xs) ≡ false
    or_from' a b = ap (λ t. t || among y xs) a ∙ b

    apart : (zs : List ℕ) → among x (zs ++ y ∷ ys) ≡ false → y ≡ x → ⊥
    apart [] a e = eqb-false x y (or_parts (eqb x y) (among x ys) a).0 (sym e)
    apart (z ∷ zs) a e = apart zs (or_parts (eqb x z) (among x (zs ++ y ∷ ys)) a).1 e

-- One owner's words, after xs ys of its choices.
owner_clean : (s g o : ℕ) (before xs ys : List ℕ) → s ≤ 16 → g ≤ 16 → o < s + g → 1 ≤ length before → UpTo 2 before
    → every (λ v. leb (high v) o) (of_kind 2 before) ≡ true → ranked_by before o ≡ xs → Distinct (xs ++ ys) → AllByRecursion (λ q. q < facing s g o) ys → length xs + length ys ≤ 16
    → Clean s g before (owner_words o (length xs) ys)
owner_clean s g o before xs [] fs fg inside l u owners ranks d few n = tt
owner_clean s g o before xs (y ∷ ys) fs fg inside l u owners ranks d few n = (
  fine_choice s g w before l kw u fits order,
  subst (λ k. Clean s g (before ++ w ∷ []) (owner_words o k ys)) (length_push xs y)
      (owner_clean s g o (before ++ w ∷ []) (xs ++ y ∷ []) ys fs fg inside (long_push before w) (upto_push 2 w before u (omega (arith, kw)))
      (ap (every (λ v. leb (high v) o)) (of_kind_push 2 before w kw) ∙ every_push (λ v. leb (high v) o) (of_kind 2 before) w ∙ and_from _ _ owners (le-leb (high w) o (omega (arith, hw))))
      (ranked_by_push before w o kw hw ∙ ap (λ t. t ++ low w ∷ []) ranks ∙ ap (λ x. xs ++ x ∷ []) lw)
      (subst Distinct (sym (append_assoc xs (y ∷ []) ys)) d)
      few.1
      (rw (length_push xs y) (omega arith))),
)
  where
    small : y < 256
    small = let h = few.0 in omega (arith, facing_few s g o fs fg)

    w : ℕ
    w = choice_word o (length xs) y

    kw : kind w ≡ 2
    kw = kind_choice o (length xs) y (omega arith) (omega arith) small

    hw : high w ≡ o
    hw = high_choice o (length xs) y (omega arith) (omega arith) small

    lw : low w ≡ y
    lw = low_choice o (length xs) y (omega arith) (omega arith) small

    mw : middle w ≡ length xs
    mw = middle_choice o (length xs) y (omega arith) (omega arith) small

    fits : choice_within s g w ≡ true
    fits = and_from _ _ (eq-eqb (w / 0x1000000 % 16) 0 (bits_choice o (length xs) y (omega arith) (omega arith) small))
        (and_from _ _ (lt-ltb (high w) (s + g) (omega (arith, hw))) (ap (λ p. ltb (low w) (facing s g p)) hw ∙ ap (λ q. ltb q (facing s g o)) lw ∙ lt-ltb y (facing s g o) few.0))

    order : choice_in_order before w ≡ true
    order = ap (λ p. every (λ v. leb (high v) p) (of_kind 2 before) && (eqb (middle w) (length (ranked_by before p)) && not (among (low w) (ranked_by before p)))) hw
        ∙ and_from _ _ owners
        (ap (λ t. eqb (middle w) (length t) && not (among (low w) t)) ranks
        ∙ and_from _ _ (eq-eqb (middle w) (length xs) mw) (ap not (ap (λ q. among q xs) lw ∙ distinct_middle xs y ys d)))

turns_clean : (s g : ℕ) (before ts : List ℕ) → s ≤ 16 → g ≤ 16 → 1 ≤ length before → UpTo 3 before → AllByRecursion (λ p. p < s + g) ts → length (turns_in before) + length ts ≤ 7600
    → Clean s g before (map turn_word ts)
turns_clean s g before [] fs fg l u a n = tt
turns_clean s g before (t ∷ ts) fs fg l u a n = (
  fine_turn s g w before l kw u fits (lt-ltb (length (turns_in before)) 7600 (omega arith)),
  turns_clean s g (before ++ w ∷ []) ts fs fg (long_push before w) (upto_push 3 w before u (omega (arith, kw))) a.1
      (omega (arith, ap length (turns_in_push before w kw), length_push (turns_in before) (low w))),
)
  where
    small : t < 256
    small = let h = a.0 in omega arith

    w : ℕ
    w = turn_word t

    kw : kind w ≡ 3
    kw = kind_turn t small

    fits : turn_within s g w ≡ true
    fits = and_from _ _ (eq-eqb (w / 256 % 0x100000) 0 (bits_turn t small)) (ap (λ p. ltb p (s + g)) (low_turn t small) ∙ lt-ltb t (s + g) a.0)

-- in rising numbers each is above all before it
rising_middle : (m : ℕ) (xs ys : List (ℕ × ℕ)) (y : ℕ × ℕ) → m ≡ y.0 → Rising (map (λ q. q.0) (xs ++ y ∷ ys)) → every (λ q. ltb q.0 m) xs ≡ true
rising_middle m [] ys y e r = refl
rising_middle m (x ∷ xs) ys y e r = and_from _ _ (lt-ltb x.0 m (above xs r.0)) (rising_middle m xs ys y e r.1)
  where
    above : (zs : List (ℕ × ℕ)) → AllByRecursion (λ z. x.0 < z) (map (λ q. q.0) (zs ++ y ∷ ys)) → x.0 < m
    above [] a = let h = a.0 in omega arith
    above (z ∷ zs) a = above zs a.1

pairs_clean : (s g : ℕ) (before : List ℕ) (xs ps : List (ℕ × ℕ)) → s ≤ 16 → g ≤ 16 → 1 ≤ length before → UpTo 4 before → pairs_in before ≡ xs
    → AllByRecursion (λ q. q.0 < s) ps → AllByRecursion (λ q. q.1 < g) ps → Rising (map (λ q. q.0) (xs ++ ps)) → Distinct (map (λ q. q.1) (xs ++ ps))
    → Clean s g before (map pair_word ps)
pairs_clean s g before xs [] fs fg l u known a b r d = tt
pairs_clean s g before xs (y ∷ ps) fs fg l u known a b r d = (
  fine_pair s g w before l kw u fits order,
  pairs_clean s g (before ++ w ∷ []) (xs ++ y ∷ []) ps fs fg (long_push before w) (upto_push 4 w before u (omega (arith, kw)))
      (pairs_in_push before w kw ∙ ap (λ t. t ++ pair_of w ∷ []) known ∙ ap (λ q. xs ++ q ∷ []) back)
      a.1 b.1
      (subst (λ t. Rising (map (λ q. q.0) t)) (sym (append_assoc xs (y ∷ []) ps)) r)
      (subst (λ t. Distinct (map (λ q. q.1) t)) (sym (append_assoc xs (y ∷ []) ps)) d),
)
  where
    small : y.0 < 256
    small = let h = a.0 in omega arith

    small' : y.1 < 256
    small' = let h = b.0 in omega arith

    w : ℕ
    w = pair_word y

    kw : kind w ≡ 4
    kw = kind_pair y small small'

    mw : middle w ≡ y.0
    mw = middle_pair y small small'

    lw : low w ≡ y.1
    lw = low_pair y small small'

    back : pair_of w ≡ y
    back = λ i. (mw i, lw i)

    fits : pair_within s g w ≡ true
    fits = and_from _ _ (eq-eqb (w / 65536 % 4096) 0 (bits_pair y small small'))
        (and_from _ _ (ap (λ p. ltb p s) mw ∙ lt-ltb y.0 s a.0) (ap (λ p. ltb p g) lw ∙ lt-ltb y.1 g b.0))

    lanes : Distinct (map (λ q. q.1) xs ++ y.1 ∷ map (λ q. q.1) ps)
    lanes = subst Distinct (map-append (λ q. q.1) xs (y ∷ ps)) d

    order : pair_in_order before w ≡ true
    order = ap (λ t. every (λ q. ltb q.0 (middle w)) t && not (among (low w) (map (λ q. q.1) t))) known
        ∙ and_from _ _ (rising_middle (middle w) xs ps y mw r)
        (ap not (ap (λ q. among q (map (λ q. q.1) xs)) lw ∙ distinct_middle (map (λ q. q.1) xs) y.1 (map (λ q. q.1) ps) lanes))

module _ (c : Content) (law : Lawful c) where
  head_kind : kind (head_word c.streams c.lanes) ≡ 1
  head_kind = kind_head c.streams c.lanes (omega (arith, law.few_streams)) (omega (arith, law.few_lanes))

  few256 : (p : ℕ) → length (c.ranked p) ≤ 256
  few256 p = omega (arith, few_ranked c law p)

  -- the head and words of kinds up to k
  upto_after : (k : ℕ) (xs : List ℕ) → 1 ≤ k → every (λ u. leb (kind u) k) xs ≡ true → UpTo k (head_word c.streams c.lanes ∷ xs)
  upto_after k xs h e = and_from _ _ (le-leb (kind (head_word c.streams c.lanes)) k (omega (arith, head_kind))) e

  choices_upto : (k n : ℕ) → 2 ≤ k → n ≤ 256 → every (λ u. leb (kind u) k) (choice_words c.ranked n) ≡ true
  choices_upto k n h m = every_weaker (λ w. eqb (kind w) 2) (λ w. leb (kind w) k) (λ w t. le-leb (kind w) k (omega (arith, eqb-true (kind w) 2 t))) (choice_words c.ranked n) (choice_kinds c.ranked (ranked_bytes c law) few256 n m)

  turns_upto : (k : ℕ) → 3 ≤ k → every (λ u. leb (kind u) k) (map turn_word c.turns) ≡ true
  turns_upto k h = every_weaker (λ w. eqb (kind w) 3) (λ w. leb (kind w) k) (λ w t. le-leb (kind w) k (omega (arith, eqb-true (kind w) 3 t))) (map turn_word c.turns) (turn_kinds c.turns (turn_bytes c law))

  choices_clean : (n : ℕ) → n ≤ parties c → Clean c.streams c.lanes (head_word c.streams c.lanes ∷ []) (choice_words c.ranked n)
  choices_clean zero h = tt
  choices_clean (suc n) h =
      clean_append c.streams c.lanes (head_word c.streams c.lanes ∷ []) (choice_words c.ranked n) (owner_words n 0 (c.ranked n)) (choices_clean n (omega arith))
      (owner_clean c.streams c.lanes n before [] (c.ranked n) law.few_streams law.few_lanes (omega arith) (omega arith)
      (upto_after 2 (choice_words c.ranked n) (omega arith) (choices_upto 2 n (omega arith) (omega (arith, few_parties c law))))
      (ap (every (λ v. leb (high v) n)) those ∙ every_weaker (λ v. ltb (high v) n) (λ v. leb (high v) n) (λ v t. le-leb (high v) n (omega (arith, ltb-true (high v) n t))) (choice_words c.ranked n) owners)
      (ap (λ l. map low (filter (λ w. eqb (high w) n) l)) those
      ∙ ap (map low) (kept_none (λ w. ltb (high w) n) (λ w. eqb (high w) n) (λ w t. ne_eqb (high w) n (λ e. absurd (omega (arith, ltb-true (high w) n t)))) (choice_words c.ranked n) owners))
      (law.ranks_nobody_twice n)
      (law.ranks_the_other_side n)
      (omega (arith, few_ranked c law n)))
    where
      before : List ℕ
      before = head_word c.streams c.lanes ∷ choice_words c.ranked n

      owners : every (λ w. ltb (high w) n) (choice_words c.ranked n) ≡ true
      owners = choice_owners c.ranked (ranked_bytes c law) few256 n (omega (arith, few_parties c law))

      those : of_kind 2 (head_word c.streams c.lanes ∷ choice_words c.ranked n) ≡ choice_words c.ranked n
      those = ap (λ b. cond b (head_word c.streams c.lanes ∷ of_kind 2 (choice_words c.ranked n)) (of_kind 2 (choice_words c.ranked n))) (ne_eqb (kind (head_word c.streams c.lanes)) 2 (λ e. absurd (omega (arith, head_kind))))
          ∙ only_same 2 (choice_words c.ranked n) (choice_kinds c.ranked (ranked_bytes c law) few256 n (omega (arith, few_parties c law)))

  -- all words but the head and the end
  abbrev rest : List ℕ
  rest = choice_words c.ranked (parties c) ++ (map turn_word c.turns ++ map pair_word c.pairs)

  below_of : (k : ℕ) (xs : List ℕ) → UpTo k xs → every (λ w. ltb (kind w) (k + 1)) xs ≡ true
  below_of k xs u = every_weaker (λ w. leb (kind w) k) (λ w. ltb (kind w) (k + 1)) (λ w t. lt-ltb (kind w) (k + 1) (omega (arith, leb-true (kind w) k t))) xs u

  rest_clean : Clean c.streams c.lanes (head_word c.streams c.lanes ∷ []) rest
  rest_clean =
      clean_append c.streams c.lanes (h ∷ []) cw (map turn_word c.turns ++ map pair_word c.pairs) (choices_clean (parties c) (omega arith))
      (clean_append c.streams c.lanes (h ∷ cw) (map turn_word c.turns) (map pair_word c.pairs)
      (turns_clean c.streams c.lanes (h ∷ cw) c.turns law.few_streams law.few_lanes (omega arith) (upto 3 (omega arith)) law.turns_of_parties
      (omega (arith, ap (λ l. length (map low l)) (of_kind_none 3 3 (h ∷ cw) (omega arith) (below_of 2 (h ∷ cw) (upto 2 (omega arith)))), law.few_turns)))
      (pairs_clean c.streams c.lanes ((h ∷ cw) ++ map turn_word c.turns) [] c.pairs law.few_streams law.few_lanes (omega arith) (both 4 (omega arith))
      (ap (map pair_of) (of_kind_none 4 4 ((h ∷ cw) ++ map turn_word c.turns) (omega arith) (below_of 3 ((h ∷ cw) ++ map turn_word c.turns) (both 3 (omega arith)))))
      law.pairs_of_streams law.pairs_of_lanes law.streams_rise law.no_lane_twice))
    where
      h : ℕ
      h = head_word c.streams c.lanes

      cw : List ℕ
      cw = choice_words c.ranked (parties c)

      upto : (k : ℕ) → 2 ≤ k → UpTo k (h ∷ cw)
      upto k l = upto_after k cw (omega arith) (choices_upto k (parties c) l (omega (arith, few_parties c law)))

      both : (k : ℕ) → 3 ≤ k → UpTo k ((h ∷ cw) ++ map turn_word c.turns)
      both k l = every_append (λ u. leb (kind u) k) (h ∷ cw) (map turn_word c.turns) ∙ and_from _ _ (upto k (omega arith)) (turns_upto k l)

  no_fault : (a b d : Bool) (p q r : ℕ × ℕ) → a ≡ true → b ≡ true → d ≡ true → or_else (refuse_if (not a) p) (or_else (refuse_if (not b) q) (refuse_if (not d) r)) ≡ None
  no_fault a b d p q r ea eb ed =
      ap (λ t. or_else (refuse_if (not t) p) (or_else (refuse_if (not b) q) (refuse_if (not d) r))) ea
      ∙ ap (λ t. or_else (refuse_if (not t) q) (refuse_if (not d) r)) eb
      ∙ ap (λ t. refuse_if (not t) r) ed

  -- a word of the record in its place, by the words before it
  no_fault_at : (ws : List ℕ) (i : ℕ) (before : List ℕ) (w : ℕ) (last : Bool) → middle (get_or ws 0 0) ≡ c.streams → low (get_or ws 0 0) ≡ c.lanes
      → take i ws ≡ before → get_or ws i 0 ≡ w → eqb (i + 1) (length ws) ≡ last
      → allowed before w last ≡ true → within c.streams c.lanes w ≡ true → in_order before w ≡ true → fault_at ws i ≡ None
  no_fault_at ws i before w last es eg eb ew el a b d =
      no_fault _ _ _ (2, i) (3, i) (4, i)
      (ap (λ t. allowed t (get_or ws i 0) (eqb (i + 1) (length ws))) eb ∙ ap (λ t. allowed before t (eqb (i + 1) (length ws))) ew ∙ ap (allowed before w) el ∙ a)
      (ap (λ t. within t (low (get_or ws 0 0)) (get_or ws i 0)) es ∙ ap (λ t. within c.streams t (get_or ws i 0)) eg ∙ ap (within c.streams c.lanes) ew ∙ b)
      (ap (λ t. in_order t (get_or ws i 0)) eb ∙ ap (in_order before) ew ∙ d)

  head_fits : head_within (head_word c.streams c.lanes) ≡ true
  head_fits =
      and_from _ _ (eq-eqb (head_word c.streams c.lanes / 65536 % 4096) 0 (bits_head c.streams c.lanes (omega (arith, law.few_streams)) (omega (arith, law.few_lanes))))
      (ap (λ m. leb 1 m && (leb m 16 && (leb 1 (low (head_word c.streams c.lanes)) && leb (low (head_word c.streams c.lanes)) 16))) ms
      ∙ and_from _ _ (le-leb 1 c.streams law.some_stream) (and_from _ _ (le-leb c.streams 16 law.few_streams)
      (ap (λ m. leb 1 m && leb m 16) ls ∙ and_from _ _ (le-leb 1 c.lanes law.some_lane) (le-leb c.lanes 16 law.few_lanes))))
    where
      ms : middle (head_word c.streams c.lanes) ≡ c.streams
      ms = middle_head c.streams c.lanes (omega (arith, law.few_streams)) (omega (arith, law.few_lanes))

      ls : low (head_word c.streams c.lanes) ≡ c.lanes
      ls = low_head c.streams c.lanes (omega (arith, law.few_streams)) (omega (arith, law.few_lanes))

  content_clear : (i : ℕ) → i < length (record_words c) → fault_at (record_words c) i ≡ None
  content_clear zero h =
      no_fault_at (record_words c) 0 [] hd (eqb 1 (length (record_words c))) ms ls refl refl refl (eq-eqb (kind hd) 1 head_kind)
      (ap (λ j. by_kind j (head_within hd) (choice_within c.streams c.lanes hd) (turn_within c.streams c.lanes hd) (pair_within c.streams c.lanes hd) true) head_kind ∙ head_fits)
      (ap (λ j. by_kind j true (choice_in_order [] hd) (turn_in_order []) (pair_in_order [] hd) (end_in_order [] hd)) head_kind)
    where
      hd : ℕ
      hd = head_word c.streams c.lanes

      ms : middle hd ≡ c.streams
      ms = middle_head c.streams c.lanes (omega (arith, law.few_streams)) (omega (arith, law.few_lanes))

      ls : low hd ≡ c.lanes
      ls = low_head c.streams c.lanes (omega (arith, law.few_streams)) (omega (arith, law.few_lanes))
  content_clear (suc k) h = ⊎_elim inner final (cases_lt k (length rest))
    where
      hd : ℕ
      hd = head_word c.streams c.lanes

      e : ℕ
      e = end_word (length (body_words c))

      ms : middle hd ≡ c.streams
      ms = middle_head c.streams c.lanes (omega (arith, law.few_streams)) (omega (arith, law.few_lanes))

      ls : low hd ≡ c.lanes
      ls = low_head c.streams c.lanes (omega (arith, law.few_streams)) (omega (arith, law.few_lanes))

      total : length (record_words c) ≡ length rest + 2
      total = omega (arith, length_push rest e)

      inner : k < length rest → fault_at (record_words c) (suc k) ≡ None
      inner l =
          let f = clean_at c.streams c.lanes (hd ∷ []) rest rest_clean k l in
          no_fault_at (record_words c) (suc k) (hd ∷ take k rest) (get_or rest k 0) false ms ls
          (ap (λ t. hd ∷ t) (take-append-le k rest (e ∷ []) (omega arith)))
          (get_or_append_left rest (e ∷ []) 0 k l)
          (ne_eqb (suc k + 1) (length (record_words c)) (λ s. absurd (omega (arith, total))))
          f.0 f.1 f.2

      final : length rest ≤ k → fault_at (record_words c) (suc k) ≡ None
      final l =
          let at : k ≡ length rest = omega (arith, total) in
          let ke : kind e ≡ 5 = kind_end (length (body_words c)) (omega (arith, few_words c law)) in
          no_fault_at (record_words c) (suc k) (hd ∷ rest) e true ms ls
          (ap (λ t. hd ∷ t) (take_at rest (e ∷ []) k (sym at)))
          (get_or_at rest e [] 0 k (sym at))
          (eq-eqb (suc k + 1) (length (record_words c)) (omega (arith, total)))
          (allowed_last (hd ∷ rest) e (omega arith) ∙ eq-eqb (kind e) 5 ke)
          (ap (λ j. by_kind j (head_within e) (choice_within c.streams c.lanes e) (turn_within c.streams c.lanes e) (pair_within c.streams c.lanes e) true) ke)
          (ap (λ j. by_kind j true (choice_in_order (hd ∷ rest) e) (turn_in_order (hd ∷ rest)) (pair_in_order (hd ∷ rest) e) (end_in_order (hd ∷ rest) e)) ke
          ∙ eq-eqb (number e) (length (body_words c)) (number_end (length (body_words c)) (omega (arith, few_words c law))))

  content_length : lawful_length (length (record_words c)) ≡ true
  content_length =
      let n = length (record_words c) in
      let t = length_push (body_words c) (end_word (length (body_words c))) in
      and_from _ _ (le-leb 2 n (omega arith)) (le-leb n 8192 (omega (arith, few_words c law)))

-- a list of words that is the record of a content is not refused
pub record_faultless : (ws : List ℕ) (c : Content) → Records ws c → record_fault ws ≡ None
record_faultless ws c r =
    ap record_fault r.words
    ∙ ap (λ b. or_else (refuse_if (not b) (1, 0)) (earliest (fault_at (record_words c)) (length (record_words c)))) (content_length c r.lawful)
    ∙ none_earliest (fault_at (record_words c)) (length (record_words c)) (content_clear c r.lawful)

-- What stands in the choices of a lawful content.
module _ (c : Content) (law : Lawful c) where
  abbrev cw : List ℕ
  cw = choice_words c.ranked (parties c)

  -- whom a party ranks by them
  pub choices_ranked : (p : ℕ) → ranked_by (choice_words c.ranked (parties c)) p ≡ c.ranked p
  choices_ranked p =
      ap (λ l. map low (filter (λ w. eqb (high w) p) l)) (only_same 2 cw (kinds_choices c law) ∙ sym (content_choices c law))
      ∙ content_ranked c law p

  after_head : (k p : ℕ) → ranked_by (head_word c.streams c.lanes ∷ take k cw) p ≡ ranked_by (take k cw) p
  after_head k p =
      ap (λ b. map low (filter (λ w. eqb (high w) p) (cond b (head_word c.streams c.lanes ∷ of_kind 2 (take k cw)) (of_kind 2 (take k cw)))))
      (ne_eqb (kind (head_word c.streams c.lanes)) 2 (λ e. absurd (omega (arith, head_kind c law))))

  module _ (k : ℕ) (h : k < length (choice_words c.ranked (parties c))) where
    abbrev w : ℕ
    w = get_or (choice_words c.ranked (parties c)) k 0

    pub choice_kind : kind (get_or (choice_words c.ranked (parties c)) k 0) ≡ 2
    choice_kind = eqb-true (kind w) 2 (All-get_or (λ v. eqb (kind v) 2 ≡ true) cw k 0 h (every_all (λ v. eqb (kind v) 2) cw (kinds_choices c law)))

    fine : Fine c.streams c.lanes (head_word c.streams c.lanes ∷ take k cw) w
    fine = clean_at c.streams c.lanes (head_word c.streams c.lanes ∷ []) cw (choices_clean c law (parties c) (omega arith)) k h

    inside : (ltb (high w) (c.streams + c.lanes) ≡ true) × (ltb (low w) (facing c.streams c.lanes (high w)) ≡ true)
    inside =
        let t : choice_within c.streams c.lanes w ≡ true = ap (λ j. by_kind j (head_within w) (choice_within c.streams c.lanes w) (turn_within c.streams c.lanes w) (pair_within c.streams c.lanes w) true) (sym choice_kind) ∙ fine.1 in
        and_parts (ltb (high w) (c.streams + c.lanes)) (ltb (low w) (facing c.streams c.lanes (high w))) (and_parts (eqb (w / 0x1000000 % 16) 0) (ltb (high w) (c.streams + c.lanes) && ltb (low w) (facing c.streams c.lanes (high w))) t).1

    pub choice_owner : high (get_or (choice_words c.ranked (parties c)) k 0) < 32
    choice_owner = omega (arith, ltb-true (high w) (c.streams + c.lanes) inside.0, few_parties c law)

    pub choice_member : low (get_or (choice_words c.ranked (parties c)) k 0) < 16
    choice_member = omega (arith, ltb-true (low w) (facing c.streams c.lanes (high w)) inside.1, facing_few c.streams c.lanes (high w) law.few_streams law.few_lanes)

    ordered : (eqb (middle w) (length (ranked_by (take k cw) (high w))) ≡ true) × (not (among (low w) (ranked_by (take k cw) (high w))) ≡ true)
    ordered =
        let before = head_word c.streams c.lanes ∷ take k cw in
        let t : choice_in_order before w ≡ true = ap (λ j. by_kind j true (choice_in_order before w) (turn_in_order before) (pair_in_order before w) (end_in_order before w)) (sym choice_kind) ∙ fine.2 in
        let p = and_parts (every (λ v. leb (high v) (high w)) (of_kind 2 before)) (eqb (middle w) (length (ranked_by before (high w))) && not (among (low w) (ranked_by before (high w)))) t in
        and_parts (eqb (middle w) (length (ranked_by (take k cw) (high w)))) (not (among (low w) (ranked_by (take k cw) (high w))))
        (ap (λ l. eqb (middle w) (length l) && not (among (low w) l)) (sym (after_head k (high w))) ∙ p.1)

    pub choice_place : middle (get_or (choice_words c.ranked (parties c)) k 0) ≡ length (ranked_by (take k (choice_words c.ranked (parties c))) (high (get_or (choice_words c.ranked (parties c)) k 0)))
    choice_place = eqb-true (middle w) (length (ranked_by (take k cw) (high w))) ordered.0

    pub choice_new : among (low (get_or (choice_words c.ranked (parties c)) k 0)) (ranked_by (take k (choice_words c.ranked (parties c))) (high (get_or (choice_words c.ranked (parties c)) k 0))) ≡ false
    choice_new = not-true (among (low w) (ranked_by (take k cw) (high w))) ordered.1

    -- an owner has at most 16 choices, so the place of each is below 16
    pub choice_few : middle (get_or (choice_words c.ranked (parties c)) k 0) < 16
    choice_few =
        let o = high w in
        let front = ap length (ranked_by_push (take k cw) w o choice_kind refl) in
        let whole : ranked_by cw o ≡ ranked_by (take (k + 1) cw) o ++ ranked_by (drop (k + 1) cw) o =
        ap (λ l. ranked_by l o) (sym (take-append-drop (k + 1) cw)) ∙ ranked_append (take (k + 1) cw) (drop (k + 1) cw) o in
        omega (
          arith,
          choice_place,
          few_ranked c law o,
          ap length (choices_ranked o),
          ap length whole,
          length-append (ranked_by (take (k + 1) cw) o) (ranked_by (drop (k + 1) cw) o),
          ap (λ l. length (ranked_by l o)) (take_more cw k 0 h),
          front,
          length_push (ranked_by (take k cw) o) (low w),
        )
      where
        ranked_append : (xs ys : List ℕ) (p : ℕ) → ranked_by (xs ++ ys) p ≡ ranked_by xs p ++ ranked_by ys p
        ranked_append xs ys p =
            ap (λ l. map low (filter (λ v. eqb (high v) p) l)) (filter-append (λ v. eqb (kind v) 2) xs ys)
            ∙ ap (map low) (filter-append (λ v. eqb (high v) p) (of_kind 2 xs) (of_kind 2 ys))
            ∙ map-append low (filter (λ v. eqb (high v) p) (of_kind 2 xs)) (filter (λ v. eqb (high v) p) (of_kind 2 ys))
