-- The words of a content give the content back.
use Rattle.std.proofs.Common.{◌≡◌, ℕ, zero, suc, ◌+◌, ◌*◌, ◌<◌, ◌≤◌, true, false, cond, ◌||◌, eqb, ltb, List, [], ◌∷◌, ◌++◌, map, length, get_or, filter, sym, refl, ap, ◌∙◌, ⊎_elim, arith}
use Rattle.std.specs.List.{AllByRecursion}
use Rattle.std.proofs.lemmas.List.Elements.{filter-append}
use Rattle.std.proofs.ByRecursion.{All-weaker}
use Rattle.std.proofs.lemmas.List.{append-nil, length-append, length-map}
use Rattle.std.proofs.lemmas.Bool.{ne_eqb, eqb-true, ltb-true, cases_lt}
use Rattle.std.proofs.lemmas.Bool.Decides.{nat_tests}
use Rattle.record.specs.Lists.{every, among, Distinct}
use Rattle.record.specs.Format.{Content, Lawful, Records, Rising, parties, facing, head_word, turn_word, pair_word, end_word, owner_words, choice_words, body_words, record_words}
use Rattle.record.specs.Faults.{kind, high, middle, low, of_kind, ranked_by, turns_in, pairs_in, pair_of}
use Rattle.record.proofs.Lists.{kept_none, kept_all, few_distinct}
use Rattle.record.proofs.Scanning.{facing_few}
use Rattle.record.proofs.Wording.{kind_head, middle_head, low_head, kind_end}
use Rattle.record.proofs.Extracts.{Bytes, BytePairs, choice_kinds, choice_owners, choice_lows, turn_kinds, turn_lows, pair_kinds, pair_values}

-- Words all of one kind are the words of that kind, and of no other.
pub only_same : (k : ℕ) (xs : List ℕ) → every (λ w. eqb (kind w) k) xs ≡ true → of_kind k xs ≡ xs
only_same k xs e = kept_all (λ w. eqb (kind w) k) (λ w. eqb (kind w) k) (λ w t. t) xs e

pub only_other : (k j : ℕ) (xs : List ℕ) → (j ≡ k → ⊥) → every (λ w. eqb (kind w) j) xs ≡ true → of_kind k xs ≡ []
only_other k j xs n e = kept_none (λ w. eqb (kind w) j) (λ w. eqb (kind w) k) (λ w t. ne_eqb (kind w) k (λ s. n (sym (eqb-true (kind w) j t) ∙ s))) xs e

-- A head, words of kinds 2, 3 and 4, and an end: the words of each kind are its part.
module _ (h e : ℕ) (cs ts ps : List ℕ) (kh : kind h ≡ 1) (kc : every (λ w. eqb (kind w) 2) cs ≡ true) (kt : every (λ w. eqb (kind w) 3) ts ≡ true) (kp : every (λ w. eqb (kind w) 4) ps ≡ true) (ke : kind e ≡ 5) where
  one_other : (k j w : ℕ) → kind w ≡ j → (j ≡ k → ⊥) → of_kind k (w ∷ []) ≡ []
  one_other k j w s n = ap (λ b. cond b (w ∷ []) []) (ne_eqb (kind w) k (λ t. n (sym s ∙ t)))

  of_all : (k : ℕ) (xs ys zs : List ℕ) → (1 ≡ k → ⊥) → (5 ≡ k → ⊥) → of_kind k cs ≡ xs → of_kind k ts ≡ ys → of_kind k ps ≡ zs → of_kind k (h ∷ (cs ++ (ts ++ ps)) ++ e ∷ []) ≡ xs ++ (ys ++ zs)
  of_all k xs ys zs n1 n5 a b c =
      filter-append (λ w. eqb (kind w) k) (h ∷ []) ((cs ++ (ts ++ ps)) ++ e ∷ [])
      ∙ ap (λ l. l ++ of_kind k ((cs ++ (ts ++ ps)) ++ e ∷ [])) (one_other k 1 h kh n1)
      ∙ filter-append (λ w. eqb (kind w) k) (cs ++ (ts ++ ps)) (e ∷ [])
      ∙ ap (λ l. of_kind k (cs ++ (ts ++ ps)) ++ l) (one_other k 5 e ke n5)
      ∙ append-nil (of_kind k (cs ++ (ts ++ ps)))
      ∙ filter-append (λ w. eqb (kind w) k) cs (ts ++ ps)
      ∙ ap (λ l. l ++ of_kind k (ts ++ ps)) a
      ∙ ap (λ l. xs ++ l) (filter-append (λ w. eqb (kind w) k) ts ps ∙ ap (λ l. l ++ of_kind k ps) b ∙ ap (λ l. ys ++ l) c)

  pub choices_of : of_kind 2 (h ∷ (cs ++ (ts ++ ps)) ++ e ∷ []) ≡ cs
  choices_of = of_all 2 cs [] [] (λ s. absurd (omega arith)) (λ s. absurd (omega arith)) (only_same 2 cs kc) (only_other 2 3 ts (λ s. absurd (omega arith)) kt) (only_other 2 4 ps (λ s. absurd (omega arith)) kp) ∙ append-nil cs

  pub turns_of : of_kind 3 (h ∷ (cs ++ (ts ++ ps)) ++ e ∷ []) ≡ ts
  turns_of = of_all 3 [] ts [] (λ s. absurd (omega arith)) (λ s. absurd (omega arith)) (only_other 3 2 cs (λ s. absurd (omega arith)) kc) (only_same 3 ts kt) (only_other 3 4 ps (λ s. absurd (omega arith)) kp) ∙ append-nil ts

  pub pairs_of : of_kind 4 (h ∷ (cs ++ (ts ++ ps)) ++ e ∷ []) ≡ ps
  pairs_of = of_all 4 [] [] ps (λ s. absurd (omega arith)) (λ s. absurd (omega arith)) (only_other 4 2 cs (λ s. absurd (omega arith)) kc) (only_other 4 3 ts (λ s. absurd (omega arith)) kt) (only_same 4 ps kp)

-- What a lawful content's numbers are.
rising_distinct : (xs : List ℕ) → Rising xs → Distinct xs
rising_distinct [] r = tt
rising_distinct (x ∷ xs) r = (absent x xs r.0, rising_distinct xs r.1)
  where
    absent : (y : ℕ) (ys : List ℕ) → AllByRecursion (λ z. y < z) ys → among y ys ≡ false
    absent y [] a = refl
    absent y (z ∷ zs) a = let h = a.0 in ap (λ b. b || among y zs) (ne_eqb y z (λ s. absurd (omega arith))) ∙ absent y zs a.1

module _ (c : Content) (law : Lawful c) where
  pub few_ranked : (p : ℕ) → length (c.ranked p) ≤ 16
  few_ranked p = few_distinct 16 (c.ranked p) (law.ranks_nobody_twice p) (All-weaker (λ q. q < facing c.streams c.lanes p) (λ q. q < 16) (λ q h. omega (arith, facing_few c.streams c.lanes p law.few_streams law.few_lanes)) (c.ranked p) (law.ranks_the_other_side p))

  pub ranked_bytes : (p : ℕ) → Bytes (c.ranked p)
  ranked_bytes p = All-weaker (λ q. q < facing c.streams c.lanes p) (λ q. q < 256) (λ q h. omega (arith, facing_few c.streams c.lanes p law.few_streams law.few_lanes)) (c.ranked p) (law.ranks_the_other_side p)

  pub few_parties : parties c ≤ 32
  few_parties = omega (arith, law.few_streams, law.few_lanes)

  pub turn_bytes : Bytes c.turns
  turn_bytes = All-weaker (λ p. p < parties c) (λ p. p < 256) (λ p h. omega (arith, few_parties)) c.turns law.turns_of_parties

  pub pair_bytes : BytePairs c.pairs
  pair_bytes = both c.pairs law.pairs_of_streams law.pairs_of_lanes
    where
      both : (ps : List (ℕ × ℕ)) → AllByRecursion (λ q. q.0 < c.streams) ps → AllByRecursion (λ q. q.1 < c.lanes) ps → BytePairs ps
      both [] a b = tt
      both (q ∷ ps) a b = let h = a.0 in let k = b.0 in ((omega (arith, law.few_streams), omega (arith, law.few_lanes)), both ps a.1 b.1)

  pub few_pairs : length c.pairs ≤ 16
  few_pairs =
      let d = few_distinct 16 (map (λ q. q.0) c.pairs) (rising_distinct (map (λ q. q.0) c.pairs) law.streams_rise) (firsts c.pairs law.pairs_of_streams) in
      omega (arith, length-map c.pairs (λ q. q.0))
    where
      firsts : (ps : List (ℕ × ℕ)) → AllByRecursion (λ q. q.0 < c.streams) ps → AllByRecursion (λ x. x < 16) (map (λ q. q.0) ps)
      firsts [] a = tt
      firsts (q ∷ ps) a = let h = a.0 in (omega (arith, law.few_streams), firsts ps a.1)

  few256 : (p : ℕ) → length (c.ranked p) ≤ 256
  few256 p = omega (arith, few_ranked p)

  owner_few : (o k : ℕ) (xs : List ℕ) → length (owner_words o k xs) ≡ length xs
  owner_few o k [] = refl
  owner_few o k (x ∷ xs) = ap suc (owner_few o (k + 1) xs)

  few_choices : (n : ℕ) → length (choice_words c.ranked n) ≤ 16 * n
  few_choices zero = omega arith
  few_choices (suc n) = omega (arith, length-append (choice_words c.ranked n) (owner_words n 0 (c.ranked n)), few_choices n, owner_few n 0 (c.ranked n), few_ranked n)

  -- a content's record has at most 8,130 words
  pub few_words : length (body_words c) ≤ 8129
  few_words =
      omega (
        arith,
        few_choices (parties c),
        few_parties,
        law.few_turns,
        few_pairs,
        length-append (choice_words c.ranked (parties c)) (map turn_word c.turns ++ map pair_word c.pairs),
        length-append (map turn_word c.turns) (map pair_word c.pairs),
        length-map c.turns turn_word,
        length-map c.pairs pair_word,
      )

  kh : kind (head_word c.streams c.lanes) ≡ 1
  kh = kind_head c.streams c.lanes (omega (arith, law.few_streams)) (omega (arith, law.few_lanes))

  pub kinds_choices : every (λ w. eqb (kind w) 2) (choice_words c.ranked (parties c)) ≡ true
  kinds_choices = choice_kinds c.ranked ranked_bytes few256 (parties c) (omega (arith, few_parties))

  pub content_choices : of_kind 2 (record_words c) ≡ choice_words c.ranked (parties c)
  content_choices = choices_of (head_word c.streams c.lanes) (end_word (length (body_words c))) (choice_words c.ranked (parties c)) (map turn_word c.turns) (map pair_word c.pairs) kh kinds_choices (turn_kinds c.turns turn_bytes) (pair_kinds c.pairs pair_bytes) (kind_end (length (body_words c)) (omega (arith, few_words)))

  pub content_turns : of_kind 3 (record_words c) ≡ map turn_word c.turns
  content_turns = turns_of (head_word c.streams c.lanes) (end_word (length (body_words c))) (choice_words c.ranked (parties c)) (map turn_word c.turns) (map pair_word c.pairs) kh kinds_choices (turn_kinds c.turns turn_bytes) (pair_kinds c.pairs pair_bytes) (kind_end (length (body_words c)) (omega (arith, few_words)))

  pub content_pairs : of_kind 4 (record_words c) ≡ map pair_word c.pairs
  content_pairs = pairs_of (head_word c.streams c.lanes) (end_word (length (body_words c))) (choice_words c.ranked (parties c)) (map turn_word c.turns) (map pair_word c.pairs) kh kinds_choices (turn_kinds c.turns turn_bytes) (pair_kinds c.pairs pair_bytes) (kind_end (length (body_words c)) (omega (arith, few_words)))

  no_member : (xs : List ℕ) (n : ℕ) → n ≡ 0 → AllByRecursion (λ q. q < n) xs → xs ≡ []
  no_member [] n e a = refl
  no_member (x ∷ xs) n e a = absurd (let h = a.0 in omega arith)

  -- whom a party ranks by the words is whom it ranks
  pub content_ranked : (p : ℕ) → ranked_by (record_words c) p ≡ c.ranked p
  content_ranked p = ap (λ l. map low (filter (λ w. eqb (high w) p) l)) content_choices ∙ ⊎_elim inside outside (cases_lt p (parties c))
    where
      inside : p < parties c → map low (filter (λ w. eqb (high w) p) (choice_words c.ranked (parties c))) ≡ c.ranked p
      inside h = choice_lows c.ranked ranked_bytes few256 (parties c) p (omega (arith, few_parties)) h

      nobody : parties c ≤ p → facing c.streams c.lanes p ≡ 0
      nobody h = grind (arith, nat_tests)

      outside : parties c ≤ p → map low (filter (λ w. eqb (high w) p) (choice_words c.ranked (parties c))) ≡ c.ranked p
      outside h =
          ap (map low) (kept_none (λ w. ltb (high w) (parties c)) (λ w. eqb (high w) p) (λ w t. ne_eqb (high w) p (λ s. absurd (omega (arith, ltb-true (high w) (parties c) t)))) (choice_words c.ranked (parties c)) (choice_owners c.ranked ranked_bytes few256 (parties c) (omega (arith, few_parties))))
          ∙ sym (no_member (c.ranked p) (facing c.streams c.lanes p) (nobody h) (law.ranks_the_other_side p))

-- The content that a list of words tells.
pub told : List ℕ → Content
told ws = record { streams = middle (get_or ws 0 0); lanes = low (get_or ws 0 0); ranked = ranked_by ws; turns = turns_in ws; pairs = pairs_in ws }

pub content_told : (c : Content) → Lawful c → told (record_words c) ≡ c
unfolding told
content_told c law = λ i. record {
  streams = middle_head c.streams c.lanes (omega (arith, law.few_streams)) (omega (arith, law.few_lanes)) i;
  lanes = low_head c.streams c.lanes (omega (arith, law.few_streams)) (omega (arith, law.few_lanes)) i;
  ranked = λ p. content_ranked c law p i;
  turns = turns_back i;
  pairs = pairs_back i;
}
  where
    turns_back : turns_in (record_words c) ≡ c.turns
    turns_back = ap (map low) (content_turns c law) ∙ turn_lows c.turns (turn_bytes c law)

    pairs_back : pairs_in (record_words c) ≡ c.pairs
    pairs_back = ap (map pair_of) (content_pairs c law) ∙ pair_values c.pairs (pair_bytes c law)

pub records_told : (ws : List ℕ) (c : Content) → Records ws c → told ws ≡ c
records_told ws c r = ap told r.words ∙ content_told c r.lawful

pub one_content : (ws : List ℕ) (c d : Content) → Records ws c → Records ws d → c ≡ d
one_content ws c d r q = sym (records_told ws c r) ∙ records_told ws d q

pub one_record : (c : Content) (ws vs : List ℕ) → Records ws c → Records vs c → ws ≡ vs
one_record c ws vs r q = r.words ∙ sym q.words
