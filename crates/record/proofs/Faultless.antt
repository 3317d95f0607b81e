-- Words without a fault are the record of the content that they tell.
use Rattle.std.proofs.Common.{◌≡◌, ℕ, zero, suc, ◌+◌, ◌-◌, ◌/◌, ◌%◌, ◌<◌, ◌≤◌, Bool, true, false, not, ◌&&◌, eqb, ltb, leb, ◌⊎◌, List, [], ◌∷◌, ◌++◌, map, length, get_or, take, None, filter, sym, refl, ap, ◌∙◌, subst, inl, inr, ⊎_elim, append_assoc, arith}
use Rattle.std.specs.List.{AllByRecursion}
use Rattle.std.proofs.ByRecursion.{All-push}
use Rattle.std.proofs.lemmas.List.{append-nil, map_push, length_push, take_more, take_all, length-take-le}
use Rattle.std.proofs.lemmas.Bool.{and_parts, and_from, lt-ltb, ne_eqb, eq-eqb, eqb-true, ltb-true, leb-true, not-true, cases_order, cases_eq}
use Rattle.record.specs.Refusals.{refuse_if, or_else}
use Rattle.record.specs.Lists.{every, among, Distinct}
use Rattle.record.specs.Format.{Content, Lawful, Records, Rising, facing, head_word, choice_word, turn_word, pair_word, end_word, owner_words, choice_words, body_words}
use Rattle.record.specs.Faults.{kind, high, middle, low, number, of_kind, ranked_by, turns_in, pairs_in, pair_of, by_kind, head_within, choice_within, turn_within, pair_within, within, choice_in_order, turn_in_order, pair_in_order, end_in_order, in_order, allowed, fault_at}
use Rattle.record.specs.Scans.{KindsBelow}
use Rattle.record.proofs.Lists.{every_weaker, distinct_push}
use Rattle.record.proofs.Scanning.{of_kind_skip, of_kind_none, ranked_by_push, ranked_by_other, ranked_by_new, turns_in_push, pairs_in_push}
use Rattle.record.proofs.Passing.{allowed_middle}
use Rattle.record.proofs.Bounds.{head_sizes, allowed_last}
use Rattle.record.proofs.Wording.{is_head, is_choice, is_turn, is_pair, is_end}

-- One more choice of the last owner is one more word.
owner_push : (o k q : ℕ) (xs : List ℕ) → owner_words o k (xs ++ q ∷ []) ≡ owner_words o k xs ++ choice_word o (k + length xs) q ∷ []
owner_push o k q [] = let e : k ≡ k + 0 = omega arith in ap (λ j. choice_word o j q ∷ []) e
owner_push o k q (x ∷ xs) =
    let e : k + 1 + length xs ≡ k + suc (length xs) = omega arith in
    ap (λ l. choice_word o k x ∷ l) (owner_push o (k + 1) q xs ∙ ap (λ j. owner_words o (k + 1) xs ++ choice_word o j q ∷ []) e)

choices_same : (f f' : ℕ → List ℕ) (n : ℕ) → ((p : ℕ) → p < n → f' p ≡ f p) → choice_words f' n ≡ choice_words f n
choices_same f f' zero e = refl
choices_same f f' (suc n) e =
    ap (λ l. l ++ owner_words n 0 (f' n)) (choices_same f f' n (λ p h. e p (omega arith)))
    ∙ ap (λ l. choice_words f n ++ owner_words n 0 l) (e n (omega arith))

choice_push : (f f' : ℕ → List ℕ) (o q n : ℕ) → o < n → f' o ≡ f o ++ q ∷ [] → ((p : ℕ) → (p ≡ o → ⊥) → f' p ≡ f p) → ((p : ℕ) → o < p → f p ≡ [])
    → choice_words f' n ≡ choice_words f n ++ choice_word o (length (f o)) q ∷ []
choice_push f f' o q zero l here other above = absurd (omega arith)
choice_push f f' o q (suc n) l here other above = ⊎_elim same (⊎_elim (λ h. below (choice_push f f' o q n h here other above) h) (λ h. absurd (omega arith))) (cases_order o n)
  where
    same : o ≡ n → choice_words f' (suc n) ≡ choice_words f (suc n) ++ choice_word o (length (f o)) q ∷ []
    same e =
        let h : f' n ≡ f n ++ q ∷ [] = subst (λ p. f' p ≡ f p ++ q ∷ []) e here in
        let z : 0 + length (f n) ≡ length (f n) = omega arith in
        ap (λ l. l ++ owner_words n 0 (f' n)) (choices_same f f' n (λ p k. other p (λ s. absurd (omega arith))))
        ∙ ap (λ l. choice_words f n ++ owner_words n 0 l) h
        ∙ ap (λ l. choice_words f n ++ l) (owner_push n 0 q (f n))
        ∙ ap (λ j. choice_words f n ++ (owner_words n 0 (f n) ++ choice_word n j q ∷ [])) z
        ∙ sym (append_assoc (choice_words f n) (owner_words n 0 (f n)) (choice_word n (length (f n)) q ∷ []))
        ∙ ap (λ p. (choice_words f n ++ owner_words n 0 (f n)) ++ choice_word p (length (f p)) q ∷ []) (sym e)

    below : choice_words f' n ≡ choice_words f n ++ choice_word o (length (f o)) q ∷ [] → o < n → choice_words f' (suc n) ≡ choice_words f (suc n) ++ choice_word o (length (f o)) q ∷ []
    below known h =
        let none : f n ≡ [] = above n h in
        let none' : f' n ≡ [] = other n (λ s. absurd (omega arith)) ∙ none in
        ap (λ l. choice_words f' n ++ owner_words n 0 l) none'
        ∙ append-nil (choice_words f' n)
        ∙ known
        ∙ ap (λ l. l ++ choice_word o (length (f o)) q ∷ []) (sym (ap (λ l. choice_words f n ++ owner_words n 0 l) none ∙ append-nil (choice_words f n)))

choices_none : (f : ℕ → List ℕ) (n : ℕ) → ((p : ℕ) → f p ≡ []) → choice_words f n ≡ []
choices_none f zero e = refl
choices_none f (suc n) e = ap (λ l. l ++ owner_words n 0 (f n)) (choices_none f n e) ∙ ap (owner_words n 0) (e n)

-- The content that words tell, by the sizes of the head.
abbrev pub so_far : (s g : ℕ) → List ℕ → Content
so_far s g ws = record { streams = s; lanes = g; ranked = ranked_by ws; turns = turns_in ws; pairs = pairs_in ws }

-- Words that are the body of the lawful content that they tell.
pub record Built (s g : ℕ) (ws : List ℕ) : Type 0 where
  pub lawful : Lawful (so_far s g ws)
  pub body : ws ≡ body_words (so_far s g ws)

rising_push : (xs : List ℕ) (y : ℕ) → Rising xs → AllByRecursion (λ x. x < y) xs → Rising (xs ++ y ∷ [])
rising_push [] y r a = (tt, tt)
rising_push (x ∷ xs) y r a = (All-push (λ z. x < z) xs y r.0 a.0, rising_push xs y r.1 a.1)

-- A head alone.
pub built_head : (w : ℕ) → kind w ≡ 1 → head_within w ≡ true → Built (middle w) (low w) (w ∷ [])
built_head w kw within' = record {
  lawful = record {
    some_stream = sizes.0;
    few_streams = sizes.1;
    some_lane = sizes.2;
    few_lanes = sizes.3;
    ranks_the_other_side = λ p. subst (AllByRecursion (λ q. q < facing (middle w) (low w) p)) (sym (none p)) tt;
    ranks_nobody_twice = λ p. subst Distinct (sym (none p)) tt;
    turns_of_parties = subst (AllByRecursion (λ p. p < middle w + low w)) (sym no_turns) tt;
    few_turns = subst (λ l. length l ≤ 7600) (sym no_turns) (omega arith);
    pairs_of_streams = subst (AllByRecursion (λ q. q.0 < middle w)) (sym no_pairs) tt;
    pairs_of_lanes = subst (AllByRecursion (λ q. q.1 < low w)) (sym no_pairs) tt;
    streams_rise = subst (λ l. Rising (map (λ q. q.0) l)) (sym no_pairs) tt;
    no_lane_twice = subst (λ l. Distinct (map (λ q. q.1) l)) (sym no_pairs) tt;
  };
  body =
      ap (λ x. x ∷ []) (is_head w kw (eqb-true (w / 65536 % 4096) 0 (and_parts (eqb (w / 65536 % 4096) 0) _ within').0))
      ∙ ap (λ l. head_word (middle w) (low w) ∷ l)
      (sym (ap (λ l. l ++ (map turn_word (turns_in (w ∷ [])) ++ map pair_word (pairs_in (w ∷ [])))) (choices_none (ranked_by (w ∷ [])) (middle w + low w) none)
      ∙ ap (λ l. map turn_word l ++ map pair_word (pairs_in (w ∷ []))) no_turns
      ∙ ap (map pair_word) no_pairs));
}
  where
    sizes : (1 ≤ middle w) × (middle w ≤ 16) × (1 ≤ low w) × (low w ≤ 16)
    sizes = head_sizes w within'

    below : KindsBelow 2 (w ∷ [])
    below = and_from (ltb (kind w) 2) true (lt-ltb (kind w) 2 (omega arith)) refl

    none : (p : ℕ) → ranked_by (w ∷ []) p ≡ []
    none p = ap (λ l. map low (filter (λ v. eqb (high v) p) l)) (of_kind_none 2 2 (w ∷ []) (omega arith) below)

    no_turns : turns_in (w ∷ []) ≡ []
    no_turns = ap (map low) (of_kind_none 3 2 (w ∷ []) (omega arith) below)

    no_pairs : pairs_in (w ∷ []) ≡ []
    no_pairs = ap (map pair_of) (of_kind_none 4 2 (w ∷ []) (omega arith) below)

-- one more word at the end of the body
body_push : (s g w : ℕ) (ws : List ℕ) → Built s g ws
    → choice_words (ranked_by (ws ++ w ∷ [])) (s + g) ++ (map turn_word (turns_in (ws ++ w ∷ [])) ++ map pair_word (pairs_in (ws ++ w ∷ [])))
    ≡ (choice_words (ranked_by ws) (s + g) ++ (map turn_word (turns_in ws) ++ map pair_word (pairs_in ws))) ++ w ∷ []
    → ws ++ w ∷ [] ≡ body_words (so_far s g (ws ++ w ∷ []))
body_push s g w ws built e = ap (λ l. l ++ w ∷ []) built.body ∙ ap (λ l. head_word s g ∷ l) (sym e)

module _ (s g w : ℕ) (ws : List ℕ) (built : Built s g ws) where
  law : Lawful (so_far s g ws)
  law = built.lawful

  pub built_choice : kind w ≡ 2 → KindsBelow 3 ws → choice_within s g w ≡ true → choice_in_order ws w ≡ true → Built s g (ws ++ w ∷ [])
  built_choice kw below within' order = record {
    lawful = record {
      some_stream = law.some_stream;
      few_streams = law.few_streams;
      some_lane = law.some_lane;
      few_lanes = law.few_lanes;
      ranks_the_other_side = λ p. ⊎_elim
          (λ e. subst (λ o. AllByRecursion (λ q. q < facing s g o) (ranked_by (ws ++ w ∷ []) o)) (sym e)
          (subst (AllByRecursion (λ q. q < facing s g (high w))) (sym here) (All-push (λ q. q < facing s g (high w)) (ranked_by ws (high w)) (low w) (law.ranks_the_other_side (high w)) (ltb-true (low w) (facing s g (high w)) limits.1))))
          (λ n. subst (AllByRecursion (λ q. q < facing s g p)) (sym (other p n)) (law.ranks_the_other_side p))
          (cases_eq p (high w));
      ranks_nobody_twice = λ p. ⊎_elim
          (λ e. subst (λ o. Distinct (ranked_by (ws ++ w ∷ []) o)) (sym e)
          (subst Distinct (sym here) (distinct_push (ranked_by ws (high w)) (low w) (law.ranks_nobody_twice (high w)) (not-true (among (low w) (ranked_by ws (high w))) place.1))))
          (λ n. subst Distinct (sym (other p n)) (law.ranks_nobody_twice p))
          (cases_eq p (high w));
      turns_of_parties = subst (AllByRecursion (λ p. p < s + g)) (sym same_turns) law.turns_of_parties;
      few_turns = subst (λ l. length l ≤ 7600) (sym same_turns) law.few_turns;
      pairs_of_streams = subst (AllByRecursion (λ q. q.0 < s)) (sym same_pairs) law.pairs_of_streams;
      pairs_of_lanes = subst (AllByRecursion (λ q. q.1 < g)) (sym same_pairs) law.pairs_of_lanes;
      streams_rise = subst (λ l. Rising (map (λ q. q.0) l)) (sym same_pairs) law.streams_rise;
      no_lane_twice = subst (λ l. Distinct (map (λ q. q.1) l)) (sym same_pairs) law.no_lane_twice;
    };
    body = body_push s g w ws built
        (ap (λ l. choice_words (ranked_by (ws ++ w ∷ [])) (s + g) ++ (map turn_word l ++ map pair_word (pairs_in (ws ++ w ∷ [])))) (same_turns ∙ no_turns)
        ∙ ap (λ l. choice_words (ranked_by (ws ++ w ∷ [])) (s + g) ++ map pair_word l) (same_pairs ∙ no_pairs)
        ∙ append-nil (choice_words (ranked_by (ws ++ w ∷ [])) (s + g))
        ∙ pushed
        ∙ ap (λ l. l ++ w ∷ []) (sym (append-nil (choice_words (ranked_by ws) (s + g))))
        ∙ sym (ap (λ l. (choice_words (ranked_by ws) (s + g) ++ (map turn_word l ++ map pair_word (pairs_in ws))) ++ w ∷ []) no_turns
        ∙ ap (λ l. (choice_words (ranked_by ws) (s + g) ++ map pair_word l) ++ w ∷ []) no_pairs));
  }
    where
      same_turns : turns_in (ws ++ w ∷ []) ≡ turns_in ws
      same_turns = ap (map low) (of_kind_skip 3 ws w (λ e. absurd (omega arith)))

      same_pairs : pairs_in (ws ++ w ∷ []) ≡ pairs_in ws
      same_pairs = ap (map pair_of) (of_kind_skip 4 ws w (λ e. absurd (omega arith)))

      no_turns : turns_in ws ≡ []
      no_turns = ap (map low) (of_kind_none 3 3 ws (omega arith) below)

      no_pairs : pairs_in ws ≡ []
      no_pairs = ap (map pair_of) (of_kind_none 4 3 ws (omega arith) below)

      here : ranked_by (ws ++ w ∷ []) (high w) ≡ ranked_by ws (high w) ++ low w ∷ []
      here = ranked_by_push ws w (high w) kw refl

      other : (p : ℕ) → (p ≡ high w → ⊥) → ranked_by (ws ++ w ∷ []) p ≡ ranked_by ws p
      other p n = ranked_by_other ws w p kw (λ e. n (sym e))

      bits : (eqb (w / 0x1000000 % 16) 0 ≡ true) × ((ltb (high w) (s + g) && ltb (low w) (facing s g (high w))) ≡ true)
      bits = and_parts (eqb (w / 0x1000000 % 16) 0) (ltb (high w) (s + g) && ltb (low w) (facing s g (high w))) within'

      limits : (ltb (high w) (s + g) ≡ true) × (ltb (low w) (facing s g (high w)) ≡ true)
      limits = and_parts (ltb (high w) (s + g)) (ltb (low w) (facing s g (high w))) bits.1

      owners : (every (λ v. leb (high v) (high w)) (of_kind 2 ws) ≡ true) × ((eqb (middle w) (length (ranked_by ws (high w))) && not (among (low w) (ranked_by ws (high w)))) ≡ true)
      owners = and_parts (every (λ v. leb (high v) (high w)) (of_kind 2 ws)) (eqb (middle w) (length (ranked_by ws (high w))) && not (among (low w) (ranked_by ws (high w)))) order

      place : (eqb (middle w) (length (ranked_by ws (high w))) ≡ true) × (not (among (low w) (ranked_by ws (high w))) ≡ true)
      place = and_parts (eqb (middle w) (length (ranked_by ws (high w)))) (not (among (low w) (ranked_by ws (high w)))) owners.1

      word : choice_word (high w) (length (ranked_by ws (high w))) (low w) ≡ w
      word = ap (λ k. choice_word (high w) k (low w)) (sym (eqb-true (middle w) (length (ranked_by ws (high w))) place.0)) ∙ sym (is_choice w kw (eqb-true (w / 0x1000000 % 16) 0 bits.0))

      pushed : choice_words (ranked_by (ws ++ w ∷ [])) (s + g) ≡ choice_words (ranked_by ws) (s + g) ++ w ∷ []
      pushed =
          choice_push (ranked_by ws) (ranked_by (ws ++ w ∷ [])) (high w) (low w) (s + g) (ltb-true (high w) (s + g) limits.0) here other (λ p h. ranked_by_new ws (high w) p owners.0 h)
          ∙ ap (λ x. choice_words (ranked_by ws) (s + g) ++ x ∷ []) word

  same_ranked : (kind w ≡ 2 → ⊥) → (p : ℕ) → ranked_by (ws ++ w ∷ []) p ≡ ranked_by ws p
  same_ranked n p = ap (λ l. map low (filter (λ v. eqb (high v) p) l)) (of_kind_skip 2 ws w n)

  pub built_turn : kind w ≡ 3 → KindsBelow 4 ws → turn_within s g w ≡ true → turn_in_order ws ≡ true → Built s g (ws ++ w ∷ [])
  built_turn kw below within' order = record {
    lawful = record {
      some_stream = law.some_stream;
      few_streams = law.few_streams;
      some_lane = law.some_lane;
      few_lanes = law.few_lanes;
      ranks_the_other_side = λ p. subst (AllByRecursion (λ q. q < facing s g p)) (sym (ranks p)) (law.ranks_the_other_side p);
      ranks_nobody_twice = λ p. subst Distinct (sym (ranks p)) (law.ranks_nobody_twice p);
      turns_of_parties = subst (AllByRecursion (λ p. p < s + g)) (sym more) (All-push (λ p. p < s + g) (turns_in ws) (low w) law.turns_of_parties (ltb-true (low w) (s + g) bits.1));
      few_turns = subst (λ l. length l ≤ 7600) (sym more) (rw (length_push (turns_in ws) (low w)) (omega (arith, ltb-true (length (turns_in ws)) 7600 order)));
      pairs_of_streams = subst (AllByRecursion (λ q. q.0 < s)) (sym same_pairs) law.pairs_of_streams;
      pairs_of_lanes = subst (AllByRecursion (λ q. q.1 < g)) (sym same_pairs) law.pairs_of_lanes;
      streams_rise = subst (λ l. Rising (map (λ q. q.0) l)) (sym same_pairs) law.streams_rise;
      no_lane_twice = subst (λ l. Distinct (map (λ q. q.1) l)) (sym same_pairs) law.no_lane_twice;
    };
    body = body_push s g w ws built
        (ap (λ l. l ++ (map turn_word (turns_in (ws ++ w ∷ [])) ++ map pair_word (pairs_in (ws ++ w ∷ [])))) (choices_same (ranked_by ws) (ranked_by (ws ++ w ∷ [])) (s + g) (λ p h. ranks p))
        ∙ ap (λ l. choice_words (ranked_by ws) (s + g) ++ (map turn_word (turns_in (ws ++ w ∷ [])) ++ map pair_word l)) (same_pairs ∙ no_pairs)
        ∙ ap (λ l. choice_words (ranked_by ws) (s + g) ++ l) (append-nil (map turn_word (turns_in (ws ++ w ∷ []))) ∙ ap (map turn_word) more ∙ map_push turn_word (turns_in ws) (low w) ∙ ap (λ x. map turn_word (turns_in ws) ++ x ∷ []) word)
        ∙ sym (append_assoc (choice_words (ranked_by ws) (s + g)) (map turn_word (turns_in ws)) (w ∷ []))
        ∙ ap (λ l. (choice_words (ranked_by ws) (s + g) ++ l) ++ w ∷ []) (sym (append-nil (map turn_word (turns_in ws))))
        ∙ ap (λ l. (choice_words (ranked_by ws) (s + g) ++ (map turn_word (turns_in ws) ++ map pair_word l)) ++ w ∷ []) (sym no_pairs));
  }
    where
      ranks : (p : ℕ) → ranked_by (ws ++ w ∷ []) p ≡ ranked_by ws p
      ranks = same_ranked (λ e. absurd (omega arith))

      same_pairs : pairs_in (ws ++ w ∷ []) ≡ pairs_in ws
      same_pairs = ap (map pair_of) (of_kind_skip 4 ws w (λ e. absurd (omega arith)))

      no_pairs : pairs_in ws ≡ []
      no_pairs = ap (map pair_of) (of_kind_none 4 4 ws (omega arith) below)

      more : turns_in (ws ++ w ∷ []) ≡ turns_in ws ++ low w ∷ []
      more = turns_in_push ws w kw

      bits : (eqb (w / 256 % 0x100000) 0 ≡ true) × (ltb (low w) (s + g) ≡ true)
      bits = and_parts (eqb (w / 256 % 0x100000) 0) (ltb (low w) (s + g)) within'

      word : turn_word (low w) ≡ w
      word = sym (is_turn w kw (eqb-true (w / 256 % 0x100000) 0 bits.0))

  pub built_pair : kind w ≡ 4 → pair_within s g w ≡ true → pair_in_order ws w ≡ true → Built s g (ws ++ w ∷ [])
  built_pair kw within' order = record {
    lawful = record {
      some_stream = law.some_stream;
      few_streams = law.few_streams;
      some_lane = law.some_lane;
      few_lanes = law.few_lanes;
      ranks_the_other_side = λ p. subst (AllByRecursion (λ q. q < facing s g p)) (sym (ranks p)) (law.ranks_the_other_side p);
      ranks_nobody_twice = λ p. subst Distinct (sym (ranks p)) (law.ranks_nobody_twice p);
      turns_of_parties = subst (AllByRecursion (λ p. p < s + g)) (sym same_turns) law.turns_of_parties;
      few_turns = subst (λ l. length l ≤ 7600) (sym same_turns) law.few_turns;
      pairs_of_streams = subst (AllByRecursion (λ q. q.0 < s)) (sym more) (All-push (λ q. q.0 < s) (pairs_in ws) (pair_of w) law.pairs_of_streams (ltb-true (middle w) s limits.0));
      pairs_of_lanes = subst (AllByRecursion (λ q. q.1 < g)) (sym more) (All-push (λ q. q.1 < g) (pairs_in ws) (pair_of w) law.pairs_of_lanes (ltb-true (low w) g limits.1));
      streams_rise = subst Rising (sym (ap (map (λ q. q.0)) more ∙ map_push (λ q. q.0) (pairs_in ws) (pair_of w)))
          (rising_push (map (λ q. q.0) (pairs_in ws)) (middle w) law.streams_rise (lower (pairs_in ws) new.0));
      no_lane_twice = subst Distinct (sym (ap (map (λ q. q.1)) more ∙ map_push (λ q. q.1) (pairs_in ws) (pair_of w)))
          (distinct_push (map (λ q. q.1) (pairs_in ws)) (low w) law.no_lane_twice (not-true (among (low w) (map (λ q. q.1) (pairs_in ws))) new.1));
    };
    body = body_push s g w ws built
        (ap (λ l. l ++ (map turn_word (turns_in (ws ++ w ∷ [])) ++ map pair_word (pairs_in (ws ++ w ∷ [])))) (choices_same (ranked_by ws) (ranked_by (ws ++ w ∷ [])) (s + g) (λ p h. ranks p))
        ∙ ap (λ l. choice_words (ranked_by ws) (s + g) ++ (map turn_word l ++ map pair_word (pairs_in (ws ++ w ∷ [])))) same_turns
        ∙ ap (λ l. choice_words (ranked_by ws) (s + g) ++ (map turn_word (turns_in ws) ++ l)) (ap (map pair_word) more ∙ map_push pair_word (pairs_in ws) (pair_of w) ∙ ap (λ x. map pair_word (pairs_in ws) ++ x ∷ []) word)
        ∙ ap (λ l. choice_words (ranked_by ws) (s + g) ++ l) (sym (append_assoc (map turn_word (turns_in ws)) (map pair_word (pairs_in ws)) (w ∷ [])))
        ∙ sym (append_assoc (choice_words (ranked_by ws) (s + g)) (map turn_word (turns_in ws) ++ map pair_word (pairs_in ws)) (w ∷ [])));
  }
    where
      ranks : (p : ℕ) → ranked_by (ws ++ w ∷ []) p ≡ ranked_by ws p
      ranks = same_ranked (λ e. absurd (omega arith))

      same_turns : turns_in (ws ++ w ∷ []) ≡ turns_in ws
      same_turns = ap (map low) (of_kind_skip 3 ws w (λ e. absurd (omega arith)))

      more : pairs_in (ws ++ w ∷ []) ≡ pairs_in ws ++ pair_of w ∷ []
      more = pairs_in_push ws w kw

      bits : (eqb (w / 65536 % 4096) 0 ≡ true) × ((ltb (middle w) s && ltb (low w) g) ≡ true)
      bits = and_parts (eqb (w / 65536 % 4096) 0) (ltb (middle w) s && ltb (low w) g) within'

      limits : (ltb (middle w) s ≡ true) × (ltb (low w) g ≡ true)
      limits = and_parts (ltb (middle w) s) (ltb (low w) g) bits.1

      new : (every (λ q. ltb q.0 (middle w)) (pairs_in ws) ≡ true) × (not (among (low w) (map (λ q. q.1) (pairs_in ws))) ≡ true)
      new = and_parts (every (λ q. ltb q.0 (middle w)) (pairs_in ws)) (not (among (low w) (map (λ q. q.1) (pairs_in ws)))) order

      lower : (ps : List (ℕ × ℕ)) → every (λ q. ltb q.0 (middle w)) ps ≡ true → AllByRecursion (λ x. x < middle w) (map (λ q. q.0) ps)
      lower [] e = tt
      lower (q ∷ ps) e = let p = and_parts (ltb q.0 (middle w)) (every (λ r. ltb r.0 (middle w)) ps) e in (ltb-true q.0 (middle w) p.0, lower ps p.1)

      word : pair_word (pair_of w) ≡ w
      word = sym (is_pair w kw (eqb-true (w / 65536 % 4096) 0 bits.0))

  -- the end after a body
  pub built_end : kind w ≡ 5 → number w ≡ length ws → Records (ws ++ w ∷ []) (so_far s g ws)
  built_end kw count = record {
    lawful = law;
    words =
        ap (λ x. ws ++ x ∷ []) (is_end w kw ∙ ap end_word (count ∙ ap length built.body))
        ∙ ap (λ l. l ++ end_word (length (body_words (so_far s g ws))) ∷ []) built.body;
  }

-- a word without a fault keeps every rule
kept_rules : (a b c : Bool) (p q r : ℕ × ℕ) → or_else (refuse_if (not a) p) (or_else (refuse_if (not b) q) (refuse_if (not c) r)) ≡ None → (a ≡ true) × (b ≡ true) × (c ≡ true)
kept_rules true true true p q r e = (refl, refl, refl)
kept_rules true true false p q r e = grind arith
kept_rules true false c p q r e = grind arith
kept_rules false b c p q r e = grind arith

pub rules_kept : (ws : List ℕ) (i : ℕ) → fault_at ws i ≡ None
    → (allowed (take i ws) (get_or ws i 0) (eqb (i + 1) (length ws)) ≡ true) × (within (middle (get_or ws 0 0)) (low (get_or ws 0 0)) (get_or ws i 0) ≡ true) × (in_order (take i ws) (get_or ws i 0) ≡ true)
rules_kept ws i e = kept_rules (allowed (take i ws) (get_or ws i 0) (eqb (i + 1) (length ws))) (within (middle (get_or ws 0 0)) (low (get_or ws 0 0)) (get_or ws i 0)) (in_order (take i ws) (get_or ws i 0)) (2, i) (3, i) (4, i) e

two_to_four : (k : ℕ) → 2 ≤ k → k ≤ 4 → (k ≡ 2) ⊎ ((k ≡ 3) ⊎ (k ≡ 4))
two_to_four k a b = ⊎_elim inl (λ n. inr (⊎_elim inl (λ m. inr (omega arith)) (cases_eq k 3))) (cases_eq k 2)

module _ (ws : List ℕ) (clear : (i : ℕ) → i < length ws → fault_at ws i ≡ None) where
  abbrev s₀ : ℕ
  s₀ = middle (get_or ws 0 0)

  abbrev g₀ : ℕ
  g₀ = low (get_or ws 0 0)

  first_built : 0 < length ws → Built s₀ g₀ (take 1 ws)
  first_built h =
      let r = rules_kept ws 0 (clear 0 h) in
      let w = get_or ws 0 0 in
      let k : kind w ≡ 1 = eqb-true (kind w) 1 r.0 in
      let i : head_within w ≡ true = ap (λ j. by_kind j (head_within w) (choice_within s₀ g₀ w) (turn_within s₀ g₀ w) (pair_within s₀ g₀ w) true) (sym k) ∙ r.1 in
      subst (Built s₀ g₀) (sym (take_more ws 0 0 h)) (built_head w k i)

  more_built : (i : ℕ) → 1 ≤ i → i + 1 < length ws → Built s₀ g₀ (take i ws) → Built s₀ g₀ (take (i + 1) ws)
  more_built i some h built =
      subst (Built s₀ g₀) (sym (take_more ws i 0 (omega arith)))
      (⊎_elim (λ e. built_choice s₀ g₀ w before built e (below 2 (omega arith)) (at e r.1) (in_order_lem e r.2))
      (⊎_elim (λ e. built_turn s₀ g₀ w before built e (below 3 (omega arith)) (at e r.1) (in_order_lem e r.2))
      (λ e. built_pair s₀ g₀ w before built e (at e r.1) (in_order_lem e r.2)))
      (two_to_four (kind w) (leb-true 2 (kind w) p.0) (leb-true (kind w) 4 q.0)))
    where
      before : List ℕ
      before = take i ws

      w : ℕ
      w = get_or ws i 0

      r : (allowed before w (eqb (i + 1) (length ws)) ≡ true) × (within s₀ g₀ w ≡ true) × (in_order before w ≡ true)
      r = rules_kept ws i (clear i (omega arith))

      at : {k : ℕ} → kind w ≡ k → within s₀ g₀ w ≡ true → by_kind k (head_within w) (choice_within s₀ g₀ w) (turn_within s₀ g₀ w) (pair_within s₀ g₀ w) true ≡ true
      at e t = ap (λ j. by_kind j (head_within w) (choice_within s₀ g₀ w) (turn_within s₀ g₀ w) (pair_within s₀ g₀ w) true) (sym e) ∙ t

      in_order_lem : {k : ℕ} → kind w ≡ k → in_order before w ≡ true → by_kind k true (choice_in_order before w) (turn_in_order before) (pair_in_order before w) (end_in_order before w) ≡ true
      in_order_lem e t = ap (λ j. by_kind j true (choice_in_order before w) (turn_in_order before) (pair_in_order before w) (end_in_order before w)) (sym e) ∙ t

      middle' : allowed before w false ≡ true
      middle' = ap (allowed before w) (sym (ne_eqb (i + 1) (length ws) (omega arith))) ∙ r.0

      long : 1 ≤ length before
      long = rw (length-take-le i ws (omega arith)) some

      p : (leb 2 (kind w) ≡ true) × ((leb (kind w) 4 && every (λ u. leb (kind u) (kind w)) before) ≡ true)
      p = and_parts (leb 2 (kind w)) (leb (kind w) 4 && every (λ u. leb (kind u) (kind w)) before) (sym (allowed_middle before w long) ∙ middle')

      q : (leb (kind w) 4 ≡ true) × (every (λ u. leb (kind u) (kind w)) before ≡ true)
      q = and_parts (leb (kind w) 4) (every (λ u. leb (kind u) (kind w)) before) p.1

      below : (k : ℕ) → kind w ≤ k → KindsBelow (k + 1) before
      below k l = every_weaker (λ u. leb (kind u) (kind w)) (λ u. ltb (kind u) (k + 1)) (λ u t. lt-ltb (kind u) (k + 1) (omega (arith, leb-true (kind u) (kind w) t))) before q.1

  all_built : (j : ℕ) → j + 1 < length ws → Built s₀ g₀ (take (j + 1) ws)
  all_built zero h = first_built (omega arith)
  all_built (suc j) h =
      let e : suc j + 1 ≡ j + 1 + 1 = omega arith in
      subst (λ n. Built s₀ g₀ (take n ws)) (sym e) (more_built (j + 1) (omega arith) (omega arith) (all_built j (omega arith)))

  pub faultless_record : (n : ℕ) → 1 ≤ n → n + 1 ≡ length ws → Records ws (so_far s₀ g₀ (take n ws))
  faultless_record n some e =
      let w = get_or ws n 0 in
      let r = rules_kept ws n (clear n (omega arith)) in
      let long : 1 ≤ length (take n ws) = rw (length-take-le n ws (omega arith)) some in
      let k : kind w ≡ 5 = eqb-true (kind w) 5 (sym (allowed_last (take n ws) w long) ∙ ap (allowed (take n ws) w) (sym (eq-eqb (n + 1) (length ws) e)) ∙ r.0) in
      let c : end_in_order (take n ws) w ≡ true = ap (λ j. by_kind j true (choice_in_order (take n ws) w) (turn_in_order (take n ws)) (pair_in_order (take n ws) w) (end_in_order (take n ws) w)) (sym k) ∙ r.2 in
      let i : n - 1 + 1 ≡ n = omega arith in
      let built : Built s₀ g₀ (take n ws) = subst (λ m. Built s₀ g₀ (take m ws)) i (all_built (n - 1) (omega arith)) in
      let whole : take n ws ++ w ∷ [] ≡ ws = sym (take_more ws n 0 (omega arith)) ∙ take_all (n + 1) ws (omega arith) in
      subst (λ l. Records l (so_far s₀ g₀ (take n ws))) whole (built_end s₀ g₀ w (take n ws) built k (eqb-true (number w) (length (take n ws)) c))
