-- Tables of places.
use Rattle.std.specs.Prelude.{◌≡◌, ℕ, ◌+◌, ◌<◌, ◌≤◌, false, cond, ◌&&◌, List, [], ◌∷◌, ◌++◌, length, get_or, take, replicate, Some, None, Option, ◌==◌, nat_lt, slice_index, slice_set, refl}
use Rattle.std.proofs.Common.{sym, ◌∙◌, ap, subst, ⊎_elim, arith}
use Rattle.std.proofs.lemmas.List.{get_or-replicate, get_or_past, length-replicate, length-set, get_or-set_same, get_or-set_other}
use Rattle.std.proofs.lemmas.Bool.{ne_eqb, cases_lt}
use Rattle.std.proofs.lemmas.Bool.Decides.{nat_tests}
use Rattle.std.specs.List.{AllByRecursion}
use Rattle.record.specs.Lists.{among, place_in, next}
use Rattle.record.specs.Faults.{high, middle, low, ranked_by}
use Rattle.record.specs.Format.{Content, Lawful, parties, facing, choice_words}
use Rattle.record.proofs.Contents.{few_parties}
use Rattle.record.proofs.Lawfuls.{choices_ranked, choice_kind, choice_owner, choice_member, choice_place, choice_new, choice_few}
use Rattle.record.proofs.Scanning.{ranked_by_push, ranked_by_other}
use Rattle.record.proofs.Lists.{among_place, place_at_lem, place_push_other, place_push_new}
use Rattle.ranking.specs.Places.{row_of, entry, as_place, place_at, DistinctPlaces, SmallPlaces, Enterable, Entered}
use Rattle.ranking.specs.Listings.{table_meaning, content_meaning}

-- there are 32 rows of 16 each
abbrev pub WholeTable : List (List (Option ℕ)) → Type 0
WholeTable places = (length places ≡ 32) × ((p : ℕ) → p < 32 → length (row_of places p) ≡ 16)

-- a row of m without places, and a table of n such rows
abbrev pub empty_row : ℕ → List (Option ℕ)
empty_row m = replicate m None

abbrev pub empty_table : (n m : ℕ) → List (List (Option ℕ))
empty_table n m = replicate n (empty_row m)

no_place_in_row : (m q : ℕ) → get_or (empty_row m) q None ≡ None
no_place_in_row m q = let inside = get_or-replicate {A = Option ℕ} m q None None in let past = get_or_past (empty_row m) q None in let long = length-replicate {A = Option ℕ} m None in grind arith

pub no_entry : (n m p q : ℕ) → entry (empty_table n m) p q ≡ None
no_entry n m p q =
    let inside = get_or-replicate n p (empty_row m) [] in
    let past = get_or_past (empty_table n m) p [] in
    let long = length-replicate n (empty_row m) in
    let row = no_place_in_row m q in
    grind arith

pub no_place : (n m p q : ℕ) → place_at (empty_table n m) p q ≡ None
no_place n m p q = ap as_place (no_entry n m p q)

pub none_distinct : (n m : ℕ) → DistinctPlaces (empty_table n m)
none_distinct n m p q r k a b = absurd (let e = no_place n m p q in grind arith)

-- an empty table is right for no choices
pub none_entered : (n m : ℕ) → Entered (empty_table n m) []
none_entered n m p q = no_place n m p q

pub empty_whole : WholeTable (empty_table 32 16)
empty_whole = (length-replicate 32 (empty_row 16), λ p h. ap length (get_or-replicate 32 p (empty_row 16) [] h) ∙ length-replicate {A = Option ℕ} 16 None)

-- a table with one more place
abbrev pub entered : List (List (Option ℕ)) → (p q v : ℕ) → List (List (Option ℕ))
entered places p q v = slice_set places p (slice_set (row_of places p) q (Some v))

module _ (places : List (List (Option ℕ))) (whole : WholeTable places) (o y v : ℕ) (row : o < 32) (column : y < 16) where
  -- it stands where it was entered, and all others stand as they stood
  pub entered_at : (p q : ℕ) → entry (entered places o y v) p q ≡ cond (p == o && q == y) (Some v) (entry places p q)
  entered_at p q =
      let new_row = get_or-set_same places o (slice_set (row_of places o) y (Some v)) [] (omega (arith, whole.0)) in
      let rows = get_or-set_other places o p (slice_set (row_of places o) y (Some v)) [] in
      let place = get_or-set_same (row_of places o) y (Some v) None (omega (arith, whole.1 o row)) in
      let others = get_or-set_other (row_of places o) y q (Some v) None in
      grind (arith, nat_tests)

  pub entered_place : v < 255 → (p q : ℕ) → place_at (entered places o y v) p q ≡ cond (p == o && q == y) (Some v) (place_at places p q)
  entered_place few p q = let at = entered_at p q in grind (arith, nat_tests)

  pub entered_whole : WholeTable (entered places o y v)
  entered_whole = (
    length-set places o (slice_set (row_of places o) y (Some v)) ∙ whole.0,
    λ p h.
        let new_row = get_or-set_same places o (slice_set (row_of places o) y (Some v)) [] (omega (arith, whole.0)) in
        let rows = get_or-set_other places o p (slice_set (row_of places o) y (Some v)) [] in
        let long = length-set (row_of places o) y (Some v) in
        let were = whole.1 p h in
        let was = whole.1 o row in
        grind arith,
  )

  pub entered_small : v < 255 → SmallPlaces places → SmallPlaces (entered places o y v)
  entered_small small known p q k e = let at = entered_at p q in let were = known p q k in grind (arith, nat_tests)

-- a party that is not among those named has no place
not_among : (x : ℕ) (xs : List ℕ) → among x xs ≡ false → place_in x xs ≡ None
not_among x xs e = let place = among_place x xs in grind arith

-- one more choice entered: a place that was right stays right ..
pub one_entered_at : (places : List (List (Option ℕ))) (ws : List ℕ) (w : ℕ) → WholeTable places → Enterable ws w → (p q : ℕ) → place_at places p q ≡ place_in q (ranked_by ws p) → place_at (entered places (high w) (low w) (middle w)) p q ≡ place_in q (ranked_by (ws ++ w ∷ []) p)
one_entered_at places ws w whole fit p q were =
    let at = entered_place places whole (high w) (low w) (middle w) fit.row fit.column (omega (arith, fit.few)) p q in
    let place = fit.place in
    let named = ranked_by_push ws w p fit.is_of_kind in
    let others = ranked_by_other ws w p fit.is_of_kind in
    let new = place_push_new (low w) (ranked_by ws (high w)) (not_among (low w) (ranked_by ws (high w)) fit.new) in
    let old = place_push_other q (low w) (ranked_by ws p) in
    grind (arith, nat_tests)

-- .. and so does a table
pub one_entered : (places : List (List (Option ℕ))) (ws : List ℕ) (w : ℕ) → WholeTable places → Enterable ws w → Entered places ws → Entered (entered places (high w) (low w) (middle w)) (ws ++ w ∷ [])
one_entered places ws w whole fit known p q = one_entered_at places ws w whole fit p q (known p q)

-- a table that is right for some choices gives no place twice
pub entered_distinct : (places : List (List (Option ℕ))) (ws : List ℕ) → Entered places ws → DistinctPlaces places
entered_distinct places ws known p q r k a b = sym (place_at_lem q (ranked_by ws p) k (sym (known p q) ∙ a)).1 ∙ (place_at_lem r (ranked_by ws p) k (sym (known p r) ∙ b)).1

-- the same of a table of 32 rows of 16 that is right within them
pub entered_distinct_within : (places : List (List (Option ℕ))) (ws : List ℕ) → WholeTable places → ((p q : ℕ) → p < 32 → q < 16 → place_at places p q ≡ place_in q (ranked_by ws p)) → DistinctPlaces places
entered_distinct_within places ws whole known p q r k a b =
    sym (place_at_lem q (ranked_by ws p) k (sym (known p q (row q a) (column q a)) ∙ a)).1 ∙ (place_at_lem r (ranked_by ws p) k (sym (known p r (row r b) (column r b)) ∙ b)).1
  where
    row : (q : ℕ) → place_at places p q ≡ Some k → p < 32
    row q e = ⊎_elim (λ h. h) (λ h. absurd (let past = get_or_past places p [] (omega (arith, whole.0)) in grind arith)) (cases_lt p 32)

    column : (q : ℕ) → place_at places p q ≡ Some k → q < 16
    column q e = ⊎_elim (λ h. h) (λ h. absurd (let past = get_or_past (row_of places p) q None (omega (arith, whole.1 p (row q e))) in grind arith)) (cases_lt q 16)

-- numbers below n have no place for one that is not
absent : (xs : List ℕ) (n q : ℕ) → n ≤ q → AllByRecursion (λ x. x < n) xs → place_in q xs ≡ None
absent [] n q h a = refl
absent (x ∷ xs) n q h a =
    let l = a.0 in
    ap (λ b. cond b (Some 0) (next (place_in q xs))) (ne_eqb q x (λ e. absurd (omega arith))) ∙ ap next (absent xs n q h a.1)

-- the choices of a record may be entered one after the other
pub enterable : (c : Content) → Lawful c → (ws : List ℕ) → ws ≡ choice_words c.ranked (parties c) → (k : ℕ) → k < length ws → Enterable (take k ws) (slice_index ws k)
enterable c law ws words k h =
    subst (λ l. Enterable (take k l) (slice_index l k)) (sym words) (record {
      is_of_kind = choice_kind c law k inside;
      row = choice_owner c law k inside;
      column = choice_member c law k inside;
      few = choice_few c law k inside;
      place = choice_place c law k inside;
      new = choice_new c law k inside;
    })
  where
    inside : k < length (choice_words c.ranked (parties c))
    inside = subst (λ l. k < length l) words h

-- what a table means that holds these choices' places in its 32 rows of 16 is what the content means
pub table_content : (c : Content) → Lawful c → (ws : List ℕ) (places : List (List (Option ℕ))) (s g : ℕ) → ws ≡ choice_words c.ranked (parties c) → ((p q : ℕ) → p < 32 → q < 16 → place_at places p q ≡ place_in q (ranked_by ws p)) → s ≡ c.streams → g ≡ c.lanes → table_meaning s g places ≡ content_meaning c
table_content c law ws places s g words known es eg =
    ap (λ x. table_meaning x g places) es
    ∙ ap (λ x. table_meaning c.streams x places) eg
    ∙ (λ k. record {
      streams = c.streams;
      lanes = c.lanes;
      by_stream = λ i j. by_stream_lem i j k;
      by_lane = λ j i. by_lane_lem j i k;
    })
  where
    place : (p q : ℕ) → p < parties c → q < 16 → place_at places p q ≡ place_in q (c.ranked p)
    place p q hp hq = known p q (omega (arith, few_parties c law)) hq ∙ ap (place_in q) (ap (λ l. ranked_by l p) words ∙ choices_ranked c law p)

    outside : (p q : ℕ) → facing c.streams c.lanes p ≤ q → place_in q (c.ranked p) ≡ None
    outside p q h = absent (c.ranked p) (facing c.streams c.lanes p) q h (law.ranks_the_other_side p)

    by_stream_lem : (i j : ℕ) → cond (nat_lt i c.streams) (cond (nat_lt j c.lanes) (place_at places i j) None) None ≡ cond (nat_lt i c.streams) (place_in j (c.ranked i)) None
    by_stream_lem i j = let at = (λ (hi : i < c.streams) (hj : j < c.lanes). place i j (omega arith) (omega (arith, law.few_lanes))) in let out = outside i j in grind (arith, nat_tests)

    by_lane_lem : (j i : ℕ) → cond (nat_lt j c.lanes) (cond (nat_lt i c.streams) (place_at places (c.streams + j) i) None) None ≡ place_in i (c.ranked (c.streams + j))
    by_lane_lem j i = let at = (λ (hj : j < c.lanes) (hi : i < c.streams). place (c.streams + j) i (omega arith) (omega (arith, law.few_streams))) in let out = outside (c.streams + j) i in grind (arith, nat_tests)
