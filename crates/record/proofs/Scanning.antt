-- The words of each kind when one more word comes, and what a reader then keeps of them.
use Rattle.std.proofs.Common.{◌≡◌, ℕ, ◌+◌, ◌/◌, ◌%◌, ◌<◌, ◌≤◌, Bool, true, false, cond, not, ◌&&◌, ◌||◌, eqb, ltb, leb, List, [], ◌∷◌, ◌++◌, map, length, filter, sym, ap, ◌∙◌, arith}
use Rattle.std.proofs.lemmas.List.Elements.{filter-append}
use Rattle.std.proofs.lemmas.List.{append-nil, map_push, length_push}
use Rattle.std.proofs.lemmas.Bool.{and_parts, eq-eqb, ne_eqb, leb-true, ltb-true, le-leb, lt-leb}
use Rattle.std.proofs.lemmas.Bool.Decides.{nat_tests}
use Rattle.record.specs.Refusals.{refuse_if, or_else}
use Rattle.record.specs.Lists.{every, among}
use Rattle.record.specs.Faults.{by_kind, within, in_order, head_within, turn_within, end_in_order, kind, high, middle, low, of_kind, ranked_by, turns_in, pairs_in, pair_of, choice_within, choice_in_order, turn_in_order, pair_within, pair_in_order}
use Rattle.record.specs.Format.{facing}
use Rattle.sets.specs.Sets.{has}
use Rattle.record.specs.Scans.{KindsBelow, OwnerSeen, ChoicesSeen, TurnsSeen, PairsSeen}
use Rattle.sets.specs.declared.Members.{Members}
use Rattle.record.specs.declared.scan.ChoiceScan.{ChoiceScan}
use Rattle.record.specs.declared.scan.PairScan.{PairScan}
use Rattle.record.specs.declared.scan.TurnScan.{TurnScan}
use Rattle.std.proofs.Math.Bool.{or_comm}
use Rattle.record.proofs.Lists.{kept_none, every_push, among_push}

-- keeping one more member, or passing it over
pub kept_push : {X : Type 0} (p : X → Bool) (xs : List X) (y : X) → p y ≡ true → filter p (xs ++ y ∷ []) ≡ filter p xs ++ y ∷ []
kept_push p xs y e = filter-append p xs (y ∷ []) ∙ ap (λ b. filter p xs ++ cond b (y ∷ []) []) e

pub kept_skip : {X : Type 0} (p : X → Bool) (xs : List X) (y : X) → p y ≡ false → filter p (xs ++ y ∷ []) ≡ filter p xs
kept_skip p xs y e = filter-append p xs (y ∷ []) ∙ ap (λ b. filter p xs ++ cond b (y ∷ []) []) e ∙ append-nil (filter p xs)

pub of_kind_push : (k : ℕ) (ws : List ℕ) (w : ℕ) → kind w ≡ k → of_kind k (ws ++ w ∷ []) ≡ of_kind k ws ++ w ∷ []
of_kind_push k ws w e = kept_push (λ v. eqb (kind v) k) ws w (eq-eqb (kind w) k e)

pub of_kind_skip : (k : ℕ) (ws : List ℕ) (w : ℕ) → (kind w ≡ k → ⊥) → of_kind k (ws ++ w ∷ []) ≡ of_kind k ws
of_kind_skip k ws w e = kept_skip (λ v. eqb (kind v) k) ws w (ne_eqb (kind w) k e)

-- no word of a kind where every word is of a kind below
pub of_kind_none : (k j : ℕ) (ws : List ℕ) → j ≤ k → KindsBelow j ws → of_kind k ws ≡ []
of_kind_none k j ws h e = kept_none (λ w. ltb (kind w) j) (λ w. eqb (kind w) k) (λ w t. ne_eqb (kind w) k (λ s. absurd (omega (arith, ltb-true (kind w) j t)))) ws e

pub ranked_by_push : (ws : List ℕ) (w p : ℕ) → kind w ≡ 2 → high w ≡ p → ranked_by (ws ++ w ∷ []) p ≡ ranked_by ws p ++ low w ∷ []
ranked_by_push ws w p e h =
    ap (λ l. map low (filter (λ v. eqb (high v) p) l)) (of_kind_push 2 ws w e)
    ∙ ap (map low) (kept_push (λ v. eqb (high v) p) (of_kind 2 ws) w (eq-eqb (high w) p h))
    ∙ map_push low (filter (λ v. eqb (high v) p) (of_kind 2 ws)) w

pub ranked_by_other : (ws : List ℕ) (w p : ℕ) → kind w ≡ 2 → (high w ≡ p → ⊥) → ranked_by (ws ++ w ∷ []) p ≡ ranked_by ws p
ranked_by_other ws w p e h =
    ap (λ l. map low (filter (λ v. eqb (high v) p) l)) (of_kind_push 2 ws w e)
    ∙ ap (map low) (kept_skip (λ v. eqb (high v) p) (of_kind 2 ws) w (ne_eqb (high w) p h))

-- an owner above all owners so far has no choice yet
pub ranked_by_new : (ws : List ℕ) (o p : ℕ) → every (λ v. leb (high v) o) (of_kind 2 ws) ≡ true → o < p → ranked_by ws p ≡ []
ranked_by_new ws o p e h =
    ap (map low) (kept_none (λ v. leb (high v) o) (λ v. eqb (high v) p) (λ v t. ne_eqb (high v) p (λ s. absurd (omega (arith, leb-true (high v) o t)))) (of_kind 2 ws) e)

pub pairs_in_push : (ws : List ℕ) (w : ℕ) → kind w ≡ 4 → pairs_in (ws ++ w ∷ []) ≡ pairs_in ws ++ pair_of w ∷ []
pairs_in_push ws w e = ap (map pair_of) (of_kind_push 4 ws w e) ∙ map_push pair_of (of_kind 4 ws) w

pub turns_in_push : (ws : List ℕ) (w : ℕ) → kind w ≡ 3 → turns_in (ws ++ w ∷ []) ≡ turns_in ws ++ low w ∷ []
turns_in_push ws w e = ap (map low) (of_kind_push 3 ws w e) ∙ map_push low (of_kind 3 ws) w

-- two bounds are one
pub bound_both : (a b k : ℕ) → a ≤ b → (leb a k && leb b k) ≡ leb b k
bound_both a b k h = grind (arith, nat_tests)

-- Before the first choice nothing is seen.
pub none_seen : (ws : List ℕ) (m : Members) → ((j : ℕ) → has m.0 j ≡ false) → KindsBelow 2 ws → ChoicesSeen (record { owner = 0; next = 0; named = m }) ws
none_seen ws m h b =
    let e : of_kind 2 ws ≡ [] = of_kind_none 2 2 ws (omega arith) b in
    let r : ranked_by ws 0 ≡ [] = ap (λ l. map low (filter (λ v. eqb (high v) 0) l)) e in
    record {
      owners = λ k. ap (every (λ v. leb (high v) k)) e ∙ sym (le-leb 0 k (omega arith));
      latest = record { count = sym (ap length r); members = λ q. h q ∙ sym (ap (among q) r) };
    }

-- A new owner has chosen nobody.
pub new_owner : (scan : ChoiceScan) (ws : List ℕ) (o : ℕ) (m : Members) → ((j : ℕ) → has m.0 j ≡ false) → scan.owner < o → ChoicesSeen scan ws → OwnerSeen (record { owner = o; next = 0; named = m }) ws
new_owner scan ws o m h l seen =
    let r : ranked_by ws o ≡ [] = ranked_by_new ws scan.owner o (seen.owners scan.owner ∙ le-leb scan.owner scan.owner (omega arith)) l in
    record { count = sym (ap length r); members = λ q. h q ∙ sym (ap (among q) r) }

-- One more choice of the owner at hand.
pub one_more_choice : (scan at : ChoiceScan) (ws : List ℕ) (w : ℕ) (m : Members) → kind w ≡ 2 → scan.owner ≤ high w → at.owner ≡ high w → ChoicesSeen scan ws → OwnerSeen at ws
    → ((j : ℕ) → has m.0 j ≡ (eqb j (low w) || has at.named.0 j))
    → ChoicesSeen (record { owner = at.owner; next = at.next + 1; named = m }) (ws ++ w ∷ [])
one_more_choice scan at ws w m e l o seen latest added =
    let r : ranked_by (ws ++ w ∷ []) at.owner ≡ ranked_by ws at.owner ++ low w ∷ [] = ranked_by_push ws w at.owner e (sym o) in
    record {
      owners = λ k.
          ap (every (λ v. leb (high v) k)) (of_kind_push 2 ws w e)
          ∙ every_push (λ v. leb (high v) k) (of_kind 2 ws) w
          ∙ ap (λ b. b && leb (high w) k) (seen.owners k)
          ∙ bound_both scan.owner (high w) k l
          ∙ ap (λ x. leb x k) (sym o);
      latest = record {
        count = ap (λ x. x + 1) latest.count ∙ sym (ap length r ∙ length_push (ranked_by ws at.owner) (low w));
        members = λ q.
            added q
            ∙ ap (λ b. eqb q (low w) || b) (latest.members q)
            ∙ or_comm (eqb q (low w)) (among q (ranked_by ws at.owner))
            ∙ sym (ap (among q) r ∙ among_push q (ranked_by ws at.owner) (low w));
      };
    }

-- no side has more than 16 parties
pub facing_few : (s g p : ℕ) → s ≤ 16 → g ≤ 16 → facing s g p ≤ 16
facing_few s g p a b = grind (arith, nat_tests)

-- A choice is in order exactly by what the scan keeps.
pub choice_order : (scan at : ChoiceScan) (ws : List ℕ) (w : ℕ) → scan.owner ≤ high w → at.owner ≡ high w → ChoicesSeen scan ws → OwnerSeen at ws
    → choice_in_order ws w ≡ (eqb (middle w) at.next && not (has at.named.0 (low w)))
choice_order scan at ws w l o seen latest =
    ap (λ b. b && (eqb (middle w) (length (ranked_by ws (high w))) && not (among (low w) (ranked_by ws (high w))))) (seen.owners (high w) ∙ le-leb scan.owner (high w) l)
    ∙ ap (λ x. eqb (middle w) (length (ranked_by ws x)) && not (among (low w) (ranked_by ws x))) (sym o)
    ∙ ap (λ x. eqb (middle w) x && not (among (low w) (ranked_by ws at.owner))) (sym latest.count)
    ∙ ap (λ b. eqb (middle w) at.next && not b) (sym (latest.members (low w)))

pub choice_below : (scan : ChoiceScan) (ws : List ℕ) (w : ℕ) → high w < scan.owner → ChoicesSeen scan ws → choice_in_order ws w ≡ false
choice_below scan ws w l seen = ap (λ b. b && (eqb (middle w) (length (ranked_by ws (high w))) && not (among (low w) (ranked_by ws (high w))))) (seen.owners (high w) ∙ lt-leb scan.owner (high w) l)

-- a ranked party within its side is below 16
pub choice_small : (s g w : ℕ) → s ≤ 16 → g ≤ 16 → choice_within s g w ≡ true → low w < 16
choice_small s g w a b e =
    let p = and_parts (ltb (high w) (s + g)) (ltb (low w) (facing s g (high w))) (and_parts (eqb (w / 0x1000000 % 16) 0) _ e).1 in
    omega (arith, ltb-true (low w) (facing s g (high w)) p.1, facing_few s g (high w) a b)

-- Before the first pair nothing is seen.
pub no_pair_seen : (ws : List ℕ) (m : Members) → ((j : ℕ) → has m.0 j ≡ false) → KindsBelow 4 ws → PairsSeen (record { floor = 0; given = m }) ws
no_pair_seen ws m h b =
    let e : pairs_in ws ≡ [] = ap (map pair_of) (of_kind_none 4 4 ws (omega arith) b) in
    record {
      streams = λ k. ap (every (λ q. ltb q.0 k)) e ∙ sym (le-leb 0 k (omega arith));
      lanes = λ q. h q ∙ sym (ap (λ l. among q (map (λ p. p.1) l)) e);
    }

-- a pair is in order exactly by what the scan keeps
pub pair_order : (scan : PairScan) (ws : List ℕ) (w : ℕ) → PairsSeen scan ws → pair_in_order ws w ≡ (leb scan.floor (middle w) && not (has scan.given.0 (low w)))
pair_order scan ws w seen =
    ap (λ b. b && not (among (low w) (map (λ p. p.1) (pairs_in ws)))) (seen.streams (middle w))
    ∙ ap (λ b. leb scan.floor (middle w) && not b) (sym (seen.lanes (low w)))

-- One more pair, of a stream above all before.
pub one_more_pair : (scan : PairScan) (ws : List ℕ) (w : ℕ) (m : Members) → kind w ≡ 4 → scan.floor ≤ middle w → PairsSeen scan ws
    → ((j : ℕ) → has m.0 j ≡ (eqb j (low w) || has scan.given.0 j))
    → PairsSeen (record { floor = middle w + 1; given = m }) (ws ++ w ∷ [])
one_more_pair scan ws w m e l seen added =
    let r : pairs_in (ws ++ w ∷ []) ≡ pairs_in ws ++ pair_of w ∷ [] = pairs_in_push ws w e in
    record {
      streams = λ k.
          ap (every (λ q. ltb q.0 k)) r
          ∙ every_push (λ q. ltb q.0 k) (pairs_in ws) (pair_of w)
          ∙ ap (λ b. b && ltb (middle w) k) (seen.streams k)
          ∙ floor_above scan.floor (middle w) k l;
      lanes = λ q.
          added q
          ∙ ap (λ b. eqb q (low w) || b) (seen.lanes q)
          ∙ or_comm (eqb q (low w)) (among q (map (λ p. p.1) (pairs_in ws)))
          ∙ sym (ap (λ l. among q (map (λ p. p.1) l)) r ∙ ap (among q) (map_push (λ p. p.1) (pairs_in ws) (pair_of w)) ∙ among_push q (map (λ p. p.1) (pairs_in ws)) (low w));
    }
  where
    floor_above : (a b k : ℕ) → a ≤ b → (leb a k && ltb b k) ≡ leb (b + 1) k
    floor_above a b k h = grind (arith, nat_tests)

pub pair_small : (s g w : ℕ) → g ≤ 16 → pair_within s g w ≡ true → low w < 16
pair_small s g w b e =
    let p = and_parts (ltb (middle w) s) (ltb (low w) g) (and_parts (eqb (w / 65536 % 4096) 0) (ltb (middle w) s && ltb (low w) g) e).1 in
    omega (arith, ltb-true (low w) g p.1)

-- of a word of kind k, the rules of that kind decide
pub kind_decides : (s g w k : ℕ) (before : List ℕ) (p q : ℕ × ℕ) → kind w ≡ k → or_else (refuse_if (not (within s g w)) p) (refuse_if (not (in_order before w)) q)
    ≡ or_else (refuse_if (not (by_kind k (head_within w) (choice_within s g w) (turn_within s g w) (pair_within s g w) true)) p)
    (refuse_if (not (by_kind k true (choice_in_order before w) (turn_in_order before) (pair_in_order before w) (end_in_order before w))) q)
kind_decides s g w k before p q e =
    ap (λ j. or_else (refuse_if (not (by_kind j (head_within w) (choice_within s g w) (turn_within s g w) (pair_within s g w) true)) p)
    (refuse_if (not (by_kind j true (choice_in_order before w) (turn_in_order before) (pair_in_order before w) (end_in_order before w))) q)) e

-- of a word whose bits and numbers are right, the order decides
pub order_decides : (w o x : Bool) (p q : ℕ × ℕ) → w ≡ true → o ≡ x → or_else (refuse_if (not w) p) (refuse_if (not o) q) ≡ refuse_if (not x) q
order_decides w o x p q e f = ap (λ b. or_else (refuse_if (not b) p) (refuse_if (not o) q)) e ∙ ap (λ b. refuse_if (not b) q) f

-- Before the first turn nothing is seen, and one more turn is one more.
pub no_turn_seen : (ws : List ℕ) → KindsBelow 3 ws → TurnsSeen (record { count = 0 }) ws
no_turn_seen ws b = record { count = sym (ap (λ l. length (map low l)) (of_kind_none 3 3 ws (omega arith) b)) }

pub one_more_turn : (scan : TurnScan) (ws : List ℕ) (w : ℕ) → kind w ≡ 3 → TurnsSeen scan ws → TurnsSeen (record { count = scan.count + 1 }) (ws ++ w ∷ [])
one_more_turn scan ws w e seen = record { count = ap (λ x. x + 1) seen.count ∙ sym (ap length (turns_in_push ws w e) ∙ length_push (turns_in ws) (low w)) }

pub turn_order : (scan : TurnScan) (ws : List ℕ) → TurnsSeen scan ws → turn_in_order ws ≡ ltb scan.count 7600
turn_order scan ws seen = ap (λ x. ltb x 7600) (sym seen.count)
