-- The parts that a reader comes to are the parts of the content.
use Rattle.std.proofs.Common.{◌≡◌, ℕ, ◌+◌, ◌-◌, ◌<◌, ◌≤◌, List, [], ◌∷◌, ◌++◌, length, get_or, take, drop, None, sym, refl, ap, ◌∙◌, arith, take-add}
use Rattle.std.specs.List.{between}
use Rattle.std.proofs.lemmas.List.Edits.{between_more, length-between}
use Rattle.std.proofs.lemmas.List.{drop-drop, drop_more, take_all, length-take-le}
use Rattle.std.proofs.lemmas.Bool.{eqb-true, eq-eqb}
use Rattle.record.specs.Lists.{earliest}
use Rattle.record.specs.Format.{Content, Records, record_words}
use Rattle.record.specs.Faults.{kind, middle, low, of_kind, fault_at, allowed}
use Rattle.record.specs.Reading.{PartRead, PartsOf}
use Rattle.record.proofs.Lists.{earliest_none}
use Rattle.record.proofs.Bounds.{allowed_last}
use Rattle.record.proofs.Contents.{choices_of, turns_of, pairs_of, content_choices, content_turns, content_pairs}
use Rattle.record.proofs.Faultless.{so_far, faultless_record, rules_kept}

-- two parts, one after the other
between_join : (ws : List ℕ) (i j k : ℕ) → i ≤ j → j ≤ k → between i k ws ≡ between i j ws ++ between j k ws
between_join ws i j k a b =
    let e : k - i ≡ (j - i) + (k - j) = omega arith in
    let f : i + (j - i) ≡ j = omega arith in
    ap (λ n. take n (drop i ws)) e
    ∙ take-add (j - i) (k - j) (drop i ws)
    ∙ ap (λ l. take (j - i) (drop i ws) ++ take (k - j) l) (drop-drop (j - i) i ws ∙ ap (λ n. drop n ws) f)

module _ (ws : List ℕ) (a b n : ℕ) (p2 : PartRead ws 2 1 a) (p3 : PartRead ws 3 a b) (p4 : PartRead ws 4 b n) (whole : n + 1 ≡ length ws) (clean : earliest (fault_at ws) (length ws) ≡ None) where
  clear : (i : ℕ) → i < length ws → fault_at ws i ≡ None
  clear = earliest_none (fault_at ws) (length ws) clean

  some : 1 ≤ n
  some = p4.reached.some

  rec : Records ws (so_far (middle (get_or ws 0 0)) (low (get_or ws 0 0)) (take n ws))
  rec = faultless_record ws clear n some whole

  middle_part : between 1 n ws ≡ between 1 a ws ++ (between a b ws ++ between b n ws)
  middle_part =
      between_join ws 1 a n p2.from (omega (arith, p3.from, p4.from))
      ∙ ap (λ l. between 1 a ws ++ l) (between_join ws a b n p3.from p4.from)

  split : get_or ws 0 0 ∷ (between 1 a ws ++ (between a b ws ++ between b n ws)) ++ get_or ws n 0 ∷ [] ≡ ws
  split =
      ap (λ l. get_or ws 0 0 ∷ l ++ get_or ws n 0 ∷ []) (sym middle_part)
      ∙ ap (λ l. get_or ws 0 0 ∷ l) (sym (between_more ws 1 n 0 some (omega arith)))
      ∙ ap (λ l. get_or ws 0 0 ∷ l) (take_all (n + 1 - 1) (drop 1 ws) (after ws whole))
      ∙ sym (drop_more ws 0 0 (omega arith))
    where
      after : (l : List ℕ) → n + 1 ≡ length l → length (drop 1 l) ≤ n + 1 - 1
      after [] e = omega arith
      after (x ∷ xs) e = omega arith

  head_kind : kind (get_or ws 0 0) ≡ 1
  head_kind = eqb-true (kind (get_or ws 0 0)) 1 (rules_kept ws 0 (clear 0 (omega arith))).0

  end_kind : kind (get_or ws n 0) ≡ 5
  end_kind = eqb-true (kind (get_or ws n 0)) 5 (sym (allowed_last (take n ws) (get_or ws n 0) long) ∙ ap (allowed (take n ws) (get_or ws n 0)) (sym (eq-eqb (n + 1) (length ws) whole)) ∙ (rules_kept ws n (clear n (omega arith))).0)
    where
      long : 1 ≤ length (take n ws)
      long = rw (length-take-le n ws (omega arith)) some

  abbrev content : Content
  content = so_far (middle (get_or ws 0 0)) (low (get_or ws 0 0)) (take n ws)

  part_words : (k : ℕ) (part : List ℕ) → of_kind k (get_or ws 0 0 ∷ (between 1 a ws ++ (between a b ws ++ between b n ws)) ++ get_or ws n 0 ∷ []) ≡ part → part ≡ of_kind k (record_words content)
  part_words k part e = sym e ∙ ap (of_kind k) (split ∙ rec.words)

  pub parts_read : (s g : ℕ) → s ≡ middle (get_or ws 0 0) → g ≡ low (get_or ws 0 0) → (c : Content) × (Records ws c × PartsOf c s g (1, between 1 a ws) (a, between a b ws) (b, between b n ws))
  parts_read s g es eg = (
    content,
    (
      rec,
      record {
        streams = es;
        lanes = eg;
        choices_at = refl;
        choice_part = part_words 2 (between 1 a ws) (choices_of h e cs ts ps head_kind p2.kinds p3.kinds p4.kinds end_kind) ∙ content_choices content rec.lawful;
        turns_at = omega (arith, length-between ws 1 a (omega (arith, p2.reached.inside)), p2.from);
        turn_words = part_words 3 (between a b ws) (turns_of h e cs ts ps head_kind p2.kinds p3.kinds p4.kinds end_kind) ∙ content_turns content rec.lawful;
        pairs_at = omega (arith, length-between ws a b (omega (arith, p3.reached.inside)), p3.from);
        pair_words = part_words 4 (between b n ws) (pairs_of h e cs ts ps head_kind p2.kinds p3.kinds p4.kinds end_kind) ∙ content_pairs content rec.lawful;
      },
    ),
  )
    where
      h : ℕ
      h = get_or ws 0 0

      e : ℕ
      e = get_or ws n 0

      cs : List ℕ
      cs = between 1 a ws

      ts : List ℕ
      ts = between a b ws

      ps : List ℕ
      ps = between b n ws
