use Rattle.std.proofs.Common.{◌≡◌, ◌<◌, ◌≤◌, true, false, not, ◌&&◌, ◌||◌, eqb, sym, refl, ap, ◌∙◌, arith}
use Rattle.std.proofs.lemmas.Bool.{lt-ltb, eq-eqb}
use Rattle.sets.specs.Sets.{has}
use Rattle.record.specs.Faults.{high, low, middle, choice_within}
use Rattle.record.proofs.Scanning.{kind_decides, order_decides, choice_below, choice_order, one_more_choice, choice_small}
use Rattle.record.proofs.order.ChoiceScanScan.word.Goals as goal

pub returns-then-owner-self : goal.returns-then-owner-self
returns-then-owner-self c =
    let h : high c.args.word < c.args.self.now.owner = omega arith in
    record {
      same_kind = refl;
      refused_as_told = λ before seen.
          let o = choice_below c.args.self.now before c.args.word h seen in
          sym (kind_decides c.args.sizes.streams c.args.sizes.lanes c.args.word 2 before (3, c.args.at) (4, c.args.at) c.requires.of_the_kind
          ∙ order_decides _ _ false (3, c.args.at) (4, c.args.at) (sym c.if-not-choice_within.ensures.is_the_rule) o);
      refused_changes_nothing = refl;
      has_seen_one_more = λ before seen e. grind arith;
    }

pub returns : goal.returns
returns c =
    let word = c.args.word in
    let sizes = c.args.sizes in
    let scan = c.args.self.now in
    let at = c.at_owner-scan.result in
    let l : scan.owner ≤ high word = omega arith in
    let o : at.owner ≡ high word = c.at_owner-scan.ensures.is_the_owner ∙ c.high_byte-owner.ensures.is_the_high_byte in
    let w : choice_within sizes.streams sizes.lanes word ≡ true = sym c.if-not-choice_within.ensures.is_the_rule in
    let q : c.low_byte-ranked.result ≡ low word = c.low_byte-ranked.ensures.is_the_low_byte in
    let few : c.low_byte-ranked.result < 32 = omega (arith, choice_small sizes.streams sizes.lanes word (omega arith) (omega arith) w) in
    let place : eqb (middle word) at.next ≡ true = eq-eqb (middle word) at.next (omega arith) in
    let new : has at.named.0 (low word) ≡ false = ap (has at.named.0) (sym q) ∙ sym c.if-contains.ensures.is_membership in
    let kept = c.at_owner-scan.ensures.keeps_what_was_seen in
    record {
      same_kind = refl;
      refused_as_told = λ before seen.
          let order = choice_order scan at before word l o seen (kept before seen) in
          sym (kind_decides sizes.streams sizes.lanes word 2 before (3, c.args.at) (4, c.args.at) c.requires.of_the_kind
          ∙ order_decides _ _ true (3, c.args.at) (4, c.args.at) w (order ∙ ap (λ b. b && not (has at.named.0 (low word))) place ∙ ap not new));
      refused_changes_nothing = tt;
      has_seen_one_more = λ before seen e.
          one_more_choice scan at before word c.insert.new.self c.requires.of_the_kind l o seen (kept before seen)
          (λ j. c.insert.ensures.adds_one j
          ∙ ap (λ b. b && eqb j c.low_byte-ranked.result || has at.named.0 j) (lt-ltb c.low_byte-ranked.result 32 few)
          ∙ ap (λ x. eqb j x || has at.named.0 j) q);
    }
