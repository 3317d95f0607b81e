use Rattle.std.proofs.Common.{◌≡◌, ℕ, ◌+◌, ◌<◌, ◌≤◌, true, false, not, ◌&&◌, ◌||◌, eqb, leb, sym, refl, ap, ◌∙◌, arith}
use Rattle.std.proofs.lemmas.Bool.{lt-ltb, le-leb, lt-leb, and_left, and_right, and_from}
use Rattle.sets.specs.Sets.{has}
use Rattle.record.specs.Faults.{low, middle, pair_within}
use Rattle.record.specs.declared.scan.PairScan.{PairScan}
use Rattle.record.proofs.Scanning.{kind_decides, pair_order, one_more_pair, pair_small, order_decides}
use Rattle.record.proofs.order.PairScanScan.word.Goals as goal
use Rattle.record.proofs.order.PairScanScan.word.Goals.{then-stream-self-via-then-stream-self, then-stream-self-via-else-stream-self+then-contains}

pub returns-then-stream-self : goal.returns-then-stream-self
returns-then-stream-self c =
    record {
      same_kind = refl;
      refused_as_told = λ before seen.
          sym (kind_decides c.args.sizes.streams c.args.sizes.lanes c.args.word 4 before (3, c.args.at) (4, c.args.at) c.requires.of_the_kind
          ∙ order_decides _ _ false (3, c.args.at) (4, c.args.at) (sym c.if-not-pair_within.ensures.is_the_rule) (pair_order scan before word seen ∙ wrong));
      refused_changes_nothing = refl;
      has_seen_one_more = λ before seen e. grind arith;
    }
  where
    word : ℕ
    word = c.args.word

    scan : PairScan
    scan = c.args.self.now

    wrong : (leb scan.floor (middle word) && not (has scan.given.0 (low word))) ≡ false
    wrong = elim c.then-stream-self.branch [
      | then-stream-self-via-then-stream-self w ↦
          and_left (leb scan.floor (middle word)) (not (has scan.given.0 (low word))) (lt-leb scan.floor (middle word) (omega (arith, w.if-stream-self.true)))
      | then-stream-self-via-else-stream-self+then-contains w ↦
          and_right (leb scan.floor (middle word)) (not (has scan.given.0 (low word)))
          (ap not (ap (has scan.given.0) (sym c.low_byte-lane.ensures.is_the_low_byte) ∙ sym w.if-contains.ensures.is_membership))
    ]

pub returns : goal.returns
returns c =
    let word = c.args.word in
    let sizes = c.args.sizes in
    let scan = c.args.self.now in
    let m = c.insert.new.self in
    let lane = c.low_byte-lane.result in
    let w : pair_within sizes.streams sizes.lanes word ≡ true = sym c.if-not-pair_within.ensures.is_the_rule in
    let q : lane ≡ low word = c.low_byte-lane.ensures.is_the_low_byte in
    let few : lane < 32 = omega (arith, pair_small sizes.streams sizes.lanes word (omega arith) w) in
    let above : scan.floor ≤ middle word = omega arith in
    let new : has scan.given.0 (low word) ≡ false = ap (has scan.given.0) (sym q) ∙ sym c.if-contains.ensures.is_membership in
    let right : (leb scan.floor (middle word) && not (has scan.given.0 (low word))) ≡ true = and_from _ _ (le-leb scan.floor (middle word) above) (ap not new) in
    let next : c.middle_byte-stream.result + 1 ≡ middle word + 1 = omega arith in
    record {
      same_kind = refl;
      refused_as_told = λ before seen.
          sym (kind_decides c.args.sizes.streams c.args.sizes.lanes c.args.word 4 before (3, c.args.at) (4, c.args.at) c.requires.of_the_kind
          ∙ order_decides _ _ true (3, c.args.at) (4, c.args.at) w (pair_order scan before word seen ∙ right));
      refused_changes_nothing = tt;
      has_seen_one_more = λ before seen e.
          rw next (one_more_pair scan before word m c.requires.of_the_kind above seen
          (λ j. c.insert.ensures.adds_one j
          ∙ ap (λ b. b && eqb j lane || has scan.given.0 j) (lt-ltb lane 32 few)
          ∙ ap (λ x. eqb j x || has scan.given.0 j) q));
    }
