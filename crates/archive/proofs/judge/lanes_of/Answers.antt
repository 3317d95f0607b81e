use Rattle.std.proofs.Common.{◌≡◌, ℕ, ◌+◌, ◌<◌, map, get_or, take, set, sym, ap, ◌∙◌, subst, arith}
use Rattle.std.proofs.ByRecursion.{All-get_or}
use Rattle.std.proofs.lemmas.List.{length-set, length-map, get_or-map, take_all}
use Rattle.record.specs.Faults.{middle, pair_of}
use Rattle.archive.specs.Pairs.{lane_of}
use Rattle.archive.proofs.Paired.{one_paired}
use Rattle.archive.proofs.judge.lanes_of.Goals as goal

pub bounds-lanes-middle_byte : goal.bounds-lanes-middle_byte
bounds-lanes-middle_byte c =
    let ws = c.args.pairs.now in
    let k = c.loop-word.word-index in
    let few = All-get_or (λ x. x < 16) (map middle ws) k 0 (subst (λ n. k < n) (sym (length-map ws middle)) c.loop-word-test.true) c.requires.streams_are_few in
    omega (arith, c.middle_byte.ensures.is_the_middle_byte, get_or-map middle ws k 0 0 c.loop-word-test.true, few)

pub loop-word-preserved : goal.loop-word-preserved
loop-word-preserved c =
    let ws = c.args.pairs.now in
    let k = c.loop-word.word-index in
    let lanes = c.loop-word.lanes in
    let few = All-get_or (λ x. x < 16) (map middle ws) k 0 (subst (λ n. k < n) (sym (length-map ws middle)) c.loop-word-test.true) c.requires.streams_are_few in
    let small : middle (get_or ws k 0) < 16 = omega (arith, get_or-map middle ws k 0 0 c.loop-word-test.true, few) in
    let next = one_paired lanes ws k c.loop-word-test.true c.loop-word.invariant.1 c.requires.streams_rise small c.loop-word.invariant.0 in (
      subst (λ x. (i : ℕ) → i < 16 → get_or (set lanes x c.low_byte.result) i 255 ≡ lane_of (map pair_of (take (k + 1) ws)) i) (sym c.middle_byte.ensures.is_the_middle_byte)
          (subst (λ x. (i : ℕ) → i < 16 → get_or (set lanes (middle (get_or ws k 0)) x) i 255 ≡ lane_of (map pair_of (take (k + 1) ws)) i) (sym c.low_byte.ensures.is_the_low_byte) next),
      length-set lanes c.middle_byte.result c.low_byte.result ∙ c.loop-word.invariant.1,
    )

pub returns : goal.returns
returns c =
    let ws = c.args.pairs.now in
    record {
      has_every_pair = λ i h. c.loop-word.invariant.0 i h ∙ ap (λ l. lane_of (map pair_of l) i) (take_all c.loop-word.word-index ws (omega arith));
      is_whole = c.loop-word.invariant.1;
    }
