use Rattle.std.proofs.Common.{map, refl, sym, ap, ◌∙◌, arith, rules}
use Rattle.std.proofs.lemmas.List.{length-map, length-set}
use Rattle.ranking.specs.Figures.{small}
use Rattle.ranking.proofs.Scores.{small_same, small_set, held_more, record_read, party_read, party_refused}
use Rattle.ranking.proofs.scorer.Side.of.Goals as goal

pub loop-k-init : goal.loop-k-init
loop-k-init g c = record { unrefused = refl; held = λ i l. absurd (omega arith); small = small_same 16 c.default-figures.result (search rules); whole = refl }

pub loop-k-preserved : goal.loop-k-preserved
loop-k-preserved g c =
    let k = c.loop-k.k in
    let xs = map g.figured c.args.records.now in
    let at = c.requires.1.0 _ _ c.into-party.ensures ∙ record_read g.figured c.args.records.now k _ c.loop-k-test.true c.index-records-k.is in
    let fine = sym c.is_small.ensures.is_the_rule ∙ c.if-not-is_small.false in
    record {
      unrefused = party_read c.args.first xs k (ap small (sym at) ∙ fine) c.loop-k.invariant.unrefused;
      held = held_more xs c.loop-k.figures k c.into-party.result (omega arith) at c.loop-k.invariant.held;
      small = small_set c.loop-k.figures k c.into-party.result (omega arith) fine c.loop-k.invariant.small;
      whole = length-set c.loop-k.figures k c.into-party.result ∙ c.loop-k.invariant.whole;
    }

pub returns-then-not-is_small-clause-refused_as_told : goal.returns-then-not-is_small-clause-refused_as_told
returns-then-not-is_small-clause-refused_as_told g c =
    let k = c.loop-k.k in
    let xs = map g.figured c.args.records.now in
    let at = c.requires.1.0 _ _ c.into-party.ensures ∙ record_read g.figured c.args.records.now k _ c.loop-k-test.true c.index-records-k.is in
    sym (party_refused c.args.first xs k (omega (arith, length-map c.args.records.now g.figured)) (ap small (sym at) ∙ sym c.is_small.ensures.is_the_rule ∙ c.if-not-is_small.true) c.loop-k.invariant.unrefused)
