use Rattle.std.proofs.Common.{rules, ◌≡◌, Some, sym, ◌∙◌}
use Rattle.record.specs.declared.word.Kind.TheVariants.{End}
use Rattle.record.proofs.Bounds.{not_the_last, no_end, wrong_count, all_read}
use Rattle.record.proofs.read.read_end.Goals as goal
use Rattle.record.proofs.read.read_end.Goals.{then-at-words-via-then-at-words, then-at-words-via-else-at-words+then-ne}

pub returns-then-at-words : goal.returns-then-at-words
returns-then-at-words c =
    let ws = c.args.words.now in
    let n = c.args.at in
    record {
      end_or_first_fault = elim c.then-at-words.branch [
        | then-at-words-via-then-at-words w ↦ not_the_last ws n c.requires.read_so_far w.if-at-words.true
        | then-at-words-via-else-at-words+then-ne w ↦
            let other : w.of.result ≡ Some End → ⊥ = search rules in
            no_end ws n c.requires.read_so_far w.if-at-words.false (λ e. other ((w.of.ensures.is_the_kind End).1 e))
      ];
    }

pub returns-then-number_in-at : goal.returns-then-number_in-at
returns-then-number_in-at c =
    let told : c.of.result ≡ Some End = search rules in
    record {
      end_or_first_fault =
          wrong_count c.args.words.now c.args.at c.requires.read_so_far c.if-at-words.false ((c.of.ensures.is_the_kind End).0 told)
          (λ e. c.if-number_in-at.true (c.number_in.ensures.is_the_number ∙ e));
    }

pub returns : goal.returns
returns c =
    let told : c.of.result ≡ Some End = search rules in
    record {
      end_or_first_fault = (
        all_read c.args.words.now c.args.at c.requires.read_so_far c.if-at-words.false ((c.of.ensures.is_the_kind End).0 told) (sym c.number_in.ensures.is_the_number ∙ c.if-number_in-at.false),
        c.if-at-words.false,
      );
    }
