use Rattle.std.proofs.Common.{IfOk, ap, ◌∙◌, subst}
use Rattle.record.specs.Refusals.{or_else}
use Rattle.record.specs.Bytes.{words_of}
use Rattle.record.specs.Faults.{record_fault}
use Rattle.record.specs.Format.{Content, Records}
use Rattle.archive.specs.Judging.{JudgedOf}
use Rattle.pairs.proofs.tell.judge_bytes.Goals as goal

pub returns : goal.returns
returns c =
    let bytes = c.args.bytes.now in
    let read = c.in_ok-count.ensures.words_or_unchanged.front in
    record {
      refused_as_told =
          c.judge.ensures.refused_as_told
          ∙ ap record_fault read
          ∙ ap (λ o. or_else o (record_fault (words_of bytes))) c.in_ok-count.ensures.refused_as_told;
      judged_by_the_content = subst (λ ws. IfOk c.judge.result (λ j. (x : Content) × (Records ws x × JudgedOf x j))) read c.judge.ensures.judged_by_the_content;
    }
