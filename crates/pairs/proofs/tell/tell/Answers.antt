use Rattle.std.proofs.Common.{take, ap, ◌∙◌, subst}
use Rattle.pairs.specs.Telling.{Told, is_stable}
use Rattle.pairs.proofs.tell.tell.Goals as goal

pub returns-in_ok-length-in-Ok : goal.returns-in_ok-length-in-Ok
returns-in_ok-length-in-Ok c =
    let told = c.in-Ok.ensures in
    let text = c.in_ok-length-in-Ok.ensures in
    record {
      refused_as_told = text.refused_as_told;
      told_as_told = subst (λ fault. Told c.args.bytes.now fault (take c.in_ok-length-in-Ok.length c.judged_text.new.text) c.is_stable.result) told.refused_as_told
          (record {
            content = told.judged_by_the_content.0;
            judged = c.in-Ok.judged;
            is_its_record = told.judged_by_the_content.1.0;
            is_judged = told.judged_by_the_content.1.1;
            text_of_it = text.text_or_unchanged.front;
            ends = c.is_stable.ensures.is_the_answer ∙ ap is_stable c.finding.ensures.is_the_answer;
          });
      within_the_list = text.within_the_list;
    }
