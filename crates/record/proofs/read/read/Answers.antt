use Rattle.std.proofs.Common.{◌≡◌, true, is_ok, None, Ok, Err, Result, ◌∙◌}
use Rattle.record.specs.Refusals.{refused_by}
use Rattle.record.specs.declared.refusal.Refusal.{Refusal}
use Rattle.record.proofs.Contents.{one_content, one_record}
use Rattle.record.proofs.Lawfuls.{record_faultless}
use Rattle.record.proofs.read.read.Goals as goal

-- a call that is not refused answers Ok
not_refused : {X : Type 0} (r : Result X Refusal) → refused_by r ≡ None → is_ok r ≡ true
not_refused (Ok x) e = mathlib.Core.Path.refl
not_refused (Err f) e = grind native.Mathlib.Omega.arith

pub returns : goal.returns
returns c =
    let answer = c.read_parts.ensures in
    record {
      refused_as_told = answer.refused_as_told;
      parts_of_the_content = answer.parts_of_the_content;
      reads_every_record = λ d r. not_refused c.read_parts.result (answer.refused_as_told ∙ record_faultless c.args.words.now d r);
      one_content_a_record = one_content;
      one_record_a_content = one_record;
    }
