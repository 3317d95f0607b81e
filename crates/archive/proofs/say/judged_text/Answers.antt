use Rattle.std.proofs.Common.{rules}
use Rattle.archive.proofs.Writing.{wrote_both, wrote_front}
use Rattle.archive.proofs.say.judged_text.Goals as goal

pub returns-clause-text_or_unchanged : goal.returns-clause-text_or_unchanged
returns-clause-text_or_unchanged c =
    let both = wrote_both _ _ _ _ _ _ _ _ c.put_pairs.ensures.wrote_the_lines c.put_finding.ensures.wrote_the_line in
    search (rules, both, wrote_front)
