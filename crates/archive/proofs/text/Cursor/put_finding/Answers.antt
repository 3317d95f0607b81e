use Rattle.archive.proofs.Writing.{wrote_both}
use Rattle.archive.proofs.text.Cursor.put_finding.Goals as goal

pub returns-clause-wrote_the_line : goal.returns-clause-wrote_the_line
returns-clause-wrote_the_line c = wrote_both _ _ _ _ _ _ _ _ c.put_answer.ensures.wrote_the_answer c.put.ensures.wrote_the_bytes
