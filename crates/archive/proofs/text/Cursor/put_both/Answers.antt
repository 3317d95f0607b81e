use Rattle.archive.proofs.Writing.{wrote_both}
use Rattle.archive.proofs.text.Cursor.put_both.Goals as goal

pub returns-clause-wrote_both : goal.returns-clause-wrote_both
returns-clause-wrote_both c = wrote_both _ _ _ _ _ _ _ _ c.put_party.ensures.wrote_the_party (wrote_both _ _ _ _ _ _ _ _ c.put.ensures.wrote_the_bytes c.put_party-2.ensures.wrote_the_party)
