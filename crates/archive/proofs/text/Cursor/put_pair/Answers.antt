use Rattle.archive.proofs.Writing.{wrote_both}
use Rattle.archive.proofs.text.Cursor.put_pair.Goals as goal

pub returns-clause-wrote_the_line : goal.returns-clause-wrote_the_line
returns-clause-wrote_the_line c =
    wrote_both _ _ _ _ _ _ _ _
    (wrote_both _ _ _ _ _ _ _ _ c.put_party.ensures.wrote_the_party (wrote_both _ _ _ _ _ _ _ _ c.put.ensures.wrote_the_bytes c.put_holding.ensures.wrote_the_holding))
    c.put-2.ensures.wrote_the_bytes
