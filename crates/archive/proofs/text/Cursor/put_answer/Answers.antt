use Rattle.archive.proofs.Writing.{wrote_both}
use Rattle.archive.proofs.text.Cursor.put_answer.Goals as goal

pub returns-in-Unranked-clause-wrote_the_answer : goal.returns-in-Unranked-clause-wrote_the_answer
returns-in-Unranked-clause-wrote_the_answer c = rw c.in-Unranked.is (wrote_both _ _ _ _ _ _ _ _ c.put-in-Unranked.ensures.wrote_the_bytes c.put_party.ensures.wrote_the_party)

pub returns-in-Blocked-clause-wrote_the_answer : goal.returns-in-Blocked-clause-wrote_the_answer
returns-in-Blocked-clause-wrote_the_answer c = rw c.in-Blocked.is (wrote_both _ _ _ _ _ _ _ _ c.put-in-Blocked.ensures.wrote_the_bytes c.put_both.ensures.wrote_both)
