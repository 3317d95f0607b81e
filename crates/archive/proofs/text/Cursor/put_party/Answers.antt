use Rattle.std.proofs.Common.{arith}
use Rattle.std.proofs.lemmas.Fmt.{length-decimal-le}
use Rattle.archive.proofs.Writing.{wrote_both}
use Rattle.archive.proofs.text.Cursor.put_party.Goals as goal

pub put_number-requires : goal.put_number-requires
put_number-requires c = record { there_is_room = omega (arith, c.requires.there_is_room, c.push.ensures.wrote_the_byte.place, c.push.ensures.wrote_the_byte.size, length-decimal-le 3 c.args.number (omega arith) (omega arith) (omega arith)) }

pub returns-clause-takes_at_most_four : goal.returns-clause-takes_at_most_four
returns-clause-takes_at_most_four c = omega (arith, c.push.ensures.wrote_the_byte.place, c.put_number.ensures.wrote_the_number.place, length-decimal-le 3 c.args.number (omega arith) (omega arith) (omega arith))

pub returns-clause-wrote_the_party : goal.returns-clause-wrote_the_party
returns-clause-wrote_the_party c = wrote_both _ _ _ _ _ _ _ _ c.push.ensures.wrote_the_byte c.put_number.ensures.wrote_the_number
