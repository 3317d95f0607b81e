use Rattle.std.proofs.Common.{decimal, refl, ap, arith}
use Rattle.std.proofs.lemmas.Fmt.{length-decimal-le}
use Rattle.archive.proofs.Writing.{wrote_both, wrote_as}
use Rattle.archive.proofs.text.Cursor.put_refusal.Goals as goal

pub put_number-requires : goal.put_number-requires
put_number-requires c = record { there_is_room = omega (arith, c.requires.there_is_room, c.put.ensures.wrote_the_bytes.place, c.put.ensures.wrote_the_bytes.size, length-decimal-le 5 c.number.result (omega arith) (omega arith) (omega arith)) }

pub put_number-requires-2 : goal.put_number-requires-2
put_number-requires-2 c =
    let first = c.put.ensures.wrote_the_bytes in
    let number = c.put_number.ensures.wrote_the_number in
    let second = c.put-2.ensures.wrote_the_bytes in
    record { there_is_room = omega (arith, c.requires.there_is_room, first.place, first.size, c.put_number.ensures.takes_at_most_five, number.size, second.place, second.size, length-decimal-le 5 c.place.result (omega arith) (omega arith) (omega arith)) }

pub returns-clause-wrote_the_line : goal.returns-clause-wrote_the_line
returns-clause-wrote_the_line c =
    let number = wrote_as _ _ _ _ _ _ _ (ap decimal c.number.ensures.is_the_number) refl c.put_number.ensures.wrote_the_number in
    let place = wrote_as _ _ _ _ _ _ _ (ap decimal c.place.ensures.is_the_place) refl c.put_number-2.ensures.wrote_the_number in
    wrote_both _ _ _ _ _ _ _ _
    (wrote_both _ _ _ _ _ _ _ _ c.put.ensures.wrote_the_bytes (wrote_both _ _ _ _ _ _ _ _ number (wrote_both _ _ _ _ _ _ _ _ c.put-2.ensures.wrote_the_bytes place)))
    c.put-3.ensures.wrote_the_bytes
