use Rattle.std.proofs.Common.{take}
use Rattle.ranking.specs.Places.{SmallPlaces, Entered}
use Rattle.ranking.proofs.Tables.{WholeTable}
use Rattle.ranking.proofs.listing.places_of.Given as goal

abbrev pub invariant-loop-word : goal.invariant-loop-word
invariant-loop-word l = record { right : Entered l.places (take l.word-index l.choices); small : SmallPlaces l.places; whole : WholeTable l.places }
