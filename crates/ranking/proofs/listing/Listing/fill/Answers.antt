use Rattle.ranking.proofs.Tables.{enterable, entered_distinct, table_content}
use Rattle.ranking.proofs.listing.Listing.fill.Goals as goal

pub places_of-places-requires : goal.places_of-places-requires
places_of-places-requires c =
    let told = c.in_ok-parts.ensures.parts_of_the_content in
    record { choices_of_a_record = enterable told.0 told.1.0.lawful c.in_ok-parts.parts.choices.words.now told.1.1.choice_part }

pub invariant_of-self : goal.invariant_of-self
invariant_of-self c = record {
  strict = entered_distinct c.places_of-places.result c.in_ok-parts.parts.choices.words.now c.places_of-places.ensures.has_every_place;
  small = c.places_of-places.ensures.has_small_places;
}

pub returns-clause-ranks_by_the_content : goal.returns-clause-ranks_by_the_content
returns-clause-ranks_by_the_content c =
    let told = c.in_ok-parts.ensures.parts_of_the_content in
    let parts = told.1.1 in (
      told.0,
      (
        told.1,
        table_content told.0 told.1.0.lawful c.in_ok-parts.parts.choices.words.now c.places_of-places.result c.in_ok-parts.parts.sizes.streams c.in_ok-parts.parts.sizes.lanes parts.choice_part (λ p q _ _. c.places_of-places.ensures.has_every_place p q) parts.streams parts.lanes,
      ),
    )
