-- A listing: a ranking whose ranks are the places of a record.
use Rattle.std.specs.Prelude.{ℕ, ◌+◌, Bool, cond, List, Some, None, Option, nat_lt}
use Rattle.record.specs.Lists.{place_in}
use Rattle.record.specs.Refusals.{refuse_if, or_else}
use Rattle.record.specs.Format.{Content}
use Rattle.record.specs.Faults.{record_fault}
use Rattle.ranking.specs.Market.{Meaning}
use Rattle.ranking.specs.Places.{place_at}
use Rattle.ranking.specs.declared.listing.PlaceTable.{PlaceTable}
use Rattle.ranking.specs.declared.listing.Listing.{Listing}

-- what a table of places means, given the sizes: streams have the first rows, and lane j has row s + j
abbrev pub table_meaning : (streams lanes : ℕ) → List (List (Option ℕ)) → Meaning
table_meaning s g places = record {
  streams = s;
  lanes = g;
  by_stream = λ i j. cond (nat_lt i s) (cond (nat_lt j g) (place_at places i j) None) None;
  by_lane = λ j i. cond (nat_lt j g) (cond (nat_lt i s) (place_at places (s + j) i) None) None;
}

-- what a new listing means: one stream, one lane, and nobody ranks anybody
abbrev pub unlisted : Meaning
unlisted = record { streams = 1; lanes = 1; by_stream = λ i j. None; by_lane = λ j i. None }

-- what a listing's table means, where it has one
abbrev pub filled_meaning : Option PlaceTable → Meaning
filled_meaning None = unlisted
filled_meaning (Some t) = table_meaning t.sizes.streams t.sizes.lanes t.places

-- what a listing means
abbrev pub listed : Listing → Meaning
listed x = filled_meaning x.table

-- what a content's choices mean: a rank is the place among the parties that the ranker names, and lane j is party s + j
abbrev pub content_meaning : Content → Meaning
content_meaning c = record {
  streams = c.streams;
  lanes = c.lanes;
  by_stream = λ i j. cond (nat_lt i c.streams) (place_in j (c.ranked i)) None;
  by_lane = λ j i. place_in i (c.ranked (c.streams + j));
}

-- what refuses to fill a listing: what refuses the record, then that it was filled before
abbrev pub fill_fault : List ℕ → Bool → Option (ℕ × ℕ)
fill_fault words filled = or_else (record_fault words) (refuse_if filled (11, 0))
