-- A pairing of a market's streams and lanes: a list of bytes, for each stream the number of its lane or
-- 255 for nobody, with no lane twice.
use Rattle.std.specs.Prelude.{◌≡◌, ℕ, ◌+◌, ◌-◌, ◌<◌, Bool, cond, not, ◌⊎◌, List, length, take, Some, None, Option, ◌==◌, nat_lt, slice_index, slice_index_or}
use Rattle.record.specs.Refusals.{or_else, refuse_if}
use Rattle.record.specs.Lists.{among, place_in, earliest}
use Rattle.ranking.specs.Market.{Market}

-- whether the byte of stream i is wrong: a lane that a lower stream has, or neither a lane nor 255
abbrev pub wrong_at : Market → List ℕ → ℕ → Bool
wrong_at m bytes i =
    cond (nat_lt (slice_index bytes i) m.lanes) (among (slice_index bytes i) (take i bytes)) (not (slice_index bytes i == 255))

-- what refuses the byte of stream i
abbrev pub stream_fault : Market → List ℕ → ℕ → Option (ℕ × ℕ)
stream_fault m bytes i = refuse_if (wrong_at m bytes i) (8, i)

-- what refuses a pairing, always with number 8: at place 255 a list that has not one byte for each
-- stream, then at the lowest stream whose byte is wrong
abbrev pub pairing_fault : Market → List ℕ → Option (ℕ × ℕ)
pairing_fault m bytes =
    or_else (refuse_if (not (length bytes == m.streams)) (8, 255)) (earliest (stream_fault m bytes) m.streams)

-- what a pairing keeps
pub record LawfulPairing (m : Market) (bytes : List ℕ) : Type 0 where
  -- there is one byte for each stream
  pub count : length bytes ≡ m.streams
  -- each is a lane's number, or 255
  pub named : (i : ℕ) → i < m.streams → (slice_index bytes i < m.lanes) ⊎ (slice_index bytes i ≡ 255)
  -- no two streams have one lane
  pub once : (i j : ℕ) → i < m.streams → j < m.streams → slice_index bytes i < m.lanes → slice_index bytes i ≡ slice_index bytes j → i ≡ j

-- the party that a stream's byte names: of s streams, lane j is party s + j, and any other byte is nobody
abbrev pub lane_party : Market → ℕ → Option ℕ
lane_party m byte = cond (nat_lt byte m.lanes) (Some (m.streams + byte)) None

-- whom each party holds under a lawful pairing, by party numbers: a stream the lane that its byte names, and
-- a lane the stream at whose place the lane's number stands
abbrev pub holding_of : Market → List ℕ → ℕ → Option ℕ
holding_of m bytes p =
    cond (nat_lt p m.streams) (lane_party m (slice_index bytes p))
    (cond (nat_lt (p - m.streams) m.lanes) (place_in (p - m.streams) bytes) None)

-- a table of the lanes' streams is right for a pairing: 16 places, and at each lane's the stream that has the lane, or none
abbrev pub TableOf : (bytes : List ℕ) (table : List (Option ℕ)) → Type 0
TableOf bytes table = (length table ≡ 16) × ((j : ℕ) → j < 16 → slice_index_or table j None ≡ place_in j bytes)
