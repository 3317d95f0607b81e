-- The pairing that a record files.
use Rattle.std.specs.Prelude.{ℕ, cond, List, [], ◌∷◌, map, ◌==◌}
use Rattle.std.specs.List.{range_with_len}
use Rattle.record.specs.Format.{Content}

-- the lane that a stream is paired with, or 255 for nobody
abbrev pub lane_of : List (ℕ × ℕ) → ℕ → ℕ
lane_of [] i = 255
lane_of (q ∷ qs) i = cond (q.0 == i) q.1 (lane_of qs i)

-- a content's pairs as a pairing, a byte for each stream
abbrev pub pairing_of : Content → List ℕ
pairing_of c = map (lane_of c.pairs) (range_with_len 0 c.streams)
