-- The two sides of a market, by party numbers.
use Rattle.std.specs.Prelude.{ℕ, ◌+◌, Bool, ◌&&◌, ◌||◌, nat_le, nat_lt}
use Rattle.ranking.specs.Market.{Market}

-- how many parties there are
abbrev pub party_count : Market → ℕ
party_count m = m.streams + m.lanes

-- whether p and q, in this order, are a stream and a lane of s streams and g lanes
abbrev pub stream_and_lane : (s g p q : ℕ) → Bool
stream_and_lane s g p q = nat_lt p s && (nat_le s q && nat_lt q (s + g))

-- whether p and q stand on the two sides of a market: one is a stream and the other a lane
abbrev pub across : Market → ℕ → ℕ → Bool
across m p q = stream_and_lane m.streams m.lanes p q || stream_and_lane m.streams m.lanes q p
