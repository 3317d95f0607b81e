-- Figures, and the ranks that they give.
use Rattle.std.specs.Prelude.{◌≡◌, ℕ, ◌+◌, ◌-◌, ◌*◌, Bool, true, cond, not, ◌&&◌, List, length, Some, None, Option, nat_le, nat_lt, slice_index_or}
use Rattle.record.specs.Refusals.{refuse_if, or_else}
use Rattle.record.specs.Lists.{earliest}
use Rattle.ranking.specs.Market.{Meaning}
use Rattle.ranking.specs.declared.figures.StreamFigures.{StreamFigures}
use Rattle.ranking.specs.declared.figures.LaneFigures.{LaneFigures}
use Rattle.ranking.specs.declared.figures.PartyFigures.{PartyFigures}

-- a stream's own figure is its rate
abbrev pub stream_figured : StreamFigures → PartyFigures
stream_figured x = record { own = x.rate; wish = x.wish; reach = x.reach }

-- a lane's own figure is its wear
abbrev pub lane_figured : LaneFigures → PartyFigures
lane_figured x = record { own = x.wear; wish = x.wish; reach = x.reach }

-- what stands for a party that there is not
abbrev pub unfigured : PartyFigures
unfigured = record { own = 0; wish = 0; reach = 0 }

-- the figures of party k
abbrev pub figured_at : List PartyFigures → ℕ → PartyFigures
figured_at xs k = slice_index_or xs k unfigured

-- the distance of a figure from a wish: the lean, which is the figure minus the wish, without its sign
abbrev pub distance : (own wish : ℕ) → ℕ
distance own wish = (own - wish) + (wish - own)

-- the rank that a party gives number q of the other side: 16 times the distance and the number, so that the nearer comes
-- first, and of equally near ones the lower number; none where the distance is over its reach
abbrev pub score : (ranker ranked : PartyFigures) (q : ℕ) → Option ℕ
score ranker ranked q =
    cond (nat_le (distance ranked.own ranker.wish) ranker.reach) (Some (16 * distance ranked.own ranker.wish + q)) None

-- the rank that number p of n parties gives number q of the m parties of the other side
abbrev pub score_between : (n m : ℕ) (ranker ranked : ℕ → PartyFigures) (p q : ℕ) → Option ℕ
score_between n m ranker ranked p q = cond (nat_lt p n) (cond (nat_lt q m) (score (ranker p) (ranked q) q) None) None

-- what the figures of s streams and g lanes mean
abbrev pub scored_meaning : (s g : ℕ) (stream lane : ℕ → PartyFigures) → Meaning
scored_meaning s g stream lane = record {
  streams = s;
  lanes = g;
  by_stream = score_between s g stream lane;
  by_lane = score_between g s lane stream;
}

-- what two lists of figures mean
abbrev pub figures_meaning : (streams lanes : List PartyFigures) → Meaning
figures_meaning ss ls = scored_meaning (length ss) (length ls) (figured_at ss) (figured_at ls)

-- no figure is over 1,023
abbrev pub small : PartyFigures → Bool
small f = nat_le f.own 1023 && (nat_le f.wish 1023 && nat_le f.reach 1023)

-- no figure of any party is over 1,023
abbrev pub Small : List PartyFigures → Type 0
Small xs = (k : ℕ) → small (figured_at xs k) ≡ true

-- what refuses the figures of party k of a side whose first party is first
abbrev pub party_fault : (first : ℕ) → List PartyFigures → ℕ → Option (ℕ × ℕ)
party_fault first xs k = refuse_if (not (small (figured_at xs k))) (5, first + k)

-- what refuses the figures of a side: its lowest party with a figure over 1,023
abbrev pub side_fault : (first : ℕ) → List PartyFigures → Option (ℕ × ℕ)
side_fault first xs = earliest (party_fault first xs) (length xs)

-- whether a list has 1 to 16 records
abbrev pub some_figures : ℕ → Bool
some_figures n = nat_le 1 n && nat_le n 16

-- what refuses two lists of figures: one without 1 to 16 records, then a figure over 1,023, streams before lanes
abbrev pub lists_fault : (streams lanes : List PartyFigures) → Option (ℕ × ℕ)
lists_fault ss ls =
    or_else (refuse_if (not (some_figures (length ss) && some_figures (length ls))) (5, 255)) (or_else (side_fault 0 ss) (side_fault (length ss) ls))

-- what refuses to fill a scoring: what refuses the lists, then that it was filled before
abbrev pub figures_fault : (streams lanes : List PartyFigures) → Bool → Option (ℕ × ℕ)
figures_fault ss ls filled = or_else (lists_fault ss ls) (refuse_if filled (11, 0))
