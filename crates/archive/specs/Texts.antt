-- Text, as bytes: what stands in a line, and how a text comes into a caller's list.
use Rattle.std.specs.Prelude.{◌≡◌, ℕ, ◌+◌, cond, List, [], ◌∷◌, ◌++◌, length, take, drop, codes, decimal, ◌==◌}
use Rattle.ranking.specs.declared.finder.Finding.{Finding}

-- a text was written into a list from a place on: the next place, the list up to there, and the rest as it was
pub record Wrote (before : List ℕ) (at : ℕ) (text after : List ℕ) (next : ℕ) : Type 0 where
  pub place : next ≡ at + length text
  pub front : take next after ≡ take at before ++ text
  pub rest : drop next after ≡ drop next before
  pub size : length after ≡ length before

-- a line ends with byte 10
abbrev pub line : List ℕ → List ℕ
line text = text ++ 10 ∷ []

-- a stream is S and its number in decimal, without leading zeros
abbrev pub stream_text : ℕ → List ℕ
stream_text i = 83 ∷ decimal i

-- a lane is L and its number
abbrev pub lane_text : ℕ → List ℕ
lane_text j = 76 ∷ decimal j

-- a stream's holding, as a byte of a pairing: a lane, or - for nobody
abbrev pub holding_text : ℕ → List ℕ
holding_text byte = cond (byte == 255) (codes "-") (lane_text byte)

-- the line of a stream and its holding
abbrev pub pair_line : (stream byte : ℕ) → List ℕ
pair_line i byte = line (stream_text i ++ (codes " " ++ holding_text byte))

-- what the finder answered
abbrev pub finding_text : Finding → List ℕ
finding_text Finding.Stable = codes "stable"
finding_text (Finding.Unranked i) = codes "unranked " ++ stream_text i
finding_text (Finding.Blocked i j) = codes "blocked by " ++ (stream_text i ++ (codes " " ++ lane_text j))

-- a refusal with this number and place
abbrev pub refusal_text : ℕ × ℕ → List ℕ
refusal_text code = codes "refused " ++ (decimal code.0 ++ (codes " at " ++ decimal code.1))
