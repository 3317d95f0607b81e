-- What is said of a record's own pairing.
use Rattle.std.specs.Prelude.{◌≡◌, ℕ, ◌+◌, List, [], ◌∷◌, ◌++◌, take}
use Rattle.record.specs.Format.{Content}
use Rattle.ranking.specs.Market.{market_of}
use Rattle.ranking.specs.Listings.{content_meaning}
use Rattle.ranking.specs.Pairings.{holding_of}
use Rattle.ranking.specs.Stability.{Found}
use Rattle.archive.specs.Pairs.{pairing_of}
use Rattle.archive.specs.Texts.{line, pair_line, finding_text}
use Rattle.archive.specs.declared.judged.Judged.{Judged}

-- the streams' lanes are the content's pairs, and the finder's answer is right for them
pub record JudgedOf (c : Content) (judged : Judged) : Type 0 where
  pub streams : judged.streams ≡ c.streams
  pub pairing : take judged.streams judged.lanes ≡ pairing_of c
  pub finding : Found (market_of (content_meaning c)) (holding_of (market_of (content_meaning c)) (pairing_of c)) judged.finding

-- a line for each byte of a pairing, from stream i on
abbrev pub pair_lines : ℕ → List ℕ → List ℕ
pair_lines i [] = []
pair_lines i (byte ∷ bytes) = pair_line i byte ++ pair_lines (i + 1) bytes

-- the text: a line for each stream, then the finder's answer
abbrev pub judged_text : Judged → List ℕ
judged_text judged = pair_lines 0 (take judged.streams judged.lanes) ++ line (finding_text judged.finding)
