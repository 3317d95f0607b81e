-- How far a reader has come, and what the parts of a record are.
use Rattle.std.specs.Prelude.{◌≡◌, ℕ, ◌+◌, ◌<◌, ◌≤◌, true, false, List, map, length, take, None, nat_eq, slice_index}
use Rattle.std.specs.List.{between}
use Rattle.record.specs.Lists.{every, earliest}
use Rattle.record.specs.declared.parts.Parts.{Parts}
use Rattle.record.specs.Format.{Content, Records, choice_words, parties, turn_word, pair_word}
use Rattle.record.specs.Faults.{kind, allowed, fault_at}
use Rattle.record.specs.Scans.{KindsBelow}

-- the words before n are faultless and of kinds below k, and a word that may stand at n is of kind k or above
pub record ReadTo (ws : List ℕ) (k n : ℕ) : Type 0 where
  pub inside : n < length ws
  pub some : 1 ≤ n
  pub clean : earliest (fault_at ws) n ≡ None
  pub below : KindsBelow k (take n ws)
  pub ahead : n + 1 < length ws → allowed (take n ws) (slice_index ws n) false ≡ true → k ≤ kind (slice_index ws n)

-- the words from a on and before n are those of kind k
pub record PartRead (ws : List ℕ) (k a n : ℕ) : Type 0 where
  pub from : a ≤ n
  pub reached : ReadTo ws (k + 1) n
  pub kinds : every (λ w. nat_eq (kind w) k) (between a n ws) ≡ true

-- the parts of a content's record, each with the place of its first word; an empty part's place is where it would begin
pub record PartsOf (c : Content) (s g : ℕ) (choices : ℕ × List ℕ) (turns : ℕ × List ℕ) (pairs : ℕ × List ℕ) : Type 0 where
  pub streams : s ≡ c.streams
  pub lanes : g ≡ c.lanes
  pub choices_at : choices.0 ≡ 1
  pub choice_part : choices.1 ≡ choice_words c.ranked (parties c)
  pub turns_at : turns.0 ≡ choices.0 + length choices.1
  pub turn_words : turns.1 ≡ map turn_word c.turns
  pub pairs_at : pairs.0 ≡ turns.0 + length turns.1
  pub pair_words : pairs.1 ≡ map pair_word c.pairs

-- a record's words were read as these parts: they are the record of some content, and the parts are that content's
abbrev pub ReadAs : List ℕ → Parts → Content → Type 0
ReadAs words p c = Records words c × PartsOf c p.sizes.streams p.sizes.lanes (p.choices.at, p.choices.words.now) (p.turns.at, p.turns.words.now) (p.pairs.at, p.pairs.words.now)
