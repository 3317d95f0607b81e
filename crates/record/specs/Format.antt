-- The archive record: what a content is, how a word is built, and which words are the record of a content.
use Rattle.std.specs.Prelude.{◌≡◌, ℕ, zero, suc, ◌+◌, ◌*◌, ◌<◌, ◌≤◌, cond, List, [], ◌∷◌, ◌++◌, map, length, nat_lt}
use Rattle.std.specs.List.{AllByRecursion}
use Rattle.record.specs.Lists.{Distinct}

-- What a record stands for. Streams are parties 0 to streams − 1, lane j is party streams + j.
pub record Content : Type 0 where
  pub streams : ℕ
  pub lanes : ℕ
  -- of each party the parties that it ranks, by their number within their own side, the best first
  pub ranked : ℕ → List ℕ
  -- the parties of the turns, in order
  pub turns : List ℕ
  -- the pairs, each a stream and a lane
  pub pairs : List (ℕ × ℕ)

-- the number of parties
abbrev pub parties : Content → ℕ
parties c = c.streams + c.lanes

-- how many parties stand on the side that party p ranks; nobody for a number that is no party's
abbrev pub facing : (streams lanes : ℕ) → ℕ → ℕ
facing s g p = cond (nat_lt p s) g (cond (nat_lt p (s + g)) s 0)

-- each number is above the one before it
abbrev pub Rising : List ℕ → Type 0
Rising [] = Unit {0}
Rising (x ∷ xs) = AllByRecursion (λ y. x < y) xs × Rising xs

-- The contents that have a record.
pub record Lawful (c : Content) : Type 0 where
  pub some_stream : 1 ≤ c.streams
  pub few_streams : c.streams ≤ 16
  pub some_lane : 1 ≤ c.lanes
  pub few_lanes : c.lanes ≤ 16
  pub ranks_the_other_side : (p : ℕ) → AllByRecursion (λ q. q < facing c.streams c.lanes p) (c.ranked p)
  pub ranks_nobody_twice : (p : ℕ) → Distinct (c.ranked p)
  pub turns_of_parties : AllByRecursion (λ p. p < parties c) c.turns
  pub few_turns : length c.turns ≤ 7600
  pub pairs_of_streams : AllByRecursion (λ q. q.0 < c.streams) c.pairs
  pub pairs_of_lanes : AllByRecursion (λ q. q.1 < c.lanes) c.pairs
  pub streams_rise : Rising (map (λ q. q.0) c.pairs)
  pub no_lane_twice : Distinct (map (λ q. q.1) c.pairs)

-- The words, by what they say. The top four bits are the kind, and what is not named is zero.
abbrev pub head_word : (streams lanes : ℕ) → ℕ
head_word s g = 0x10000000 + 256 * s + g

abbrev pub choice_word : (owner place ranked : ℕ) → ℕ
choice_word o k q = 0x20000000 + 65536 * o + 256 * k + q

abbrev pub turn_word : (party : ℕ) → ℕ
turn_word p = 0x30000000 + p

abbrev pub pair_word : (pair : ℕ × ℕ) → ℕ
pair_word q = 0x40000000 + 256 * q.0 + q.1

abbrev pub end_word : (before : ℕ) → ℕ
end_word n = 0x50000000 + n

-- one owner's choices, from a place on
abbrev pub owner_words : (owner place : ℕ) → List ℕ → List ℕ
owner_words o k [] = []
owner_words o k (q ∷ qs) = choice_word o k q ∷ owner_words o (k + 1) qs

-- the choices of the first n parties, owner after owner
abbrev pub choice_words : (ℕ → List ℕ) → ℕ → List ℕ
choice_words ranked zero = []
choice_words ranked (suc n) = choice_words ranked n ++ owner_words n 0 (ranked n)

-- all words but the end: the head, the choices, the turns, the pairs
abbrev pub body_words : Content → List ℕ
body_words c = head_word c.streams c.lanes ∷ (choice_words c.ranked (parties c) ++ (map turn_word c.turns ++ map pair_word c.pairs))

-- the words of a content, the last of which counts those before it
abbrev pub record_words : Content → List ℕ
record_words c = body_words c ++ end_word (length (body_words c)) ∷ []

-- These words are the record of this content.
pub record Records (ws : List ℕ) (c : Content) : Type 0 where
  pub lawful : Lawful c
  pub words : ws ≡ record_words c

-- One list of words is the record of at most one content.
abbrev pub OneContent : Type 0
OneContent = (ws : List ℕ) (c d : Content) → Records ws c → Records ws d → c ≡ d

-- One content has at most one record.
abbrev pub OneRecord : Type 0
OneRecord = (c : Content) (ws vs : List ℕ) → Records ws c → Records vs c → ws ≡ vs
