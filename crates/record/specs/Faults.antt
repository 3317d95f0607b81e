-- What makes a word faulty in its place, and which fault decides. The rules speak of the words that stand before.
use Rattle.std.specs.Prelude.{ℕ, ◌+◌, ◌/◌, ◌%◌, Bool, true, cond, not, ◌&&◌, ltb, leb, List, [], ◌∷◌, map, length, take, filter, Option, ◌==◌, nat_eq, nat_le, nat_lt, slice_index}
use Rattle.record.specs.Refusals.{refuse_if, or_else}
use Rattle.record.specs.Lists.{every, among, earliest}
use Rattle.record.specs.Bytes.{lawful_length}
use Rattle.record.specs.Format.{facing}

-- the kind of a word, bits 31–28: 1 head, 2 choice, 3 turn, 4 pair, 5 end
abbrev pub kind : ℕ → ℕ
kind w = w / 0x10000000

-- bits 23–16: a choice's owner
abbrev pub high : ℕ → ℕ
high w = w / 65536 % 256

-- bits 15–8: a head's streams, a choice's place, a pair's stream
abbrev pub middle : ℕ → ℕ
middle w = w / 256 % 256

-- bits 7–0: a head's lanes, a choice's ranked party, a turn's party, a pair's lane
abbrev pub low : ℕ → ℕ
low w = w % 256

-- bits 27–0: an end's number
abbrev pub number : ℕ → ℕ
number w = w % 0x10000000

-- the words of one kind, in order
abbrev pub of_kind : ℕ → List ℕ → List ℕ
of_kind k ws = filter (λ w. nat_eq (kind w) k) ws

-- whom party p ranks by the choices among these words, in order
abbrev pub ranked_by : List ℕ → ℕ → List ℕ
ranked_by ws p = map low (filter (λ w. nat_eq (high w) p) (of_kind 2 ws))

-- the parties of the turns among these words, in order
abbrev pub turns_in : List ℕ → List ℕ
turns_in ws = map low (of_kind 3 ws)

-- a pair word's stream and lane
abbrev pub pair_of : ℕ → ℕ × ℕ
pair_of w = (middle w, low w)

-- the pairs among these words, in order
abbrev pub pairs_in : List ℕ → List (ℕ × ℕ)
pairs_in ws = map pair_of (of_kind 4 ws)

-- A kind is allowed: a head first, an end last, and between them choices, turns and pairs whose kinds never fall.
abbrev pub allowed : (before : List ℕ) (w : ℕ) (last : Bool) → Bool
allowed [] w last = kind w == 1
allowed (v ∷ vs) w last =
    cond last (kind w == 5) (nat_le 2 (kind w) && (nat_le (kind w) 4 && every (λ u. leb (kind u) (kind w)) (v ∷ vs)))

-- of five rules the one for a word's kind
abbrev pub by_kind : ℕ → (head choice turn pair end : Bool) → Bool
by_kind k head choice turn pair end = cond (k == 1) head (cond (k == 2) choice (cond (k == 3) turn (cond (k == 4) pair end)))

-- No bit is set outside the fields of the word's kind, and each number is within its limit.
-- sizes are 1 to 16
abbrev pub head_within : ℕ → Bool
head_within w = w / 65536 % 4096 == 0 && (nat_le 1 (middle w) && (nat_le (middle w) 16 && (nat_le 1 (low w) && nat_le (low w) 16)))

-- the owner is a party, and the ranked party one of the other side
abbrev pub choice_within : (streams lanes : ℕ) → ℕ → Bool
choice_within s g w = w / 0x1000000 % 16 == 0 && (nat_lt (high w) (s + g) && nat_lt (low w) (facing s g (high w)))

-- the turn is a party's
abbrev pub turn_within : (streams lanes : ℕ) → ℕ → Bool
turn_within s g w = w / 256 % 0x100000 == 0 && nat_lt (low w) (s + g)

-- the pair is of a stream and a lane
abbrev pub pair_within : (streams lanes : ℕ) → ℕ → Bool
pair_within s g w = w / 65536 % 4096 == 0 && (nat_lt (middle w) s && nat_lt (low w) g)

-- an end has no unnamed bit, and its number has no limit of its own
abbrev pub within : (streams lanes : ℕ) → ℕ → Bool
within s g w = by_kind (kind w) (head_within w) (choice_within s g w) (turn_within s g w) (pair_within s g w) true

-- A word stands in order after those before it.
-- no earlier owner is higher, the place is the number of the owner's choices so far, and the owner has not named that party yet
abbrev pub choice_in_order : (before : List ℕ) (w : ℕ) → Bool
choice_in_order before w =
    every (λ v. leb (high v) (high w)) (of_kind 2 before)
    && (middle w == length (ranked_by before (high w)) && not (among (low w) (ranked_by before (high w))))

-- there are at most 7,600 turns
abbrev pub turn_in_order : (before : List ℕ) → Bool
turn_in_order before = nat_lt (length (turns_in before)) 7600

-- the stream is above all earlier ones, and the lane is new
abbrev pub pair_in_order : (before : List ℕ) (w : ℕ) → Bool
pair_in_order before w =
    every (λ q. ltb q.0 (middle w)) (pairs_in before) && not (among (low w) (map (λ q. q.1) (pairs_in before)))

-- the end's number is the number of words before it
abbrev pub end_in_order : (before : List ℕ) (w : ℕ) → Bool
end_in_order before w = number w == length before

abbrev pub in_order : (before : List ℕ) (w : ℕ) → Bool
in_order before w = by_kind (kind w) true (choice_in_order before w) (turn_in_order before) (pair_in_order before w) (end_in_order before w)

-- what is wrong with word i: its kind (2), then its bits and numbers (3), then its order (4)
abbrev pub fault_at : List ℕ → ℕ → Option (ℕ × ℕ)
fault_at ws i =
    or_else (refuse_if (not (allowed (take i ws) (slice_index ws i) (i + 1 == length ws))) (2, i))
    (or_else (refuse_if (not (within (middle (slice_index ws 0)) (low (slice_index ws 0)) (slice_index ws i))) (3, i))
    (refuse_if (not (in_order (take i ws) (slice_index ws i))) (4, i)))

-- The refusal of a list of words: its length, then the earliest faulty word.
abbrev pub record_fault : List ℕ → Option (ℕ × ℕ)
record_fault ws = or_else (refuse_if (not (lawful_length (length ws))) (1, 0)) (earliest (fault_at ws) (length ws))
