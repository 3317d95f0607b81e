-- Bytes and words: four bytes make a word, the most significant first.
use Rattle.std.specs.Prelude.{◌≡◌, ℕ, ◌+◌, ◌*◌, ◌/◌, ◌%◌, Bool, not, ◌&&◌, List, map, length, take, drop, Option, ◌==◌, nat_le, nat_lt, slice_index}
use Rattle.std.specs.List.{range_with_len}
use Rattle.record.specs.Refusals.{refuse_if, or_else}

-- a record has 2 to 8,192 words
abbrev pub lawful_length : ℕ → Bool
lawful_length n = nat_le 2 n && nat_le n 8192

-- word k of a list of bytes: bytes 4k to 4k + 3, the most significant first
abbrev pub word_at : List ℕ → ℕ → ℕ
word_at bs k = ((slice_index bs (4 * k) * 256 + slice_index bs (4 * k + 1)) * 256 + slice_index bs (4 * k + 2)) * 256 + slice_index bs (4 * k + 3)

-- the words of a list of bytes
abbrev pub words_of : List ℕ → List ℕ
words_of bs = map (word_at bs) (range_with_len 0 (length bs / 4))

-- what refuses bytes as a record's, given room for so many words: no multiple of four or a
-- number of words outside the limits, then too little room
abbrev pub bytes_fault : List ℕ → ℕ → Option (ℕ × ℕ)
bytes_fault bs room =
    or_else (refuse_if (not (length bs % 4 == 0 && lawful_length (length bs / 4))) (1, 0))
    (refuse_if (nat_lt room (length bs / 4)) (9, length bs / 4))

-- the list after: n words at the front, and the rest as it was
pub record WrittenFront (words before after : List ℕ) (n : ℕ) : Type 0 where
  pub count : n ≡ length words
  pub front : take n after ≡ words
  pub rest : drop n after ≡ drop n before
