use Rattle.std.proofs.Common.{◌≡◌, map, take}
use Rattle.std.specs.List.{range_with_len}
use Rattle.record.specs.Bytes.{word_at}
use Rattle.record.proofs.bytes.words_of.Given as goal

-- the words so far stand at the front
abbrev pub invariant-loop-k : goal.invariant-loop-k
invariant-loop-k l = take l.k l.word-items ≡ map (word_at l.bytes) (range_with_len 0 l.k)
