-- The kinds of words by their numbers.
use Rattle.std.specs.Prelude.{ℕ}
use Rattle.record.specs.declared.word.Kind.{Kind}
use Rattle.record.specs.declared.word.Kind.TheVariants.{Head, Choice, Turn, Pair, End}

-- the number of each kind, the top four bits of its words
abbrev pub kind_number : Kind → ℕ
kind_number Head = 1
kind_number Choice = 2
kind_number Turn = 3
kind_number Pair = 4
kind_number End = 5
