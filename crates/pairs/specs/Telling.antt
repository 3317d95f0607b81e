-- What the program prints of its input, and how it ends.
use Rattle.std.specs.Prelude.{◌≡◌, ℕ, Bool, true, false, List, Some, None, Option}
use Rattle.record.specs.Refusals.{or_else}
use Rattle.record.specs.Bytes.{bytes_fault, words_of}
use Rattle.record.specs.Format.{Content, Records}
use Rattle.record.specs.Faults.{record_fault}
use Rattle.ranking.specs.declared.finder.Finding.{Finding}
use Rattle.archive.specs.declared.judged.Judged.{Judged}
use Rattle.archive.specs.Judging.{JudgedOf, judged_text}
use Rattle.archive.specs.Texts.{line, refusal_text}

-- what refuses the bytes of an input: as bytes, then as a record
abbrev pub input_fault : List ℕ → Option (ℕ × ℕ)
input_fault bytes = or_else (bytes_fault bytes 8192) (record_fault (words_of bytes))

-- whether the finder answered stable
abbrev pub is_stable : Finding → Bool
is_stable Finding.Stable = true
is_stable (Finding.Unranked i) = false
is_stable (Finding.Blocked i j) = false

-- the text and the end of an input that is a record: what is judged of its content, well where its pairing is stable
pub record ToldRecord (bytes text : List ℕ) (well : Bool) : Type 0 where
  pub content : Content
  pub judged : Judged
  pub is_its_record : Records (words_of bytes) content
  pub is_judged : JudgedOf content judged
  pub text_of_it : text ≡ judged_text judged
  pub ends : well ≡ is_stable judged.finding

-- the text and the end of an input: a refusal's line and not well, or what is told of a record
abbrev pub Told : List ℕ → Option (ℕ × ℕ) → List ℕ → Bool → Type 0
Told bytes None text well = ToldRecord bytes text well
Told bytes (Some code) text well = (text ≡ line (refusal_text code)) × (well ≡ false)
