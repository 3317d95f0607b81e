use Rattle.std.proofs.Common.{rules}
use Rattle.std.proofs.lemmas.Slice.{overwrites}
use Rattle.archive.proofs.text.Cursor.put.Goals as goal

pub returns-clause-wrote_the_bytes : goal.returns-clause-wrote_the_bytes
returns-clause-wrote_the_bytes c = search (rules, overwrites)
