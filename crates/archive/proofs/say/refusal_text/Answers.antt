use Rattle.std.proofs.Common.{rules}
use Rattle.archive.proofs.Writing.{wrote_front}
use Rattle.archive.proofs.say.refusal_text.Goals as goal

pub returns-clause-text_or_unchanged : goal.returns-clause-text_or_unchanged
returns-clause-text_or_unchanged c = search (rules, wrote_front)
