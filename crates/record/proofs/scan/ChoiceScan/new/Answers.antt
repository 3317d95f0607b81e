use Rattle.record.proofs.Scanning.{none_seen}
use Rattle.record.proofs.scan.ChoiceScan.new.Goals as goal

pub returns : goal.returns
returns c = record { has_seen_no_choice = λ before b. none_seen before c.none.result c.none.ensures.has_nobody b }
