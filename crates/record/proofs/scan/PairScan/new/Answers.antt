use Rattle.record.proofs.Scanning.{no_pair_seen}
use Rattle.record.proofs.scan.PairScan.new.Goals as goal

pub returns : goal.returns
returns c = record { has_seen_no_pair = λ before b. no_pair_seen before c.none.result c.none.ensures.has_nobody b }
