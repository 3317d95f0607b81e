use Rattle.record.proofs.Scanning.{no_turn_seen}
use Rattle.record.proofs.scan.TurnScan.new.Goals as goal

pub returns : goal.returns
returns c = record { has_seen_no_turn = no_turn_seen }
