use Rattle.std.proofs.Common.{refl, arith}
use Rattle.record.proofs.Scanning.{new_owner}
use Rattle.record.proofs.scan.ChoiceScan.at_owner.Goals as goal

pub returns : goal.returns
returns c = record {
  is_the_owner = refl;
  keeps_what_was_seen = λ before seen.
      new_owner c.args.self before c.args.owner c.none.result c.none.ensures.has_nobody (omega arith) seen;
}
