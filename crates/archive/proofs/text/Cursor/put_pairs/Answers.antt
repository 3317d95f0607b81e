use Rattle.std.proofs.Common.{◌∙◌, arith}
use Rattle.archive.proofs.Writing.{wrote_pair}
use Rattle.archive.proofs.text.Cursor.put_pairs.Goals as goal

pub loop-stream-preserved : goal.loop-stream-preserved
loop-stream-preserved c = (
  wrote_pair _ _ _ c.args.judged.now.lanes c.loop-stream.stream _ _ (omega arith) c.loop-stream.invariant.0 c.put_pair.ensures.wrote_the_line,
  omega (arith, c.loop-stream.invariant.1, c.put_pair.ensures.takes_at_most_ten),
  c.put_pair.ensures.same_list ∙ c.loop-stream.invariant.2,
)
