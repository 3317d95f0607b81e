use Rattle.std.proofs.Common.{◌≡◌, true, not, length, sym, ap, ◌∙◌, arith}
use Rattle.std.proofs.lemmas.Bool.{le-leb, and_from}
use Rattle.record.specs.Refusals.{refuse_if, or_else}
use Rattle.record.specs.Lists.{earliest}
use Rattle.record.specs.Bytes.{lawful_length}
use Rattle.record.specs.Faults.{fault_at}
use Rattle.record.proofs.Partings.{parts_read}
use Rattle.record.proofs.read.read_parts.Goals as goal

pub returns : goal.returns
returns c =
    let ws = c.args.words.now in
    let head = c.in_ok-sizes.ensures.sizes_or_first_fault.1 in
    let end = c.in_ok-read_end.ensures.end_or_first_fault in
    let parts = parts_read ws c.in_ok-turns_at.turns_at c.in_ok-pairs_at.pairs_at c.in_ok-end_at.end_at
    c.in_ok-turns_at.ensures.part_or_first_fault c.in_ok-pairs_at.ensures.part_or_first_fault c.in_ok-end_at.ensures.part_or_first_fault end.1 end.0 c.in_ok-sizes.sizes.streams c.in_ok-sizes.sizes.lanes head.0 head.1 in
    let long : lawful_length (length ws) ≡ true = and_from _ _ (le-leb 2 (length ws) (omega arith)) (le-leb (length ws) 8192 (omega arith)) in
    record {
      refused_as_told = sym (ap (λ b. or_else (refuse_if (not b) (1, 0)) (earliest (fault_at ws) (length ws))) long ∙ end.0);
      parts_of_the_content = parts;
    }
