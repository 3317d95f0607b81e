use Rattle.std.proofs.Common.{◌-◌, ap, ◌∙◌, arith}
use Rattle.std.proofs.lemmas.Nat.{and_le_r}
use Rattle.sets.specs.Sets.{has}
use Rattle.sets.proofs.Bits.{has_none, has_rest, lowest}
use Rattle.sets.proofs.Members.pop_first.Goals as goal

pub returns-then-mask-eq0-clause-is_the_lowest : goal.returns-then-mask-eq0-clause-is_the_lowest
returns-then-mask-eq0-clause-is_the_lowest c j = ap (λ m. has m j) c.if-mask-eq0.true ∙ has_none j

pub returns : goal.returns
returns c =
    let m = c.args.self.now.0 in
    record {
      is_the_lowest = lowest m (omega arith) (omega arith);
      takes_it_away = λ j. has_rest m j (omega arith) (omega arith);
      leaves_a_smaller_mask = omega (arith, and_le_r m (m - 1));
    }
