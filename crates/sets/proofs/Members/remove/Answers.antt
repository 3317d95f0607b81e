use Rattle.std.proofs.Common.{◌≡◌, ℕ, false, not, ◌&&◌, eqb, arith}
use Rattle.std.proofs.lemmas.Bool.Decides.{nat_tests}
use Rattle.sets.specs.Sets.{has}
use Rattle.sets.proofs.Bits.{has_remove, has_above}
use Rattle.sets.proofs.Members.remove.Goals as goal

absent : (m k j : ℕ) → has m k ≡ false → has m j ≡ (not (eqb j k) && has m j)
absent m k j e = grind (arith, nat_tests)

pub returns-then-k-lt32 : goal.returns-then-k-lt32
returns-then-k-lt32 c = record { takes_one_away = λ j. has_remove c.args.self.now.0 c.args.k j (omega arith) (omega arith) }

pub returns-else-k-lt32 : goal.returns-else-k-lt32
returns-else-k-lt32 c =
    let m = c.args.self.now.0 in
    record { takes_one_away = λ j. absent m c.args.k j (has_above m c.args.k (omega arith) (omega arith)) }
