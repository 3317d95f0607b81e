use Rattle.std.proofs.Common.{sym, refl, ◌∙◌, arith}
use Rattle.std.proofs.lemmas.Bool.{le-ltb}
use Rattle.sets.specs.Sets.{has}
use Rattle.sets.proofs.Bits.{has_above}
use Rattle.sets.proofs.Members.contains.Goals as goal

pub returns-then-k-lt32 : goal.returns-then-k-lt32
unfolding has
returns-then-k-lt32 c = record { is_membership = refl }

pub returns-else-k-lt32 : goal.returns-else-k-lt32
returns-else-k-lt32 c =
    record { is_membership = le-ltb c.args.k 32 (omega arith) ∙ sym (has_above c.args.self.0 c.args.k (omega arith) (omega arith)) }
