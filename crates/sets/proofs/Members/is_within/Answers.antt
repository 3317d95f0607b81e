use Rattle.std.proofs.Common.{arith}
use Rattle.std.proofs.lemmas.Bool.{eqb-true, eq-eqb}
use Rattle.sets.proofs.Bits.{within_from, within_to}
use Rattle.sets.proofs.Members.is_within.Goals as goal

pub returns : goal.returns
returns c =
    let a = c.args.self.0 in
    let b = c.args.other.0 in
    record { says_whether = (λ e. within_from a b (omega arith) (omega arith) (eqb-true _ 0 e), λ f. eq-eqb _ 0 (within_to a b (omega arith) (omega arith) f)) }
