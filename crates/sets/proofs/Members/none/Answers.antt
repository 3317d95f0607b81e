use Rattle.std.proofs.Common.{refl}
use Rattle.sets.proofs.Bits.{has_none}
use Rattle.sets.proofs.Members.none.Goals as goal

pub returns : goal.returns
returns c = record { has_nobody = has_none; is_the_empty_mask = refl }
