use Rattle.std.proofs.Common.{rules, ◌≡◌, true, not, length, get_or, Some, sym, refl, ap, ◌∙◌, arith}
use Rattle.std.proofs.lemmas.Bool.{ne_eqb}
use Rattle.record.specs.Refusals.{refuse_if}
use Rattle.record.specs.Faults.{kind, fault_at, head_within}
use Rattle.record.specs.declared.word.Kind.TheVariants.{Head}
use Rattle.record.proofs.Lists.{earliest_found}
use Rattle.record.proofs.Bounds.{fault_kind, head_fault, head_read}
use Rattle.record.proofs.read.read_head.Goals as goal

pub returns-then-ne : goal.returns-then-ne
returns-then-ne c =
    let ws = c.args.words.now in
    let other : c.of.result ≡ Some Head → ⊥ = search rules in
    record {
      sizes_or_first_fault = earliest_found (fault_at ws) 0 (length ws) (2, 0) (omega arith) refl
          (fault_kind ws 0 (ne_eqb (kind (get_or ws 0 0)) 1 (λ e. other ((c.of.ensures.is_the_kind Head).1 e))));
    }

pub returns-then-not-head_within : goal.returns-then-not-head_within
returns-then-not-head_within c =
    let ws = c.args.words.now in
    let told : c.of.result ≡ Some Head = search rules in
    let k : kind (get_or ws 0 0) ≡ 1 = (c.of.ensures.is_the_kind Head).0 told in
    record {
      sizes_or_first_fault = earliest_found (fault_at ws) 0 (length ws) (3, 0) (omega arith) refl
          (head_fault ws k ∙ ap (λ b. refuse_if (not b) (3, 0)) (sym c.if-not-head_within.ensures.is_the_rule));
    }

pub returns : goal.returns
returns c =
    let ws = c.args.words.now in
    let told : c.of.result ≡ Some Head = search rules in
    let k : kind (get_or ws 0 0) ≡ 1 = (c.of.ensures.is_the_kind Head).0 told in
    let w : head_within (get_or ws 0 0) ≡ true = sym c.if-not-head_within.ensures.is_the_rule in
    record { sizes_or_first_fault = (head_read ws c.requires.some k w, (c.middle_byte.ensures.is_the_middle_byte, c.low_byte.ensures.is_the_low_byte)) }
