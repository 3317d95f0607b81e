use Rattle.std.proofs.Common.{rules, ◌≡◌, ◌≤◌, get_or, take, Some, sym, refl, ◌∙◌, subst, arith}
use Rattle.std.proofs.lemmas.List.{take_more}
use Rattle.std.proofs.lemmas.Result.{err_from_is_err_and}
use Rattle.record.specs.Faults.{kind}
use Rattle.record.specs.Kinds.{kind_number}
use Rattle.record.specs.Reading.{ReadTo}
use Rattle.record.proofs.Passing.{going_start, going_step, going_fault, fault_of_part}
use Rattle.record.proofs.part.read_part.Goals as goal

pub loop-at-init : goal.loop-at-init
loop-at-init g c =
    let ws = c.args.words.now in
    let e = c.kind-kind.ensures.is_the_kind in
    (going_start ws (kind_number c.kind-kind.result) c.args.from (subst (λ k. ReadTo ws (kind_number k) c.args.from) (sym e) c.requires.read_so_far), c.requires.seen_so_far, sym e)

pub returns-in_err-word : goal.returns-in_err-word
returns-in_err-word g c =
    let p = err_from_is_err_and c.from_residual.result c.from_residual.ensures.1 in
    let ws = c.args.words.now in
    let at = c.loop-at.at in
    let k = c.kind-kind.result in
    let head = c.requires.sizes_of_the_head in
    let inv = c.loop-at.invariant in
    let told : c.of.result ≡ Some k = search rules in
    let middle = subst (λ k. (2 ≤ kind_number k) × (kind_number k ≤ 4)) (sym c.kind-kind.ensures.is_the_kind) c.requires.a_middle_kind in
    let e = c.in_err-word.ensures.refused_as_told (take at ws) inv.1 in
    let f = fault_of_part ws (kind_number k) c.args.from at c.args.sizes.streams c.args.sizes.lanes head.0 head.1 inv.0 (omega arith) ((c.of.ensures.is_the_kind k).0 told) middle.0 middle.1 in
    rw (p.1, p.2) (record { part_or_first_fault = going_fault ws (kind_number k) c.args.from at _ inv.0 (f ∙ sym e) })

pub loop-at-preserved : goal.loop-at-preserved
loop-at-preserved g c =
    let ws = c.args.words.now in
    let at = c.loop-at.at in
    let k = c.kind-kind.result in
    let head = c.requires.sizes_of_the_head in
    let inv = c.loop-at.invariant in
    let ok = c.in_ok-word.ensures in
    let told : c.of.result ≡ Some k = search rules in
    let is_of_kind : kind (get_or ws at 0) ≡ kind_number k = (c.of.ensures.is_the_kind k).0 told in
    let middle = subst (λ k. (2 ≤ kind_number k) × (kind_number k ≤ 4)) (sym c.kind-kind.ensures.is_the_kind) c.requires.a_middle_kind in
    let f = fault_of_part ws (kind_number k) c.args.from at c.args.sizes.streams c.args.sizes.lanes head.0 head.1 inv.0 (omega arith) is_of_kind middle.0 middle.1 in (
      going_step ws (kind_number k) c.args.from at inv.0 (omega arith) is_of_kind (f ∙ sym (ok.refused_as_told (take at ws) inv.1)),
      subst (g.S.Scan.sees c.word.new.self) (sym (take_more ws at 0 (omega arith))) (ok.has_seen_one_more (take at ws) inv.1 refl),
      ok.same_kind ∙ inv.2,
    )
