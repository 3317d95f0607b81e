use Rattle.std.proofs.Common.{get_or, arith}
use Rattle.std.proofs.lemmas.List.{take_more}
use Rattle.ranking.proofs.Tables.{no_entry, no_place, empty_whole, one_entered, entered_small, entered_whole}
use Rattle.ranking.proofs.listing.places_of.Goals as goal

pub loop-word-init : goal.loop-word-init
loop-word-init c = record { right = no_place 32 16; small = λ p q k e. let n = no_entry 32 16 p q in absurd cc; whole = empty_whole }

pub loop-word-preserved : goal.loop-word-preserved
loop-word-preserved c =
    let i = c.loop-word.word-index in
    let places = c.loop-word.places in
    let held = c.loop-word.invariant in
    let w = get_or c.args.choices.now i 0 in
    let fit = c.requires.choices_of_a_record i c.loop-word-test.true in
    let middle = c.middle_byte.ensures.is_the_middle_byte in
    rw (c.high_byte-owner.ensures.is_the_high_byte, c.low_byte-ranked.ensures.is_the_low_byte, middle, take_more c.args.choices.now i 0 c.loop-word-test.true)
    (record {
      right = one_entered places _ w held.whole fit held.right;
      small = entered_small places held.whole _ _ _ fit.row fit.column (omega (arith, fit.few)) held.small;
      whole = entered_whole places held.whole _ _ _ fit.row fit.column;
    })
