use Rattle.std.proofs.Common.{◌<◌, [], ◌∷◌, ◌++◌, map, length, sym, ap, ◌∙◌, arith}
use Rattle.std.specs.List.{range_with_len}
use Rattle.std.proofs.lemmas.List.FromFn.{map-range_with_len_more}
use Rattle.std.proofs.lemmas.List.{take_more_set}
use Rattle.record.specs.Bytes.{word_at}
use Rattle.record.proofs.bytes.words_of.Goals as goal

pub loop-k-preserved : goal.loop-k-preserved
loop-k-preserved c =
    let bs = c.args.bytes.now in
    let k = c.loop-k.k in
    let h : k < length c.loop-k.word-items = omega arith in
    take_more_set c.loop-k.word-items k c.word_at.result h
    ∙ ap (λ l. l ++ c.word_at.result ∷ []) c.loop-k.invariant
    ∙ ap (λ w. map (word_at bs) (range_with_len 0 k) ++ w ∷ []) c.word_at.ensures.is_the_word
    ∙ sym (map-range_with_len_more (word_at bs) 0 k k (omega arith))
