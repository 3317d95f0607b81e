-- Texts written one after the other.
use Rattle.std.proofs.Common.{◌≡◌, ℕ, suc, ◌+◌, ◌<◌, List, [], ◌∷◌, ◌++◌, length, get_or, take, drop, sym, refl, ap, ◌∙◌, subst, append_assoc, zero-add, arith}
use Rattle.std.proofs.lemmas.List.{length-append, drop-drop, take_more, append-nil, length-take-le}
use Rattle.record.specs.Bytes.{WrittenFront}
use Rattle.archive.specs.Texts.{Wrote, pair_line}
use Rattle.archive.specs.Judging.{pair_lines}

pub wrote_both : (o p q a b : List ℕ) (i r s : ℕ) → Wrote o i a p r → Wrote p r b q s → Wrote o i (a ++ b) q s
wrote_both o p q a b i r s x y = record {
  place = y.place ∙ omega (arith, x.place, length-append a b);
  front = y.front ∙ ap (λ l. l ++ b) x.front ∙ append_assoc (take i o) a b;
  rest = y.rest ∙ further;
  size = y.size ∙ x.size;
}
  where
    e : s ≡ r + length b
    e = y.place

    further : drop s p ≡ drop s o
    further = ap (λ n. drop n p) e ∙ sym (drop-drop (length b) r p) ∙ ap (drop (length b)) x.rest ∙ drop-drop (length b) r o ∙ ap (λ n. drop n o) (sym e)

-- the same text, and the same next place
pub wrote_as : (o p a b : List ℕ) (i r s : ℕ) → a ≡ b → r ≡ s → Wrote o i a p r → Wrote o i b p s
wrote_as o p a b i r s e f w = subst (λ t. Wrote o i t p s) e (subst (λ n. Wrote o i a p n) f w)

-- a text written from the front on
pub wrote_front : (o p text : List ℕ) (n : ℕ) → Wrote o 0 text p n → WrittenFront text o p n
wrote_front o p text n w = record { count = w.place ∙ zero-add (length text); front = w.front; rest = w.rest }

-- one more line of a pairing
lines_push : (k b : ℕ) (xs : List ℕ) → pair_lines k (xs ++ b ∷ []) ≡ pair_lines k xs ++ pair_line (k + length xs) b
lines_push k b [] = let e : k ≡ k + 0 = omega arith in append-nil (pair_line k b) ∙ ap (λ i. pair_line i b) e
lines_push k b (x ∷ xs) =
    let e : k + 1 + length xs ≡ k + suc (length xs) = omega arith in
    ap (λ l. pair_line k x ++ l) (lines_push (k + 1) b xs ∙ ap (λ i. pair_lines (k + 1) xs ++ pair_line i b) e)
    ∙ sym (append_assoc (pair_line k x) (pair_lines (k + 1) xs) (pair_line (k + suc (length xs)) b))

pub wrote_pair : (o p q lanes : List ℕ) (i at next : ℕ) → i < length lanes → Wrote o 0 (pair_lines 0 (take i lanes)) p at → Wrote p at (pair_line i (get_or lanes i 0)) q next → Wrote o 0 (pair_lines 0 (take (i + 1) lanes)) q next
wrote_pair o p q lanes i at next h w v =
    let e : pair_lines 0 (take i lanes) ++ pair_line i (get_or lanes i 0) ≡ pair_lines 0 (take (i + 1) lanes) =
    sym (ap (pair_lines 0) (take_more lanes i 0 h) ∙ lines_push 0 (get_or lanes i 0) (take i lanes) ∙ ap (λ k. pair_lines 0 (take i lanes) ++ pair_line k (get_or lanes i 0)) (zero-add (length (take i lanes)) ∙ length-take-le i lanes (omega arith))) in
    wrote_as o q (pair_lines 0 (take i lanes) ++ pair_line i (get_or lanes i 0)) (pair_lines 0 (take (i + 1) lanes)) 0 next next e refl
    (wrote_both o p q (pair_lines 0 (take i lanes)) (pair_line i (get_or lanes i 0)) 0 at next w v)
