use Rattle.std.proofs.Common.{◌≡◌, ℕ, ◌+◌, ◌/◌, ◌%◌, ◌^◌, ◌<◌, ◌≤◌, [], ◌∷◌, ◌++◌, length, decimal, sym, refl, ap, ◌∙◌, arith}
use Rattle.std.proofs.lemmas.Fmt.{decimal_digit, decimal_step, decimal_nonempty, length-decimal-le}
use Rattle.std.proofs.lemmas.List.{length_push}
use Rattle.archive.proofs.Writing.{wrote_both, wrote_as}
use Rattle.archive.proofs.text.Cursor.+put_number.Goals as goal

-- a number of several digits is one digit longer than its tenth
longer : (n : ℕ) → 10 ≤ n → n < 2 ^ 64 → length (decimal n) ≡ length (decimal (n / 10)) + 1
longer n h l = ap length (decimal_step n h l) ∙ length_push (decimal (n / 10)) (48 + n % 10)

pub push-requires : goal.push-requires
push-requires t c = record { there_is_room = omega (arith, c.requires.there_is_room, decimal_nonempty c.args.number (omega arith)) }

pub returns-then-number-lt10 : goal.returns-then-number-lt10
returns-then-number-lt10 t c =
    let n = c.args.number in
    let e : 48 + n % 10 ≡ 48 + n = omega arith in
    let w = c.push.ensures.wrote_the_byte in
    record {
      same_list = c.push.ensures.same_list;
      takes_at_most_five = omega (arith, w.place);
      wrote_the_number = wrote_as _ _ ((48 + n % 10) ∷ []) (decimal n) _ _ _ (ap (λ d. d ∷ []) e ∙ sym (decimal_digit n (omega arith))) refl w;
    }

pub put_number-requires : goal.put_number-requires
put_number-requires t c = (omega arith, omega (arith, c.requires.there_is_room, longer c.args.number (omega arith) (omega arith)))

pub push-requires-2 : goal.push-requires-2
push-requires-2 t c =
    let w = c.put_number.ensures.wrote_the_number in
    record { there_is_room = omega (arith, c.requires.there_is_room, longer c.args.number (omega arith) (omega arith), w.place, w.size) }

pub returns : goal.returns
returns t c =
    let n = c.args.number in
    let v = c.put_number.ensures.wrote_the_number in
    let w = c.push-2.ensures.wrote_the_byte in
    record {
      same_list = c.push-2.ensures.same_list ∙ c.put_number.ensures.same_list;
      takes_at_most_five = omega (arith, v.place, w.place, longer n (omega arith) (omega arith), length-decimal-le 5 n (omega arith) (omega arith) (omega arith));
      wrote_the_number =
          wrote_as _ _ (decimal (n / 10) ++ ((48 + n % 10) ∷ [])) (decimal n) _ _ _ (sym (decimal_step n (omega arith) (omega arith))) refl
          (wrote_both _ _ _ _ _ _ _ _ v w);
    }
