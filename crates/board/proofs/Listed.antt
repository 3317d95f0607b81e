-- Markets of listed rankings are lawful.
use Rattle.std.proofs.Common.{◌≡◌, ℕ, zero, suc, ◌+◌, ◌<◌, ◌≤◌, Bool, true, false, cond, ◌&&◌, ltb, leb, ◌⊎◌, List, [], ◌∷◌, length, get_or, Some, None, Option, sym, refl, ◌∙◌, subst, ⊎_elim, arith}
use Rattle.std.proofs.lemmas.Option.{none-some}
use Rattle.std.proofs.lemmas.Bool.{and_parts, ltb-true, leb-true}
use Rattle.std.proofs.lemmas.Option.{none-some}
use Rattle.std.proofs.lemmas.Bool.Decides.{nat_tests}
use Rattle.record.specs.Format.{facing}
use Rattle.record.specs.Lists.{every, place_in}
use Rattle.record.proofs.Lists.{place_at_lem}
use Rattle.ranking.specs.Market.{Meaning, LawfulMarket, Bounded, Strict}
use Rattle.ranking.specs.Listings.{content_meaning}
use Rattle.ranking.proofs.Markets.{lawful_market}
use Rattle.board.specs.Boards.{listing, listed_market}

-- a list names at most 16 parties, all of the side that party p ranks
abbrev row_right : (s g p : ℕ) → List ℕ → Bool
row_right s g p row = leb (length row) 16 && every (λ q. ltb q (facing s g p)) row

-- likewise the lists of the parties from p on
abbrev pub rows_right : (s g p : ℕ) → List (List ℕ) → Bool
rows_right s g p [] = true
rows_right s g p (row ∷ rows) = row_right s g p row && rows_right s g (suc p) rows

-- there are 1 to 16 parties on each side
abbrev sizes_right : (s g : ℕ) → Bool
sizes_right s g = leb 1 s && (leb s 16 && (leb 1 g && leb g 16))

abbrev pub lists_right : (s g : ℕ) → List (List ℕ) → Bool
lists_right s g rankings = sizes_right s g && rows_right s g 0 rankings

row_at : (s g from : ℕ) (rows : List (List ℕ)) → rows_right s g from rows ≡ true → (p : ℕ) → row_right s g (from + p) (get_or rows p []) ≡ true
row_at s g from [] e p = refl
row_at s g from (row ∷ rows) e zero =
    let (f, h) = and_parts (row_right s g from row) (rows_right s g (suc from) rows) e in
    let i : from + 0 ≡ from = omega arith in
    rw i f
row_at s g from (row ∷ rows) e (suc p) =
    let (f, h) = and_parts (row_right s g from row) (rows_right s g (suc from) rows) e in
    let i : from + suc p ≡ suc from + p = omega arith in
    rw i (row_at s g (suc from) rows h p)

every_at : (t : ℕ → Bool) (xs : List ℕ) → every t xs ≡ true → (k : ℕ) → k < length xs → t (get_or xs k 0) ≡ true
every_at t [] e k i = absurd (omega arith)
every_at t (x ∷ xs) e zero i = (and_parts (t x) (every t xs) e).0
every_at t (x ∷ xs) e (suc k) i = every_at t xs (and_parts (t x) (every t xs) e).1 k (omega arith)

-- who faces a party
faced : (s g p q : ℕ) → q < facing s g p → ((p < s) × (q < g)) ⊎ ((s ≤ p) × (p < s + g) × (q < s))
faced s g p q h = grind (arith, nat_tests)

-- one place of a list holds one number
place_one : (q r k : ℕ) (xs : List ℕ) → place_in q xs ≡ Some k → place_in r xs ≡ Some k → q ≡ r
place_one q r k xs e f = sym (place_at_lem q xs k e).1 ∙ (place_at_lem r xs k f).1

-- what a test gives where it passes
when_passed : (b : Bool) (o : Option ℕ) (k : ℕ) → cond b o None ≡ Some k → (b ≡ true) × (o ≡ Some k)
when_passed true o k e = (refl, e)
when_passed false o k e = absurd (none-some k e)

module _ (s g : ℕ) (rankings : List (List ℕ)) (right : lists_right s g rankings ≡ true) where
  placed : (p q k : ℕ) → place_in q (get_or rankings p []) ≡ Some k → (q < facing s g p) × (k ≤ 65535)
  placed p q k e =
      let row = get_or rankings p [] in
      let z : 0 + p ≡ p = omega arith in
      let h = subst (λ a. row_right s g a row ≡ true) z (row_at s g 0 rankings (and_parts (sizes_right s g) (rows_right s g 0 rankings) right).1 p) in
      let (short, all) = and_parts (leb (length row) 16) (every (λ x. ltb x (facing s g p)) row) h in
      let (i, is) = place_at_lem q row k e in
      let j : get_or row k 0 < facing s g p = ltb-true (get_or row k 0) (facing s g p) (every_at (λ x. ltb x (facing s g p)) row all k i) in
      (rw is at j, omega (arith, leb-true (length row) 16 short))

  pub listed_lawful : LawfulMarket (listed_market s g rankings)
  listed_lawful = lawful_market (content_meaning (listing s g rankings)) sizes (streams_bounded, lanes_bounded) (streams_strict, lanes_strict)
    where
      x : Meaning
      x = content_meaning (listing s g rankings)

      sizes : (1 ≤ s) × (s ≤ 16) × (1 ≤ g) × (g ≤ 16)
      sizes =
          let (a, e) = and_parts (leb 1 s) (leb s 16 && (leb 1 g && leb g 16)) (and_parts (sizes_right s g) (rows_right s g 0 rankings) right).0 in
          let (b, f) = and_parts (leb s 16) (leb 1 g && leb g 16) e in
          let (c, d) = and_parts (leb 1 g) (leb g 16) f in
          (leb-true 1 s a, leb-true s 16 b, leb-true 1 g c, leb-true g 16 d)

      streams_bounded : Bounded s g x.by_stream
      streams_bounded i j k e =
          let (a, f) = when_passed (ltb i s) (place_in j (get_or rankings i [])) k e in
          let (h, l) = placed i j k f in
          (ltb-true i s a, ⊎_elim (λ z. z.1) (λ z. absurd (omega (arith, ltb-true i s a))) (faced s g i j h), l)

      lanes_bounded : Bounded g s x.by_lane
      lanes_bounded j i k e =
          let (h, l) = placed (s + j) i k e in
          ⊎_elim (λ z. absurd (omega arith)) (λ z. (omega arith, z.2, l)) (faced s g (s + j) i h)

      streams_strict : Strict x.by_stream
      streams_strict p q r k e f = place_one q r k (get_or rankings p []) (when_passed (ltb p s) _ k e).1 (when_passed (ltb p s) _ k f).1

      lanes_strict : Strict x.by_lane
      lanes_strict p q r k e f = place_one q r k (get_or rankings (s + p) []) e f
