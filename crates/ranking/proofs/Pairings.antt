-- What a pairing that is not refused keeps, and the table of the lanes' streams.
use Rattle.std.proofs.Common.{◌≡◌, ℕ, ◌+◌, ◌<◌, ◌≤◌, true, false, not, eqb, ◌⊎◌, List, [], ◌∷◌, ◌++◌, length, get_or, take, set, is_some, Some, None, Option, sym, refl, ap, ◌∙◌, inl, inr, ⊎_elim, arith}
use Rattle.std.proofs.lemmas.List.{take_more, get_or-take, length-take-le, length-set, get_or-set_same, get_or-set_other}
use Rattle.std.proofs.lemmas.Bool.{eq-eqb, ne_eqb, cases_eq, cases_order, both_ways}
use Rattle.std.proofs.lemmas.Bool.Decides.{nat_tests}
use Rattle.record.specs.Refusals.{refuse_if}
use Rattle.record.specs.Lists.{among, place_in, earliest}
use Rattle.record.proofs.Lists.{among_place, among_from, place_at_lem, place_push_other, place_push_new, earliest_more, earliest_found, earliest_none, none_earliest}
use Rattle.ranking.specs.Market.{Market}
use Rattle.ranking.specs.Pairings.{wrong_at, stream_fault, pairing_fault, LawfulPairing, TableOf}

-- a byte that is right refuses nothing, and one that is wrong refuses
pub no_stream_fault : (m : Market) (bytes : List ℕ) (i : ℕ) → wrong_at m bytes i ≡ false → stream_fault m bytes i ≡ None
no_stream_fault m bytes i e = ap (λ b. refuse_if b (8, i)) e

pub stream_fault_lem : (m : Market) (bytes : List ℕ) (i : ℕ) → wrong_at m bytes i ≡ true → stream_fault m bytes i ≡ Some (8, i)
stream_fault_lem m bytes i e = ap (λ b. refuse_if b (8, i)) e

-- when the byte of a stream is wrong, by what it names
pub wrong_lane : (m : Market) (bytes : List ℕ) (i : ℕ) → get_or bytes i 0 < m.lanes → wrong_at m bytes i ≡ among (get_or bytes i 0) (take i bytes)
wrong_lane m bytes i h = grind (arith, nat_tests)

pub wrong_none : (m : Market) (bytes : List ℕ) (i : ℕ) → m.lanes ≤ get_or bytes i 0 → wrong_at m bytes i ≡ not (eqb (get_or bytes i 0) 255)
wrong_none m bytes i h = grind (arith, nat_tests)

-- a lane is among the bytes where its place in the table names a stream
pub table_among : (bytes : List ℕ) (table : List (Option ℕ)) (j : ℕ) → TableOf bytes table → j < 16 → among j bytes ≡ is_some (get_or table j None)
table_among bytes table j t h = among_place j bytes ∙ ap is_some (sym (t.1 j h))

-- one more stream, whose byte names a lane that nobody had
pub table_push : (xs : List ℕ) (table : List (Option ℕ)) (lane : ℕ) → TableOf xs table → lane < 16 → get_or table lane None ≡ None → TableOf (xs ++ lane ∷ []) (set table lane (Some (length xs)))
table_push xs table lane t h free = (length-set table lane (Some (length xs)) ∙ t.0, λ j b. go j b (cases_eq j lane))
  where
    go : (j : ℕ) → j < 16 → (j ≡ lane) ⊎ (j ≡ lane → ⊥) → get_or (set table lane (Some (length xs))) j None ≡ place_in j (xs ++ lane ∷ [])
    go j b (inl e) = rw e (get_or-set_same table lane (Some (length xs)) None (omega (arith, t.0)) ∙ sym (place_push_new lane xs (sym (t.1 lane h) ∙ free)))
    go j b (inr n) = get_or-set_other table lane j (Some (length xs)) None n ∙ t.1 j b ∙ sym (place_push_other j lane xs (ne_eqb j lane n))

-- one more stream, whose byte names no lane
pub table_skip : (xs : List ℕ) (table : List (Option ℕ)) (byte : ℕ) → TableOf xs table → 16 ≤ byte → TableOf (xs ++ byte ∷ []) table
table_skip xs table byte t h = (t.0, λ j b. t.1 j b ∙ sym (place_push_other j byte xs (ne_eqb j byte (λ e. omega arith))))

-- the pairing is refused at the first stream whose byte is wrong
pub fault_at_lem : (m : Market) (bytes : List ℕ) (i : ℕ) → length bytes ≡ m.streams → i < m.streams → earliest (stream_fault m bytes) i ≡ None → wrong_at m bytes i ≡ true → pairing_fault m bytes ≡ Some (8, i)
fault_at_lem m bytes i n h e w =
    let found = earliest_found (stream_fault m bytes) i m.streams (8, i) h e (stream_fault_lem m bytes i w) in
    grind (arith, nat_tests)

-- the pairing is not refused where no stream's byte is wrong
pub fault_none : (m : Market) (bytes : List ℕ) → length bytes ≡ m.streams → earliest (stream_fault m bytes) m.streams ≡ None → pairing_fault m bytes ≡ None
fault_none m bytes n e = grind (arith, nat_tests)

-- what is known once the streams below i are read
abbrev pub ReadTo : (m : Market) (bytes : List ℕ) (i : ℕ) (table : List (Option ℕ)) → Type 0
ReadTo m bytes i table = (earliest (stream_fault m bytes) i ≡ None) × TableOf (take i bytes) table

pub read_lane : (m : Market) (bytes : List ℕ) (i : ℕ) (table : List (Option ℕ)) → m.lanes ≤ 16 → i < length bytes → get_or bytes i 0 < m.lanes → get_or table (get_or bytes i 0) None ≡ None → ReadTo m bytes i table → ReadTo m bytes (i + 1) (set table (get_or bytes i 0) (Some i))
read_lane m bytes i table l h b free r =
    let lane = get_or bytes i 0 in
    let n : length (take i bytes) ≡ i = length-take-le i bytes (omega arith) in
    let a : among lane (take i bytes) ≡ false = table_among (take i bytes) table lane r.1 (omega arith) ∙ ap is_some free in
    let u : TableOf (take i bytes ++ lane ∷ []) (set table lane (Some i)) = rw n at (table_push (take i bytes) table lane r.1 (omega arith) free) in (
      earliest_more (stream_fault m bytes) i r.0 ∙ ap (λ w. refuse_if w (8, i)) (wrong_lane m bytes i b ∙ a),
      rw (take_more bytes i 0 h) u,
    )

pub read_nobody : (m : Market) (bytes : List ℕ) (i : ℕ) (table : List (Option ℕ)) → m.lanes ≤ 16 → i < length bytes → get_or bytes i 0 ≡ 255 → ReadTo m bytes i table → ReadTo m bytes (i + 1) table
read_nobody m bytes i table l h e r = (
  earliest_more (stream_fault m bytes) i r.0 ∙ ap (λ w. refuse_if w (8, i)) (wrong_none m bytes i (omega arith) ∙ ap not (eq-eqb (get_or bytes i 0) 255 e)),
  rw (take_more bytes i 0 h) (table_skip (take i bytes) table (get_or bytes i 0) r.1 (omega arith)),
)

-- a pairing that is not refused is lawful
pub lawful_from_fault : (m : Market) (bytes : List ℕ) → pairing_fault m bytes ≡ None → LawfulPairing m bytes
lawful_from_fault m bytes e = record {
  count = many;
  named = λ i h. let fine = right i h in grind (arith, nat_tests);
  once = λ i j a b l q. ⊎_elim (λ s. s) (⊎_elim (λ low. absurd (earlier i j low b (omega arith) q)) (λ low. absurd (earlier j i low a l (sym q)))) (cases_order i j);
}
  where
    many : length bytes ≡ m.streams
    many = grind (arith, nat_tests)

    fine : earliest (stream_fault m bytes) m.streams ≡ None
    fine = grind (arith, nat_tests)

    right : (i : ℕ) → i < m.streams → wrong_at m bytes i ≡ false
    right i h = let none = earliest_none (stream_fault m bytes) m.streams fine i h in grind (arith, nat_tests)

    earlier : (i j : ℕ) → i < j → j < m.streams → get_or bytes j 0 < m.lanes → get_or bytes i 0 ≡ get_or bytes j 0 → ⊥
    earlier i j l h b q =
        let n : i < length (take j bytes) = rw (length-take-le j bytes (omega (arith, many))) l in
        both_ways (among (get_or bytes j 0) (take j bytes)) (sym (wrong_lane m bytes j b) ∙ right j h)
        (among_from (get_or bytes j 0) (take j bytes) i n (get_or-take j bytes i 0 l ∙ q))

-- a lawful pairing is not refused
pub fault_from_lawful : (m : Market) (bytes : List ℕ) → LawfulPairing m bytes → pairing_fault m bytes ≡ None
fault_from_lawful m bytes p =
    fault_none m bytes p.count (none_earliest (stream_fault m bytes) m.streams (λ i h. ap (λ w. refuse_if w (8, i)) (right i h (p.named i h))))
  where
    free : (i : ℕ) → i < m.streams → get_or bytes i 0 < m.lanes → (o : Option ℕ) → place_in (get_or bytes i 0) (take i bytes) ≡ o → is_some o ≡ false
    free i h l None e = refl
    free i h l (Some k) e =
        let at = place_at_lem (get_or bytes i 0) (take i bytes) k e in
        let n : length (take i bytes) ≡ i = length-take-le i bytes (omega (arith, p.count)) in
        let b : k < i = omega (arith, at.0) in
        let q : get_or bytes k 0 ≡ get_or bytes i 0 = sym (get_or-take i bytes k 0 b) ∙ at.1 in
        absurd (omega (arith, p.once k i (omega arith) h (omega arith) q))

    right : (i : ℕ) → i < m.streams → (get_or bytes i 0 < m.lanes) ⊎ (get_or bytes i 0 ≡ 255) → wrong_at m bytes i ≡ false
    right i h named =
        let fine : get_or bytes i 0 < m.lanes → among (get_or bytes i 0) (take i bytes) ≡ false =
        λ l. among_place (get_or bytes i 0) (take i bytes) ∙ free i h l (place_in (get_or bytes i 0) (take i bytes)) refl in
        grind (arith, nat_tests)
