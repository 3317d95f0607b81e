-- Pairs as a pairing.
use Rattle.std.proofs.Common.{◌≡◌, ℕ, zero, suc, ◌+◌, ◌<◌, ◌≤◌, true, cond, ◌||◌, eqb, ◌≢◌, ◌⊎◌, List, [], ◌∷◌, ◌++◌, map, length, get_or, take, set, sym, refl, ap, ◌∙◌, subst, inl, inr, ⊎_elim, arith}
use Rattle.std.specs.List.{AllByRecursion}
use Rattle.std.proofs.lemmas.List.FromFn.{length-map-range_with_len, get_or-map-range_with_len}
use Rattle.std.proofs.ByRecursion.{All-get_or, All-map, All-weaker}
use Rattle.std.proofs.lemmas.List.{get_or-set_same, get_or-set_other, map_push, take_more, length-map, get_or-map, get_or-take, ext_get_or, length-take-le}
use Rattle.std.proofs.lemmas.Bool.{cases_eq, eq-eqb, ne_eqb, cond-true, cond-false, cond_both, or_left, or_right, both_ways}
use Rattle.record.specs.Lists.{among, Distinct}
use Rattle.record.specs.Format.{Content, Lawful, Rising, pair_word}
use Rattle.record.specs.Faults.{middle, low, pair_of}
use Rattle.ranking.specs.Market.{Market}
use Rattle.ranking.specs.Pairings.{LawfulPairing}
use Rattle.record.proofs.Extracts.{BytePairs}
use Rattle.record.proofs.Wording.{middle_pair}
use Rattle.archive.specs.Pairs.{lane_of, pairing_of}

-- one more pair, of a stream above all before
pub lane_push : (ps : List (ℕ × ℕ)) (q : ℕ × ℕ) (i : ℕ) → AllByRecursion (λ p. p.0 < q.0) ps → lane_of (ps ++ q ∷ []) i ≡ cond (eqb q.0 i) q.1 (lane_of ps i)
lane_push [] q i a = refl
lane_push (p ∷ ps) q i a = ⊎_elim here (there (lane_push ps q i a.1)) (cases_eq p.0 i)
  where
    low' : p.0 < q.0
    low' = a.0

    here : p.0 ≡ i → lane_of ((p ∷ ps) ++ q ∷ []) i ≡ cond (eqb q.0 i) q.1 (lane_of (p ∷ ps) i)
    here e =
        cond-true (eqb p.0 i) p.1 (lane_of (ps ++ q ∷ []) i) (eq-eqb p.0 i e)
        ∙ sym (cond-false (eqb q.0 i) q.1 (lane_of (p ∷ ps) i) (ne_eqb q.0 i (λ s. absurd (omega (arith, low')))) ∙ cond-true (eqb p.0 i) p.1 (lane_of ps i) (eq-eqb p.0 i e))

    there : lane_of (ps ++ q ∷ []) i ≡ cond (eqb q.0 i) q.1 (lane_of ps i) → (p.0 ≡ i → ⊥) → lane_of ((p ∷ ps) ++ q ∷ []) i ≡ cond (eqb q.0 i) q.1 (lane_of (p ∷ ps) i)
    there known n =
        cond-false (eqb p.0 i) p.1 (lane_of (ps ++ q ∷ []) i) (ne_eqb p.0 i n)
        ∙ known
        ∙ ap (λ l. cond (eqb q.0 i) q.1 l) (sym (cond-false (eqb p.0 i) p.1 (lane_of ps i) (ne_eqb p.0 i n)))

-- the streams before word k are below its stream
pub streams_below : (ws : List ℕ) (k : ℕ) → k < length ws → Rising (map middle ws) → AllByRecursion (λ p. p.0 < middle (get_or ws k 0)) (map pair_of (take k ws))
streams_below [] k h r = absurd (omega arith)
streams_below (w ∷ ws) zero h r = tt
streams_below (w ∷ ws) (suc k) h r = (
  subst (λ x. middle w < x) (get_or-map middle ws k 0 0 (omega arith)) (All-get_or (λ x. middle w < x) (map middle ws) k 0 (subst (λ n. k < n) (sym (length-map ws middle)) (omega arith)) r.0),
  streams_below ws k (omega arith) r.1,
)

-- a table of lanes when one more pair word comes
pub one_paired : (lanes ws : List ℕ) (k : ℕ) → k < length ws → length lanes ≡ 16 → Rising (map middle ws) → middle (get_or ws k 0) < 16
    → ((i : ℕ) → i < 16 → get_or lanes i 255 ≡ lane_of (map pair_of (take k ws)) i)
    → (i : ℕ) → i < 16 → get_or (set lanes (middle (get_or ws k 0)) (low (get_or ws k 0))) i 255 ≡ lane_of (map pair_of (take (k + 1) ws)) i
one_paired lanes ws k h size rise few known i hi =
    ⊎_elim same other (cases_eq (middle w) i)
    ∙ sym (lane_push (map pair_of (take k ws)) (pair_of w) i (streams_below ws k h rise))
    ∙ ap (λ l. lane_of l i) (sym (ap (map pair_of) (take_more ws k 0 h) ∙ map_push pair_of (take k ws) w))
  where
    w : ℕ
    w = get_or ws k 0

    same : middle w ≡ i → get_or (set lanes (middle w) (low w)) i 255 ≡ cond (eqb (middle w) i) (low w) (lane_of (map pair_of (take k ws)) i)
    same e =
        ap (λ x. get_or (set lanes (middle w) (low w)) x 255) (sym e)
        ∙ get_or-set_same lanes (middle w) (low w) 255 (omega arith)
        ∙ sym (cond-true (eqb (middle w) i) (low w) (lane_of (map pair_of (take k ws)) i) (eq-eqb (middle w) i e))

    other : (middle w ≡ i → ⊥) → get_or (set lanes (middle w) (low w)) i 255 ≡ cond (eqb (middle w) i) (low w) (lane_of (map pair_of (take k ws)) i)
    other n =
        let apart : i ≢ middle w = λ s. n (sym s) in
        get_or-set_other lanes (middle w) i (low w) 255 apart
        ∙ known i hi
        ∙ sym (cond-false (eqb (middle w) i) (low w) (lane_of (map pair_of (take k ws)) i) (ne_eqb (middle w) i n))

-- The pairs of a lawful content make a lawful pairing.
lane_named : (g : ℕ) (ps : List (ℕ × ℕ)) (i : ℕ) → AllByRecursion (λ q. q.1 < g) ps → (lane_of ps i < g) ⊎ (◌≡◌ {A = ℕ} (lane_of ps i) 255)
lane_named g [] i a = inr refl
lane_named g (q ∷ ps) i a =
    cond_both (eqb q.0 i) q.1 (lane_of ps i) (λ l. (l < g) ⊎ (◌≡◌ {A = ℕ} l 255)) (λ _. inl a.0) (λ _. lane_named g ps i a.1)

lane_among : (ps : List (ℕ × ℕ)) (i : ℕ) → (◌≡◌ {A = ℕ} (lane_of ps i) 255 → ⊥) → among (lane_of ps i) (map (λ q. q.1) ps) ≡ true
lane_among [] i n = absurd (n refl)
lane_among (q ∷ ps) i n =
    cond_both (eqb q.0 i) q.1 (lane_of ps i) (λ l. (◌≡◌ {A = ℕ} l 255 → ⊥) → (eqb l q.1 || among l (map (λ r. r.1) ps)) ≡ true)
    (λ _ _. or_left (eqb q.1 q.1) (among q.1 (map (λ r. r.1) ps)) (eq-eqb q.1 q.1 refl))
    (λ _ m. or_right (eqb (lane_of ps i) q.1) (among (lane_of ps i) (map (λ r. r.1) ps)) (lane_among ps i m))
    n

lane_once : (ps : List (ℕ × ℕ)) (i j : ℕ) → Distinct (map (λ q. q.1) ps) → (◌≡◌ {A = ℕ} (lane_of ps i) 255 → ⊥) → lane_of ps i ≡ lane_of ps j → i ≡ j
lane_once [] i j d n e = absurd (n refl)
lane_once (q ∷ ps) i j d n e = ⊎_elim (λ a. ⊎_elim (λ b. sym a ∙ b) (first a) (cases_eq q.0 j)) (λ a. ⊎_elim (second a) (neither (lane_once ps i j d.1) a) (cases_eq q.0 j)) (cases_eq q.0 i)
  where
    at : (k : ℕ) → q.0 ≡ k → lane_of (q ∷ ps) k ≡ q.1
    at k s = cond-true (eqb q.0 k) q.1 (lane_of ps k) (eq-eqb q.0 k s)

    past : (k : ℕ) → (q.0 ≡ k → ⊥) → lane_of (q ∷ ps) k ≡ lane_of ps k
    past k s = cond-false (eqb q.0 k) q.1 (lane_of ps k) (ne_eqb q.0 k s)

    twice : (k : ℕ) → lane_of ps k ≡ q.1 → (◌≡◌ {A = ℕ} q.1 255 → ⊥) → ⊥
    twice k s t = both_ways (among q.1 (map (λ r. r.1) ps)) d.0 (ap (λ l. among l (map (λ r. r.1) ps)) (sym s) ∙ lane_among ps k (λ z. t (sym s ∙ z)))

    first : q.0 ≡ i → (q.0 ≡ j → ⊥) → i ≡ j
    first a b = absurd (twice j (sym (past j b) ∙ sym e ∙ at i a) (λ z. n (at i a ∙ z)))

    second : (q.0 ≡ i → ⊥) → q.0 ≡ j → i ≡ j
    second a b = absurd (twice i (sym (past i a) ∙ e ∙ at j b) (λ z. n (e ∙ at j b ∙ z)))

    neither : ((◌≡◌ {A = ℕ} (lane_of ps i) 255 → ⊥) → lane_of ps i ≡ lane_of ps j → i ≡ j) → (q.0 ≡ i → ⊥) → (q.0 ≡ j → ⊥) → i ≡ j
    neither known a b = known (λ z. n (past i a ∙ z)) (sym (past i a) ∙ e ∙ past j b)

pub pairing_at_lem : (c : Content) (i : ℕ) → i < c.streams → get_or (pairing_of c) i 0 ≡ lane_of c.pairs i
pairing_at_lem c i h = get_or-map-range_with_len (lane_of c.pairs) 0 c.streams i i 0 h (omega arith)

pub pairing_lawful : (c : Content) (m : Market) → Lawful c → m.streams ≡ c.streams → m.lanes ≡ c.lanes → LawfulPairing m (pairing_of c)
pairing_lawful c m law es eg = record {
  count = length-map-range_with_len (lane_of c.pairs) 0 c.streams ∙ sym es;
  named = λ i h. let k : i < c.streams = omega arith in
      subst (λ l. (l < m.lanes) ⊎ (◌≡◌ {A = ℕ} l 255)) (sym (pairing_at_lem c i k)) (subst (λ g. (lane_of c.pairs i < g) ⊎ (◌≡◌ {A = ℕ} (lane_of c.pairs i) 255)) (sym eg) (lane_named c.lanes c.pairs i law.pairs_of_lanes));
  once = λ i j hi hj l e.
      let ki : i < c.streams = omega arith in
      let kj : j < c.streams = omega arith in
      let small : lane_of c.pairs i < m.lanes = subst (λ x. x < m.lanes) (pairing_at_lem c i ki) l in
      lane_once c.pairs i j law.no_lane_twice (λ z. absurd (omega (arith, law.few_lanes))) (sym (pairing_at_lem c i ki) ∙ e ∙ pairing_at_lem c j kj);
}

-- a table of a content's lanes, cut to its streams, is its pairing
pub pairing_cut : (c : Content) (lanes : List ℕ) (n : ℕ) → n ≡ c.streams → n ≤ 16 → length lanes ≡ 16 → ((i : ℕ) → i < 16 → get_or lanes i 255 ≡ lane_of c.pairs i) → take n lanes ≡ pairing_of c
pairing_cut c lanes n e few size known =
    ext_get_or 255 (take n lanes) (pairing_of c) (length-take-le n lanes (omega arith) ∙ e ∙ sym (length-map-range_with_len (lane_of c.pairs) 0 c.streams))
    (λ i h. let k : i < n = subst (λ x. i < x) (length-take-le n lanes (omega arith)) h in
    get_or-take n lanes i 255 k ∙ known i (omega arith) ∙ sym (get_or-map-range_with_len (lane_of c.pairs) 0 c.streams i i 255 (omega arith) (omega arith)))

-- the streams of a content's pair words
pub pair_streams : (ps : List (ℕ × ℕ)) → BytePairs ps → map middle (map pair_word ps) ≡ map (λ q. q.0) ps
pair_streams [] b = refl
pair_streams (q ∷ ps) b =
    ap (λ x. x ∷ map middle (map pair_word ps)) (middle_pair q b.0.0 b.0.1) ∙ ap (λ l. q.0 ∷ l) (pair_streams ps b.1)

pub few_streams_of : (c : Content) → Lawful c → AllByRecursion (λ x. x < 16) (map (λ q. q.0) c.pairs)
few_streams_of c law = All-map (λ x. x < 16) (λ q. q.0) c.pairs (All-weaker (λ q. q.0 < c.streams) (λ q. q.0 < 16) (λ q h. omega (arith, law.few_streams)) c.pairs law.pairs_of_streams)
