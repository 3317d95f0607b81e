-- What is worked out on a sheet agrees with the definitions.
use Rattle.std.proofs.Common.{◌≡◌, ℕ, zero, suc, ◌*◌, ◌<◌, ◌≤◌, Bool, true, false, cond, not, ◌&&◌, eqb, leb, ◌⊎◌, List, [], ◌∷◌, map, length, get_or, is_some, IfSome, Some, None, Decides, Option, sym, refl, ap, ◌∙◌, subst, inl, inr, ⊎_elim, arith}
use mathlib.Core.Path.{fun_ext}
use Rattle.std.specs.List.{range_with_len}
use Rattle.std.specs.Option.{option_map}
use Rattle.std.proofs.lemmas.List.FromFn.{length-map-range_with_len, get_or-map-range_with_len}
use Rattle.std.proofs.lemmas.List.{get_or_past}
use Rattle.std.proofs.lemmas.Option.{MatchOption-at_some, none-some}
use Rattle.std.proofs.lemmas.Bool.{cases_Bool, cases_lt, true≢false, false≢true, both_ways, and_parts, and_from, not-true, not_from_false, leb-true, eqb-true}
use Rattle.std.proofs.lemmas.Bool.Decides.{nat_tests, Decides-at}
use Rattle.record.specs.Lists.{every}
use Rattle.ranking.specs.Market.{Market, LawfulMarket, prefers}
use Rattle.board.specs.Sides.{across, party_count}
use Rattle.ranking.specs.Stability.{wants, held_rank}
use Rattle.board.proofs.Sides.{sides_law, across_parts}
use Rattle.ranking.proofs.Blocking.{prefers_same, prefers_some}
use Rattle.board.specs.State.{State, new_state, seeks, Content, Standstill, Best}
use Rattle.board.specs.Offer.{with_member, with_holding, joins, loses, leaves, pairs_up, offered, takes, wronged}
use Rattle.board.specs.Turn.{Chain, Owed, Tally, Turn}
use Rattle.board.specs.Turn.Chain.{content, refused, passed, ended}
use Rattle.board.specs.Turn.Owed.{nobody, chain}
use Rattle.board.specs.Turn.Turn.{idle, moves}
use Rattle.board.specs.Turns.{Turns, TurnGives, TurnsGive}
use Rattle.board.specs.Turns.Turns.{none, next}
use Rattle.board.specs.Computed.{Sheet, mark_at, board_on, rows_of, written, rows_fit, fits, new_sheet, better_of, best_below, best_of, content_below, standstill_on, offered_on, rest_of, offer_of, chain_of, chain_on, and_then, owed_on, moved_on, turn_of, turn_on, turns_on, ending}

-- a table marks only numbers below n
abbrev Inside : ℕ → (ℕ → ℕ → Bool) → Type 0
Inside n table = (a b : ℕ) → table a b ≡ true → (a < n) × (b < n)

-- a board has something to say only of parties below n
record Within (n : ℕ) (σ : State) : Type 0 where
  holders : (p : ℕ) → n ≤ p → σ.holding p ≡ None
  opened : Inside n σ.opens
  bidding : Inside n σ.bidder

outside : (n : ℕ) (table : ℕ → ℕ → Bool) → Inside n table → (a b : ℕ) → (n ≤ a) ⊎ (n ≤ b) → table a b ≡ false
outside n table h a b o = ⊎_elim (λ e. absurd (let z = h a b e in omega arith)) (λ e. e) (cases_Bool (table a b))

-- what was written is read

read_list : {X : Type 0} (f : ℕ → X) (d : X) (n : ℕ) → ((k : ℕ) → n ≤ k → f k ≡ d) → (k : ℕ) → get_or (map f (range_with_len 0 n)) k d ≡ f k
read_list f d n h k =
    ⊎_elim
    (λ i. get_or-map-range_with_len f 0 n k k d i (omega arith))
    (λ i. get_or_past (map f (range_with_len 0 n)) k d (omega (arith, length-map-range_with_len f 0 n)) ∙ sym (h k i))
    (cases_lt k n)

read_rows : (n : ℕ) (table : ℕ → ℕ → Bool) → Inside n table → (a b : ℕ) → mark_at (rows_of n table) a b ≡ table a b
read_rows n table h a b = ⊎_elim near far (cases_lt a n)
  where
    row : ℕ → List Bool
    row k = map (table k) (range_with_len 0 n)

    near : a < n → mark_at (rows_of n table) a b ≡ table a b
    near i =
        ap (λ r. get_or r b false) (get_or-map-range_with_len row 0 n a a [] i (omega arith))
        ∙ read_list (table a) false n (λ k j. outside n table h a k (inr j)) b

    far : n ≤ a → mark_at (rows_of n table) a b ≡ table a b
    far i =
        ap (λ r. get_or r b false) (get_or_past (map row (range_with_len 0 n)) a [] (omega (arith, length-map-range_with_len row 0 n)))
        ∙ sym (outside n table h a b (inl i))

read_written : (n : ℕ) (σ : State) → Within n σ → board_on (written n σ) ≡ σ
read_written n σ w = λ i. record {
  holding = fun_ext (read_list σ.holding None n w.holders) i;
  opens = fun_ext (λ a. fun_ext (read_rows n σ.opens w.opened a)) i;
  bidder = fun_ext (λ a. fun_ext (read_rows n σ.bidder w.bidding a)) i;
}

-- an offer between parties below n leaves a board within them

module _ (n : ℕ) where
  member_inside : (table : ℕ → ℕ → Bool) (a b : ℕ) (is : Bool) → Inside n table → (is ≡ true → (a < n) × (b < n)) → Inside n (with_member table a b is)
  member_inside table a b is h new x y = go (cases_Bool (eqb x a && eqb y b))
    where
      go : ((eqb x a && eqb y b) ≡ true) ⊎ ((eqb x a && eqb y b) ≡ false) → cond (eqb x a && eqb y b) is (table x y) ≡ true → (x < n) × (y < n)
      go (inl e) f =
          let (i, j) = and_parts (eqb x a) (eqb y b) e in
          let z = new (rw e at f) in
          (omega (arith, eqb-true x a i), omega (arith, eqb-true y b j))
      go (inr e) f = h x y (rw e at f)

  holding_within : (h : ℕ → Option ℕ) (a : ℕ) (o : Option ℕ) → ((p : ℕ) → n ≤ p → h p ≡ None) → (a < n) ⊎ (o ≡ None) → (p : ℕ) → n ≤ p → with_holding h a o p ≡ None
  holding_within h a o w new p i = go (cases_Bool (eqb p a))
    where
      go : (eqb p a ≡ true) ⊎ (eqb p a ≡ false) → cond (eqb p a) o (h p) ≡ None
      go (inl e) = rw e (⊎_elim (λ j. absurd (omega (arith, eqb-true p a e))) (λ z. z) new)
      go (inr e) = rw e (w p i)

  module _ (σ : State) (w : Within n σ) (p q : ℕ) (i : p < n) (j : q < n) where
    joins_within : Within n (joins σ p q)
    joins_within = record {
      holders = w.holders;
      opened = member_inside σ.opens q p true w.opened (λ _. (j, i));
      bidding = member_inside σ.bidder q p true w.bidding (λ _. (j, i));
    }

    loses_within : Within n (loses σ p q)
    loses_within = record { holders = w.holders; opened = member_inside σ.opens p q false w.opened (λ e. absurd (false≢true e)); bidding = w.bidding }

    leaves_within : (o : Option ℕ) → Within n (leaves σ p o)
    leaves_within None = w
    leaves_within (Some x) = record {
      holders = holding_within σ.holding x None w.holders (inr refl);
      opened = member_inside σ.opens x p false w.opened (λ e. absurd (false≢true e));
      bidding = w.bidding;
    }

    pairs_within : Within n (pairs_up σ p q)
    pairs_within = record {
      holders = holding_within (with_holding σ.holding q (Some p)) p (Some q) (holding_within σ.holding q (Some p) w.holders (inl j)) (inl i);
      opened = w.opened;
      bidding = w.bidding;
    }

  offered_within : (σ : State) → Within n σ → (p q : ℕ) → p < n → q < n → (taken : Bool) → Within n (offered σ p q taken)
  offered_within σ w p q i j false = loses_within (joins σ p q) (joins_within σ w p q i j) p q i j
  offered_within σ w p q i j true =
      let ρ = joins σ p q in
      let υ = leaves ρ p (σ.holding p) in
      let τ = leaves υ q (σ.holding q) in
      let r = joins_within σ w p q i j in
      let u = leaves_within ρ r p q i j (σ.holding p) in
      pairs_within τ (leaves_within υ u q p j i (σ.holding q)) p q i j

  -- lists with at most n places have something to say only below n
  rows_inside : (rows : List (List Bool)) → rows_fit n rows ≡ true → Inside n (mark_at rows)
  rows_inside rows e a b f =
      let (g, h) = and_parts (leb (length rows) n) (every (λ row. leb (length row) n) rows) e in (
        ⊎_elim (λ i. i) (λ i. absurd (both_ways (mark_at rows a b) (past rows a b (omega (arith, leb-true (length rows) n g))) f)) (cases_lt a n),
        ⊎_elim (λ i. i) (λ i. absurd (both_ways (mark_at rows a b) (get_or_past (get_or rows a []) b false (short rows a b h i)) f)) (cases_lt b n),
      )
    where
      past : (rows : List (List Bool)) (a b : ℕ) → length rows ≤ a → mark_at rows a b ≡ false
      past rows a b i = ap (λ r. get_or r b false) (get_or_past rows a [] i)

      short : (rows : List (List Bool)) (a b : ℕ) → every (λ row. leb (length row) n) rows ≡ true → n ≤ b → length (get_or rows a []) ≤ b
      short [] a b e i = omega arith
      short (row ∷ rows) zero b e i = let (g, h) = and_parts (leb (length row) n) (every (λ r. leb (length r) n) rows) e in omega (arith, leb-true (length row) n g)
      short (row ∷ rows) (suc a) b e i = let (g, h) = and_parts (leb (length row) n) (every (λ r. leb (length r) n) rows) e in short rows a b h i

  fits_within : (t : Sheet) → fits n t ≡ true → Within n (board_on t)
  fits_within t e =
      let (f, g) = and_parts (leb (length t.holding) n) (rows_fit n t.opens && rows_fit n t.bidder) e in
      let (h, k) = and_parts (rows_fit n t.opens) (rows_fit n t.bidder) g in
      record {
        holders = λ p i. get_or_past t.holding p None (omega (arith, leb-true (length t.holding) n f));
        opened = rows_inside t.opens h;
        bidding = rows_inside t.bidder k;
      }

-- the best party

-- what is no better than one that a better one beats is no better than that
no_better : (a b c : Option ℕ) → prefers a c ≡ false → prefers b c ≡ true → prefers a b ≡ false
no_better None b c e f = refl
no_better (Some k) None c e f = absurd (false≢true f)
no_better (Some k) (Some l) None e f = absurd (true≢false e)
no_better (Some k) (Some l) (Some r) e f = grind (arith, nat_tests)

-- what holds of each number below n, and of n, holds of each below n + 1
one_more : (P : ℕ → Type 0) (n : ℕ) → ((k : ℕ) → k < n → P k) → P n → (k : ℕ) → k < suc n → P k
one_more P n h l k i = ⊎_elim (h k) (λ j. subst P (let e : n ≡ k = omega arith in e) l) (cases_lt k n)

module _ (m : Market) (σ : State) (p : ℕ) where
  -- p does not rank q better than r, if it seeks q at all
  abbrev Beaten : ℕ → ℕ → Type 0
  Beaten r q = seeks m σ p q ≡ true → prefers (m.rank p q) (m.rank p r) ≡ false

  -- what the best of the parties below n is
  abbrev Told : ℕ → Option ℕ → Type 0
  Told n None = (q : ℕ) → q < n → seeks m σ p q ≡ false
  Told n (Some r) = (seeks m σ p r ≡ true) × ((q : ℕ) → q < n → Beaten r q)

  told_more : (n : ℕ) (o : Option ℕ) → Told n o → Told (suc n) (better_of m σ p n o)
  told_more n None h = go (seeks m σ p n) refl
    where
      go : (b : Bool) → seeks m σ p n ≡ b → Told (suc n) (cond b (Some n) None)
      go true e = (e, one_more (Beaten n) n (λ q i f. absurd (both_ways (seeks m σ p q) (h q i) f)) (λ _. prefers_same (m.rank p n)))
      go false e = one_more (λ q. seeks m σ p q ≡ false) n h e
  told_more n (Some r) (s, h) = go (seeks m σ p n) (prefers (m.rank p n) (m.rank p r)) refl refl
    where
      go : (b c : Bool) → seeks m σ p n ≡ b → prefers (m.rank p n) (m.rank p r) ≡ c → Told (suc n) (cond (b && c) (Some n) (Some r))
      go true true e f = (e, one_more (Beaten n) n (λ q i g. no_better (m.rank p q) (m.rank p n) (m.rank p r) (h q i g) f) (λ _. prefers_same (m.rank p n)))
      go true false e f = (s, one_more (Beaten r) n h (λ _. f))
      go false c e f = (s, one_more (Beaten r) n h (λ g. absurd (both_ways (seeks m σ p n) e g)))

  told : (n : ℕ) → Told n (best_below m σ p n)
  told zero = λ q i. absurd (omega arith)
  told (suc n) = told_more n (best_below m σ p n) (told n)

-- where there is an answer, it is right
abbrev Right : {A : Type 0} → Option A → (A → Type 0) → Type 0
Right o P = IfSome o P

right_mapped : {A B : Type 0} (P : A → Type 0) (Q : B → Type 0) (f : A → B) (o : Option A) → Right o P → ((a : A) → P a → Q (f a)) → Right (option_map f o) Q
right_mapped P Q f None h g = tt
right_mapped P Q f (Some a) h g = g a h

mapped_some : {A B : Type 0} (f : A → B) (o : Option A) (b : B) → option_map f o ≡ Some b → (a : A) × (o ≡ Some a) × (f a ≡ b)
mapped_some f None b e = absurd (none-some b e)
mapped_some f (Some a) b e = (a, refl, cc)

right_then : {A B : Type 0} (P : A → Type 0) (Q : B → Type 0) (f : A → Option B) (o : Option A) → Right o P → ((a : A) → P a → Right (f a) Q) → Right (and_then o f) Q
right_then P Q f None h g = tt
right_then P Q f (Some a) h g = g a h

module _ (m : Market) (law : LawfulMarket m) where
  -- how many parties there are
  abbrev n : ℕ
  n = party_count m

  across_below : (p q : ℕ) → across m p q ≡ true → (p < n) × (q < n)
  across_below p q e = ⊎_elim (λ h. omega arith) (λ h. omega arith) (across_parts m p q e)

  sought_below : (σ : State) (p q : ℕ) → seeks m σ p q ≡ true → (p < n) × (q < n)
  sought_below σ p q e =
      let (k, f) = prefers_some (m.rank p q) (held_rank m σ.holding p) (and_parts (σ.opens p q) (wants m σ.holding p q) e).1 in
      across_below p q (sides_law m law p q k f)

  told_content : (σ : State) (p : ℕ) → Told m σ p n None → Content m σ p
  told_content σ p h q = ⊎_elim (λ e. h q (sought_below σ p q e).1) (λ e. e) (cases_Bool (seeks m σ p q))

  told_best : (σ : State) (p q : ℕ) → Told m σ p n (Some q) → Best m σ p q
  told_best σ p q (s, h) = record { sought = s; first = λ r o. ⊎_elim (λ e. h r (sought_below σ p r e).1 e) (λ e. unsought r o e) (cases_Bool (seeks m σ p r)) }
    where
      unsought : (r : ℕ) → σ.opens p r ≡ true → seeks m σ p r ≡ false → prefers (m.rank p r) (m.rank p q) ≡ false
      unsought r o e = no_better (m.rank p r) (m.rank p q) (held_rank m σ.holding p) (rw o at e) (and_parts (σ.opens p q) (wants m σ.holding p q) s).1

  -- a standstill is worked out right
  module _ (t : Sheet) where
    rests : (p : ℕ) → is_some (best_of m (board_on t) p) ≡ false → Content m (board_on t) p
    rests p = go (best_of m (board_on t) p) (told m (board_on t) p n)
      where
        go : (o : Option ℕ) → Told m (board_on t) p n o → is_some o ≡ false → Content m (board_on t) p
        go None h e = told_content (board_on t) p h
        go (Some q) h e = absurd (true≢false e)

    rested : (p : ℕ) → Content m (board_on t) p → is_some (best_of m (board_on t) p) ≡ false
    rested p c = go (best_of m (board_on t) p) (told m (board_on t) p n)
      where
        go : (o : Option ℕ) → Told m (board_on t) p n o → is_some o ≡ false
        go None h = refl
        go (Some q) (s, h) = absurd (both_ways (seeks m (board_on t) p q) (c q) s)

    all_rest : (k : ℕ) → content_below m (board_on t) k ≡ true → (p : ℕ) → p < k → Content m (board_on t) p
    all_rest zero e = λ p i. absurd (omega arith)
    all_rest (suc k) e =
        let (f, g) = and_parts (not (is_some (best_of m (board_on t) k))) (content_below m (board_on t) k) e in
        one_more (Content m (board_on t)) k (all_rest k g) (rests k (not-true (is_some (best_of m (board_on t) k)) f))

    all_rested : (k : ℕ) → ((p : ℕ) → p < k → Content m (board_on t) p) → content_below m (board_on t) k ≡ true
    all_rested zero h = refl
    all_rested (suc k) h = and_from _ (content_below m (board_on t) k) (not_from_false _ (rested k (h k (omega arith)))) (all_rested k (λ p i. h p (omega arith)))

    pub standstill_computed : Decides (standstill_on m t) (Standstill m (board_on t))
    standstill_computed = (all_rest n, all_rested n)

  -- an offer on a sheet is the offer on its board
  module _ (t : Sheet) (w : Within n (board_on t)) (p q : ℕ) (b : Best m (board_on t) p q) (taken : Bool) where
    after_within : Within n (offered (board_on t) p q taken)
    after_within = let (i, j) = sought_below (board_on t) p q b.sought in offered_within n (board_on t) w p q i j taken

    after_is : board_on (offered_on m t p q taken) ≡ offered (board_on t) p q taken
    after_is = read_written n (offered (board_on t) p q taken) after_within

    sheet_within : Within n (board_on (offered_on m t p q taken))
    sheet_within = subst (Within n) (sym after_is) after_within

  -- a chain that was worked out is a chain
  module _ (waiting : Option ℕ) where
    abbrev Chained : Sheet → ℕ → Sheet × ℕ → Type 0
    Chained t p r = Chain m waiting (board_on t) p (board_on r.0) r.1 × Within n (board_on r.0)

    abbrev Chains : (Sheet → ℕ → Option (Sheet × ℕ)) → Type 0
    Chains more = (t : Sheet) (p : ℕ) → Within n (board_on t) → Right (more t p) (Chained t p)

    module _ (more : Sheet → ℕ → Option (Sheet × ℕ)) (right : Chains more) (t : Sheet) (p : ℕ) (w : Within n (board_on t)) where
      offer_right : (q : ℕ) → Best m (board_on t) p q → (taken : Bool) → takes m waiting (board_on t) p q ≡ taken → Right (offer_of more m t p q taken) (Chained t p)
      offer_right q b false e =
          right_mapped (Chained (offered_on m t p q false) p) (Chained t p) _ (more (offered_on m t p q false) p)
          (right (offered_on m t p q false) p (sheet_within t w p q b false))
          λ r (c, f). (refused b e (subst (λ s. Chain m waiting s p (board_on r.0) r.1) (after_is t w p q b false) c), f)
      offer_right q b true e = by (wronged (board_on t) true q) refl
        where
          u : Sheet
          u = offered_on m t p q true

          by : (o : Option ℕ) → wronged (board_on t) true q ≡ o → Right (option_map (λ r. (r.0, suc r.1)) (rest_of more u o)) (Chained t p)
          by None f = (subst (λ s. Chain m waiting (board_on t) p s 1) (sym (after_is t w p q b true)) (ended b e f), sheet_within t w p q b true)
          by (Some x) f =
              right_mapped (Chained u x) (Chained t p) _ (more u x) (right u x (sheet_within t w p q b true))
              λ r (c, g). (passed b e f (subst (λ s. Chain m waiting s x (board_on r.0) r.1) (after_is t w p q b true) c), g)

      chain_right : (o : Option ℕ) → Told m (board_on t) p n o → Right (chain_of more m waiting t p o) (Chained t p)
      chain_right None h = (content (told_content (board_on t) p h), w)
      chain_right (Some q) h = offer_right q (told_best (board_on t) p q h) (takes m waiting (board_on t) p q) refl

    chain_computed : (steps : ℕ) → Chains (chain_on steps m waiting)
    chain_computed zero t p w = tt
    chain_computed (suc steps) t p w = chain_right (chain_on steps m waiting) (chain_computed steps) t p w (best_of m (board_on t) p) (told m (board_on t) p n)

    -- likewise what is owed
    abbrev OwedAs : Option ℕ → Sheet → Sheet × ℕ × ℕ → Type 0
    OwedAs o t r = Owed m waiting o (board_on t) (board_on r.0) r.1 r.2 × Within n (board_on r.0)

    owed_computed : (o : Option ℕ) (t : Sheet) → Within n (board_on t) → Right (owed_on m waiting o t) (OwedAs o t)
    owed_computed None t w = (nobody, w)
    owed_computed (Some x) t w =
        right_mapped (Chained t x) (OwedAs (Some x) t) _ (chain_on (suc (m.streams * m.lanes)) m waiting t x) (chain_computed (suc (m.streams * m.lanes)) t x w)
        λ r (c, f). (chain c, f)

  -- and a turn
  abbrev Turned : Sheet → ℕ → Sheet × Tally → Type 0
  Turned t p r = Turn m (board_on t) p (board_on r.0) r.1 × Within n (board_on r.0)

  module _ (t : Sheet) (p : ℕ) (w : Within n (board_on t)) where
    moved_right : (q : ℕ) → Best m (board_on t) p q → (taken : Bool) → takes m None (board_on t) p q ≡ taken → Right (moved_on m t p q taken) (Turned t p)
    moved_right q b taken e =
        right_then (OwedAs x y u) (Turned t p) _ (owed_on m x y u) (owed_computed x y u (sheet_within t w p q b taken))
        λ r (c, f). right_then (OwedAs None x r.0) (Turned t p) _ (owed_on m None x r.0) (owed_computed None x r.0 f)
        λ s (d, g). (moves b e (subst (λ z. Owed m x y z (board_on r.0) r.1 r.2) (after_is t w p q b taken) c) d, g)
      where
        x : Option ℕ
        x = wronged (board_on t) taken p

        y : Option ℕ
        y = wronged (board_on t) taken q

        u : Sheet
        u = offered_on m t p q taken

    turn_by : (o : Option ℕ) → Told m (board_on t) p n o → Right (turn_of m t p o) (Turned t p)
    turn_by None h = (idle (told_content (board_on t) p h), w)
    turn_by (Some q) h = moved_right q (told_best (board_on t) p q h) (takes m None (board_on t) p q) refl

    turn_right : Right (turn_on m t p) (Turned t p)
    turn_right = turn_by (best_of m (board_on t) p) (told m (board_on t) p n)

  -- and turns
  abbrev TurnedAll : Sheet → List ℕ → Sheet × Tally → Type 0
  TurnedAll t ps r = Turns m (board_on t) ps (board_on r.0) r.1

  turns_right : (ps : List ℕ) (t : Sheet) → Within n (board_on t) → Right (turns_on m t ps) (TurnedAll t ps)
  turns_right [] t w = none
  turns_right (p ∷ ps) t w =
      right_then (Turned t p) (TurnedAll t (p ∷ ps)) _ (turn_on m t p) (turn_right t p w)
      λ r (c, f). right_then (TurnedAll r.0 ps) (TurnedAll t (p ∷ ps)) _ (turns_on m r.0 ps) (turns_right ps r.0 f)
      λ s d. next c d

  pub turn_computed : (t u : Sheet) (p : ℕ) (a : Tally) → fits (party_count m) t ≡ true → turn_on m t p ≡ Some (u, a) → Turn m (board_on t) p (board_on u) a
  turn_computed t u p a f e = (MatchOption-at_some (Unit {0}) (Turned t p) (u, a) e (turn_right t p (fits_within n t f))).0

  pub turns_computed : (t u : Sheet) (ps : List ℕ) (a : Tally) → fits (party_count m) t ≡ true → turns_on m t ps ≡ Some (u, a) → Turns m (board_on t) ps (board_on u) a
  turns_computed t u ps a f e = MatchOption-at_some (Unit {0}) (TurnedAll t ps) (u, a) e (turns_right ps t (fits_within n t f))

  -- a new board written out is the new board
  new_within : Within n (new_state m)
  new_within = record { holders = λ p i. refl; opened = across_below; bidding = λ p q e. absurd (false≢true e) }

  new_written : board_on (new_sheet m) ≡ new_state m
  new_written = read_written n (new_state m) new_within

  pub turns_from_new : (u : Sheet) (ps : List ℕ) (a : Tally) → turns_on m (new_sheet m) ps ≡ Some (u, a) → Turns m (new_state m) ps (board_on u) a
  turns_from_new u ps a e =
      subst (λ σ. Turns m σ ps (board_on u) a) new_written
      (MatchOption-at_some (Unit {0}) (TurnedAll (new_sheet m) ps) (u, a) e (turns_right ps (new_sheet m) (subst (Within n) (sym new_written) new_within)))

  -- what is told of worked turns is so
  module _ (r : Sheet × Tally) (held : List (Option ℕ)) (a : Tally) (still : Bool) (e : ending m r ≡ (held, a, still)) where
    told_holding : (q : ℕ) → (board_on r.0).holding q ≡ get_or held q None
    told_holding q = ap (λ z. get_or z.0 q None) e

    told_still : Decides still (Standstill m (board_on r.0))
    told_still = Decides-at still (standstill_on m r.0) (sym (ap (λ z. z.2) e)) (standstill_computed r.0)

  pub turn_gives : (t : Sheet) (p : ℕ) (held : List (Option ℕ)) (a : Tally) (still : Bool) → fits (party_count m) t ≡ true → option_map (ending m) (turn_on m t p) ≡ Some (held, a, still) → TurnGives m (board_on t) p held a still
  turn_gives t p held a still f e =
      let (r, g, h) = mapped_some (ending m) (turn_on m t p) (held, a, still) e in
      record {
        after = board_on r.0;
        turn = subst (Turn m (board_on t) p (board_on r.0)) (ap (λ z. z.1) h) (turn_computed t r.0 p r.1 f g);
        holding = told_holding r held a still h;
        standstill = told_still r held a still h;
      }

  pub turns_give : (ps : List ℕ) (held : List (Option ℕ)) (a : Tally) (still : Bool) → option_map (ending m) (turns_on m (new_sheet m) ps) ≡ Some (held, a, still) → TurnsGive m (new_state m) ps held a still
  turns_give ps held a still e =
      let (r, g, h) = mapped_some (ending m) (turns_on m (new_sheet m) ps) (held, a, still) e in
      record {
        after = board_on r.0;
        turns = subst (Turns m (new_state m) ps (board_on r.0)) (ap (λ z. z.1) h) (turns_from_new r.0 ps r.1 g);
        holding = told_holding r held a still h;
        standstill = told_still r held a still h;
      }
