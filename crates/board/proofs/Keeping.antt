-- Every offer keeps what every board keeps.
use Rattle.std.proofs.Common.{◌≡◌, ℕ, ◌<◌, Bool, true, false, not, ◌&&◌, ◌||◌, is_some as option_is_some, Some, None, Option, sym, refl, ap, ◌∙◌, arith}
use Rattle.std.proofs.lemmas.Bool.{false_from_ne_true, and_parts, and_from, both_ways, eqb-true}
use Rattle.std.proofs.lemmas.Bool.Decides.{nat_tests}
use Rattle.ranking.specs.Market.{Market, LawfulMarket}
use Rattle.board.proofs.Sides.{sides_law}
use Rattle.board.specs.Sides.{across, party_count}
use Rattle.ranking.specs.Stability.{is_party, holds, held_rank, wants}
use Rattle.ranking.proofs.Blocking.{prefers_some, held_unwanted}
use Rattle.board.specs.State.{State, seeks}
use Rattle.board.specs.Offer.{with_member, offered, takes}
use Rattle.board.specs.Kept.{offer_between, held_right, open_right, sides_right, Kept}
use Rattle.board.proofs.Offers.{held_after, open_after, held_taken, open_taken, bidder_taken}

-- The tables as plain relations: who holds whom (h), who is in whose open set (o), who is among whose bidders (b), before
-- an offer of p to q.
module _ (h o b : ℕ → ℕ → Bool) (p q : ℕ) (apart : p ≡ q → ⊥) (pq : h p q ≡ false) (qp : h q p ≡ false) where
  mutual_taken : (x y : ℕ) → (h x y ≡ true → h y x ≡ true) → (h q y ≡ true → h y q ≡ true) → (h p y ≡ true → h y p ≡ true)
      → (h y q ≡ true → h y x ≡ true → q ≡ x) → (h y p ≡ true → h y x ≡ true → p ≡ x)
      → held_after h p q x y ≡ true → held_after h p q y x ≡ true
  mutual_taken x y f fq fp u v e = grind (arith, nat_tests)

  ranked_taken : (r : ℕ → ℕ → Bool) (x y : ℕ) → (h x y ≡ true → r x y ≡ true) → r p q ≡ true → r q p ≡ true → held_after h p q x y ≡ true → r x y ≡ true
  ranked_taken r x y f g k e = grind (arith, nat_tests)

  opened_taken : (x y : ℕ) → (h x y ≡ true → o x y ≡ true) → o p q ≡ true → held_after h p q x y ≡ true → open_after h o p q x y ≡ true
  opened_taken x y f g e = grind (arith, nat_tests)

  between_taken : (x y : ℕ) → (h x y ≡ true → (b x y || b y x) ≡ true) → held_after h p q x y ≡ true → (with_member b q p true x y || with_member b q p true y x) ≡ true
  between_taken x y f e = grind (arith, nat_tests)

  pair_taken : (x y : ℕ) → h p p ≡ false → h q q ≡ false → (h p x ≡ true → o p x ≡ true) → (h p y ≡ true → o p y ≡ true) → (h q x ≡ true → o q x ≡ true) → (h q y ≡ true → o q y ≡ true)
      → (o x y || o y x) ≡ true → (open_after h o p q x y || open_after h o p q y x) ≡ true
  pair_taken x y pp qq fx fy gx gy e = grind (arith, nat_tests)

  missing_taken : (x y : ℕ) → (h p x ≡ true → (b p x || b x p) ≡ true) → (h q x ≡ true → (b q x || b x q) ≡ true)
      → (o x y || (b x y || b y x)) ≡ true → (open_after h o p q x y || (with_member b q p true x y || with_member b q p true y x)) ≡ true
  missing_taken x y f g e = grind (arith, nat_tests)

  abbrev open_left : ℕ → ℕ → Bool
  open_left = with_member (with_member o q p true) p q false

  opened_left : (x y : ℕ) → (h x y ≡ true → o x y ≡ true) → h x y ≡ true → open_left x y ≡ true
  opened_left x y f e = grind (arith, nat_tests)

  between_left : (x y : ℕ) → (b x y || b y x) ≡ true → (with_member b q p true x y || with_member b q p true y x) ≡ true
  between_left x y e = grind (arith, nat_tests)

  pair_left : (x y : ℕ) → (o x y || o y x) ≡ true → (open_left x y || open_left y x) ≡ true
  pair_left x y e = grind (arith, nat_tests)

  sides_taken : (c : ℕ → ℕ → Bool) (x y : ℕ) → c q p ≡ true → ((o x y || b x y) ≡ true → c x y ≡ true) → (open_after h o p q x y || with_member b q p true x y) ≡ true → c x y ≡ true
  sides_taken c x y qp f e = grind (arith, nat_tests)

  sides_left : (c : ℕ → ℕ → Bool) (x y : ℕ) → c q p ≡ true → ((o x y || b x y) ≡ true → c x y ≡ true) → (open_left x y || with_member b q p true x y) ≡ true → c x y ≡ true
  sides_left c x y qp f e = grind (arith, nat_tests)

  missing_left : (x y : ℕ) → (o x y || (b x y || b y x)) ≡ true → (open_left x y || (with_member b q p true x y || with_member b q p true y x)) ≡ true
  missing_left x y e = grind (arith, nat_tests)

-- what is kept where a holds b
pub record HeldFacts (m : Market) (σ : State) (a b : ℕ) : Type 0 where
  pub back : holds σ.holding b a ≡ true
  pub ranked : option_is_some (m.rank a b) ≡ true
  pub opened : σ.opens a b ≡ true
  pub between : offer_between σ a b ≡ true

-- what is kept of two parties of two sides
pub record OpenFacts (σ : State) (a b : ℕ) : Type 0 where
  pub pair : (σ.opens a b || σ.opens b a) ≡ true
  pub missing : (σ.opens a b || offer_between σ a b) ≡ true

implied : (x y : Bool) → (not x || y) ≡ true → x ≡ true → y ≡ true
implied true y e f = e
implied false y e f = absurd (both_ways false refl f)

implies : (x y : Bool) → (x ≡ true → y ≡ true) → (not x || y) ≡ true
implies true y f = f refl
implies false y f = refl

pub held_facts : (m : Market) (σ : State) → Kept m σ → (a b : ℕ) → holds σ.holding a b ≡ true → HeldFacts m σ a b
held_facts m σ kept a b e =
    let all = implied (holds σ.holding a b) (holds σ.holding b a && (option_is_some (m.rank a b) && (σ.opens a b && offer_between σ a b))) (and_parts (held_right m σ a b) (open_right m σ a b && sides_right m σ a b) (kept a b)).0 e in
    let (back, rest) = and_parts (holds σ.holding b a) (option_is_some (m.rank a b) && (σ.opens a b && offer_between σ a b)) all in
    let (ranked, more) = and_parts (option_is_some (m.rank a b)) (σ.opens a b && offer_between σ a b) rest in
    let (opened, between) = and_parts (σ.opens a b) (offer_between σ a b) more in
    record { back = back; ranked = ranked; opened = opened; between = between }

pub open_facts : (m : Market) (σ : State) → Kept m σ → (a b : ℕ) → across m a b ≡ true → OpenFacts σ a b
open_facts m σ kept a b e =
    let all = implied (across m a b) ((σ.opens a b || σ.opens b a) && (σ.opens a b || offer_between σ a b)) (and_parts (open_right m σ a b) (sides_right m σ a b) (and_parts (held_right m σ a b) (open_right m σ a b && sides_right m σ a b) (kept a b)).1).0 e in
    let (pair, missing) = and_parts (σ.opens a b || σ.opens b a) (σ.opens a b || offer_between σ a b) all in
    record { pair = pair; missing = missing }

pub side_facts : (m : Market) (σ : State) → Kept m σ → (a b : ℕ) → (σ.opens a b || σ.bidder a b) ≡ true → across m a b ≡ true
side_facts m σ kept a b = implied (σ.opens a b || σ.bidder a b) (across m a b) (and_parts (open_right m σ a b) (sides_right m σ a b) (and_parts (held_right m σ a b) (open_right m σ a b && sides_right m σ a b) (kept a b)).1).1

-- and the other way round: these facts are all that is kept
pub kept_from : (m : Market) (σ : State) → ((a b : ℕ) → holds σ.holding a b ≡ true → HeldFacts m σ a b) → ((a b : ℕ) → across m a b ≡ true → OpenFacts σ a b) → ((a b : ℕ) → (σ.opens a b || σ.bidder a b) ≡ true → across m a b ≡ true) → Kept m σ
kept_from m σ f g k a b = and_from (held_right m σ a b) (open_right m σ a b && sides_right m σ a b)
    (implies (holds σ.holding a b) _ (λ e. let h = f a b e in and_from _ _ h.back (and_from _ _ h.ranked (and_from _ _ h.opened h.between))))
    (and_from (open_right m σ a b) (sides_right m σ a b)
    (implies (across m a b) _ (λ e. let h = g a b e in and_from _ _ h.pair h.missing))
    (implies (σ.opens a b || σ.bidder a b) (across m a b) (k a b)))

-- who holds two parties holds one
pub held_once : (h : ℕ → Option ℕ) (a b c : ℕ) → holds h a b ≡ true → holds h a c ≡ true → b ≡ c
held_once h a b c e f = go (h a) e f
  where
    go : (o : Option ℕ) → is_party o b ≡ true → is_party o c ≡ true → b ≡ c
    go None e f = absurd (both_ways false refl e)
    go (Some x) e f = sym (eqb-true x b e) ∙ eqb-true x c f

pub across_self : (m : Market) (p : ℕ) → across m p p ≡ false
across_self m p = grind (arith, nat_tests)

pub across_swap : (m : Market) (p q : ℕ) → across m p q ≡ across m q p
across_swap m p q = grind (arith, nat_tests)

pub across_below : (m : Market) (p q : ℕ) → across m p q ≡ true → (p < party_count m) × (q < party_count m)
across_below m p q e = grind (arith, nat_tests)

pub some_is : (o : Option ℕ) → option_is_some o ≡ true → (k : ℕ) × (o ≡ Some k)
some_is None e = absurd (both_ways false refl e)
some_is (Some k) e = (k, refl)

is_some : (o : Option ℕ) (k : ℕ) → o ≡ Some k → option_is_some o ≡ true
is_some o k e = ap option_is_some e

-- who is ranked stands on the other side
pub ranked_across : (m : Market) → LawfulMarket m → (p q : ℕ) → option_is_some (m.rank p q) ≡ true → across m p q ≡ true
ranked_across m law p q e = let (k, s) = some_is (m.rank p q) e in sides_law m law p q k s

pub wanted_ranked : (m : Market) (h : ℕ → Option ℕ) (p q : ℕ) → wants m h p q ≡ true → option_is_some (m.rank p q) ≡ true
wanted_ranked m h p q e = let (k, s) = prefers_some (m.rank p q) (held_rank m h p) e in is_some (m.rank p q) k s

-- what an offer of p to q starts from
pub record Offering (m : Market) (σ : State) (p q : ℕ) : Type 0 where
  pub opened : σ.opens p q ≡ true
  pub wanted : wants m σ.holding p q ≡ true
  pub ranked : option_is_some (m.rank p q) ≡ true
  pub sides : across m p q ≡ true
  pub apart : p ≡ q → ⊥
  pub unheld : holds σ.holding p q ≡ false
  pub unheld_back : holds σ.holding q p ≡ false

module _ (m : Market) (law : LawfulMarket m) (σ : State) (kept : Kept m σ) where
  pub offering : (p q : ℕ) → seeks m σ p q ≡ true → Offering m σ p q
  offering p q e =
      let (opened, wanted) = and_parts (σ.opens p q) (wants m σ.holding p q) e in
      let ranked = wanted_ranked m σ.holding p q wanted in
      let sides = ranked_across m law p q ranked in
      let unheld : holds σ.holding p q ≡ false = false_from_ne_true (holds σ.holding p q) (λ h. both_ways _ (held_unwanted m σ.holding p q h) wanted) in
      record {
        opened = opened;
        wanted = wanted;
        ranked = ranked;
        sides = sides;
        apart = λ s. both_ways _ (ap (across m p) (sym s) ∙ across_self m p) sides;
        unheld = unheld;
        unheld_back = false_from_ne_true (holds σ.holding q p) (λ h. both_ways _ unheld (held_facts m σ kept q p h).back);
      }

  -- nobody holds itself
  pub alone : (p : ℕ) → holds σ.holding p p ≡ false
  alone p = false_from_ne_true (holds σ.holding p p) (λ h. both_ways _ (across_self m p) (ranked_across m law p p (held_facts m σ kept p p h).ranked))

module _ (m : Market) (law : LawfulMarket m) (σ : State) (kept : Kept m σ) (p q : ℕ) (k : Offering m σ p q) where
  abbrev h : ℕ → ℕ → Bool
  h = holds σ.holding

  facts : (x y : ℕ) → h x y ≡ true → HeldFacts m σ x y
  facts = held_facts m σ kept

  taken_between : (x y : ℕ) → (with_member σ.bidder q p true x y || with_member σ.bidder q p true y x) ≡ true → offer_between (offered σ p q true) x y ≡ true
  taken_between x y e = ap (λ b. b || (offered σ p q true).bidder y x) (bidder_taken σ p q x y) ∙ ap (λ b. with_member σ.bidder q p true x y || b) (bidder_taken σ p q y x) ∙ e

  held_when_taken : option_is_some (m.rank q p) ≡ true → (x y : ℕ) → held_after h p q x y ≡ true → HeldFacts m (offered σ p q true) x y
  held_when_taken ranked x y after = record {
    back = held_taken σ p q y x ∙ mutual_taken h σ.opens σ.bidder p q k.apart k.unheld k.unheld_back x y
        (λ e. (facts x y e).back) (λ e. (facts q y e).back) (λ e. (facts p y e).back) (held_once σ.holding y q x) (held_once σ.holding y p x) after;
    ranked = ranked_taken h σ.opens σ.bidder p q k.apart k.unheld k.unheld_back (λ a b. option_is_some (m.rank a b)) x y (λ e. (facts x y e).ranked) k.ranked ranked after;
    opened = open_taken σ p q x y ∙ opened_taken h σ.opens σ.bidder p q k.apart k.unheld k.unheld_back x y (λ e. (facts x y e).opened) k.opened after;
    between = taken_between x y (between_taken h σ.opens σ.bidder p q k.apart k.unheld k.unheld_back x y (λ e. (facts x y e).between) after);
  }

  open_when_taken : (x y : ℕ) → OpenFacts σ x y → OpenFacts (offered σ p q true) x y
  open_when_taken x y f = record {
    pair = ap (λ b. b || (offered σ p q true).opens y x) (open_taken σ p q x y) ∙ ap (λ b. open_after h σ.opens p q x y || b) (open_taken σ p q y x)
        ∙ pair_taken h σ.opens σ.bidder p q k.apart k.unheld k.unheld_back x y (alone m law σ kept p) (alone m law σ kept q)
        (λ e. (facts p x e).opened) (λ e. (facts p y e).opened) (λ e. (facts q x e).opened) (λ e. (facts q y e).opened) f.pair;
    missing = ap (λ b. b || offer_between (offered σ p q true) x y) (open_taken σ p q x y)
        ∙ ap (λ b. open_after h σ.opens p q x y || (b || (offered σ p q true).bidder y x)) (bidder_taken σ p q x y)
        ∙ ap (λ b. open_after h σ.opens p q x y || (with_member σ.bidder q p true x y || b)) (bidder_taken σ p q y x)
        ∙ missing_taken h σ.opens σ.bidder p q k.apart k.unheld k.unheld_back x y (λ e. (facts p x e).between) (λ e. (facts q x e).between) f.missing;
  }

  keeps_taken : option_is_some (m.rank q p) ≡ true → Kept m (offered σ p q true)
  keeps_taken ranked = kept_from m (offered σ p q true)
      (λ x y e. held_when_taken ranked x y (sym (held_taken σ p q x y) ∙ e))
      (λ x y e. open_when_taken x y (open_facts m σ kept x y e))
      (λ x y e. sides_taken h σ.opens σ.bidder p q k.apart k.unheld k.unheld_back (across m) x y (across_swap m q p ∙ k.sides) (side_facts m σ kept x y)
      (ap (λ b. b || with_member σ.bidder q p true x y) (sym (open_taken σ p q x y)) ∙ ap (λ b. (offered σ p q true).opens x y || b) (sym (bidder_taken σ p q x y)) ∙ e))

  keeps_left : Kept m (offered σ p q false)
  keeps_left = kept_from m (offered σ p q false)
      (λ x y e. let f = facts x y e in record {
        back = f.back;
        ranked = f.ranked;
        opened = opened_left h σ.opens σ.bidder p q k.apart k.unheld k.unheld_back x y (λ _. f.opened) e;
        between = between_left h σ.opens σ.bidder p q k.apart k.unheld k.unheld_back x y f.between;
      })
      (λ x y e. let f = open_facts m σ kept x y e in record {
        pair = pair_left h σ.opens σ.bidder p q k.apart k.unheld k.unheld_back x y f.pair;
        missing = missing_left h σ.opens σ.bidder p q k.apart k.unheld k.unheld_back x y f.missing;
      })
      (λ x y e. sides_left h σ.opens σ.bidder p q k.apart k.unheld k.unheld_back (across m) x y (across_swap m q p ∙ k.sides) (side_facts m σ kept x y) e)

-- every offer keeps it, whether it is taken or not
pub keeps : (m : Market) → LawfulMarket m → (waiting : Option ℕ) (σ : State) → Kept m σ → (p q : ℕ) (taken : Bool) → Offering m σ p q → takes m waiting σ p q ≡ taken → Kept m (offered σ p q taken)
keeps m law waiting σ kept p q true k t =
    keeps_taken m law σ kept p q k (wanted_ranked m σ.holding q p (and_parts (not (is_party waiting q)) (wants m σ.holding q p) t).1)
keeps m law waiting σ kept p q false k t = keeps_left m law σ kept p q k
