-- Partners are parties.
use Rattle.std.proofs.Common.{◌≡◌, ℕ, ◌<◌, Bool, true, false, IfSome, Some, None, Option, refl, ap, ◌∙◌, arith}
use Rattle.std.proofs.lemmas.Bool.{eq-eqb}
use Rattle.std.proofs.lemmas.Option.{cond_some, none-some}
use Rattle.ranking.specs.Market.{Market, LawfulMarket}
use Rattle.board.specs.Sides.{party_count}
use Rattle.ranking.specs.Stability.{is_party, holds}
use Rattle.board.specs.State.{State}
use Rattle.board.specs.Offer.{wronged, wronged_by}
use Rattle.board.specs.Kept.{Kept}
use Rattle.board.proofs.Keeping.{held_facts, ranked_across, across_below}

module _ (m : Market) (law : LawfulMarket m) (σ : State) (kept : Kept m σ) where
  -- whom a party holds
  pub held : (p x : ℕ) → σ.holding p ≡ Some x → holds σ.holding p x ≡ true
  held p x e = ap (λ o. is_party o x) e ∙ eq-eqb x x refl

  pub partner_below : (p x : ℕ) → σ.holding p ≡ Some x → x < party_count m
  partner_below p x e = (across_below m p x (ranked_across m law p x (held_facts m σ kept p x (held p x e)).ranked)).1

  -- there are at most 32 parties
  pub partner_row : (p x : ℕ) → σ.holding p ≡ Some x → x < 32
  partner_row p x e = let z = law.sized in omega (arith, partner_below p x e)

  pub partner_has_row : (p : ℕ) → IfSome (σ.holding p) (λ x. x < 32)
  partner_has_row p = go (σ.holding p) refl
    where
      go : (o : Option ℕ) → σ.holding p ≡ o → IfSome o (λ x. x < 32)
      go None e = tt
      go (Some x) e = partner_row p x e

  -- who is wronged was held
  pub wronged_held : (taken : Bool) (y x : ℕ) → wronged σ taken y ≡ Some x → σ.holding y ≡ Some x
  wronged_held true y x e = go (σ.holding y) refl e
    where
      go : (o : Option ℕ) → σ.holding y ≡ o → wronged_by σ y o ≡ Some x → o ≡ Some x
      go None s e = e
      go (Some z) s e = ap Some (cond_some (σ.bidder z y) z x e).1
  wronged_held false y x e = absurd (none-some x e)

  pub wronged_below : (taken : Bool) (y : ℕ) → IfSome (wronged σ taken y) (λ x. x < party_count m)
  wronged_below taken y = go (wronged σ taken y) refl
    where
      go : (o : Option ℕ) → wronged σ taken y ≡ o → IfSome o (λ x. x < party_count m)
      go None e = tt
      go (Some x) e = partner_below y x (wronged_held taken y x e)
