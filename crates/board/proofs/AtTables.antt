-- What a board's tables give, by what their type keeps.
use Rattle.std.proofs.Common.{◌≡◌, ℕ, ◌<◌, Bool, IfSome, Some, Option, sym, ap, ◌∙◌, subst}
use Rattle.ranking.specs.Market.{LawfulMarket}
use Rattle.board.specs.State.{Best}
use Rattle.board.specs.Offer.{offered, takes}
use Rattle.board.specs.Kept.{Kept}
use Rattle.board.specs.Meaning.{row_of, state_of}
use Rattle.board.specs.Calls.{market_at, state_at}
use Rattle.board.specs.declared.rows.Row.{Row}
use Rattle.board.specs.declared.rows.Rows.{Rows}
use Rattle.board.specs.declared.tables.Tables.{Tables}
use Rattle.board.proofs.RankTables.{lawful_table}
use Rattle.board.proofs.Keeping.{offering, keeps}
use Rattle.board.proofs.Partners.{partner_row, partner_has_row}

module _ (t : Tables) where
  law : LawfulMarket (market_at t)
  law = lawful_table t.ranks

  -- whom a party's row holds has a row
  pub held_row : (p x : ℕ) (r : Row) → r ≡ row_of t.rows p → r.holding ≡ Some x → x < 32
  held_row p x r e h = partner_row (market_at t) law (state_at t) t.kept p x (ap (λ (r : Row). r.holding) (sym e) ∙ h)

  pub held_has_row : (p : ℕ) → IfSome ((state_at t).holding p) (λ x. x < 32)
  held_has_row = partner_has_row (market_at t) law (state_at t) t.kept

  -- what an offer leads to is kept
  pub offer_kept : (waiting : Option ℕ) (p q : ℕ) (taken : Bool) (rows : Rows) → Best (market_at t) (state_at t) p q → takes (market_at t) waiting (state_at t) p q ≡ taken → state_of rows ≡ offered (state_at t) p q taken → Kept (market_at t) (state_of rows)
  offer_kept waiting p q taken rows best rule is = subst (Kept (market_at t)) (sym is)
      (keeps (market_at t) law waiting (state_at t) t.kept p q taken (offering (market_at t) law (state_at t) t.kept p q best.sought) rule)
