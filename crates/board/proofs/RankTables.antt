-- Tables of ranks, and the laws of their markets.
use Rattle.std.proofs.Common.{◌≡◌, ℕ, ◌≤◌, true, false, ◌⊎◌, List, [], map, get_or, is_some, Some, None, Option, sym, refl, ap, ◌∙◌, inl, inr, ⊎_elim, arith}
use mathlib.Core.Path.{fun_ext}
use Rattle.std.specs.List.{range_with_len}
use Rattle.std.proofs.lemmas.List.{get_or_past}
use Rattle.std.proofs.lemmas.List.FromFn.{length-map-range_with_len, get_or-map-range_with_len}
use Rattle.std.proofs.lemmas.Bool.{cases_lt, both_ways}
use Rattle.std.proofs.lemmas.Bool.Decides.{nat_tests}
use Rattle.ranking.specs.Market.{Market, LawfulMarket}
use Rattle.board.proofs.Sides.{sides_law, across_parts}
use Rattle.board.specs.Sides.{across}
use Rattle.board.specs.RankTables.{rank_in, ranks_by, table_of, table_market, RanksAcross, RanksBounded, RanksStrict}
use Rattle.board.specs.Meaning.{market_in}
use Rattle.board.specs.declared.rank_table.RankTable.{RankTable}

module _ (m : Market) (law : LawfulMarket m) where
  -- who stand not on two sides have no rank, and so has no number past 31
  no_rank_past : (p q : ℕ) → (32 ≤ p) ⊎ (32 ≤ q) → m.rank p q ≡ None
  no_rank_past p q h = go (m.rank p q) refl
    where
      past : (m : Market) (p q : ℕ) → m.streams ≤ 16 → m.lanes ≤ 16 → (32 ≤ p) ⊎ (32 ≤ q) → across m p q ≡ false
      past m p q s g h = grind (arith, nat_tests)

      go : (o : Option ℕ) → m.rank p q ≡ o → o ≡ None
      go None s = refl
      go (Some k) s = absurd (both_ways (across m p q) (past m p q law.sized.1 law.sized.3 h) (sides_law m law p q k s))

  -- the table of a market's ranks has them all
  pub table_ranks : (p q : ℕ) → rank_in (table_of m) p q ≡ m.rank p q
  unfolding rank_in ranks_by table_of
  table_ranks p q = ⊎_elim
      (λ l. ap (λ row. get_or row q None) (get_or-map-range_with_len (ranks_by m) 0 32 p p [] l (omega arith)) ∙ at p q)
      (λ l. ap (λ row. get_or row q None) (get_or_past (table_of m) p [] (omega (arith, length-map-range_with_len (ranks_by m) 0 32))) ∙ sym (no_rank_past p q (inl l)))
      (cases_lt p 32)
    where
      at : (p q : ℕ) → get_or (map (m.rank p) (range_with_len 0 32)) q None ≡ m.rank p q
      at p q = ⊎_elim
          (λ l. get_or-map-range_with_len (m.rank p) 0 32 q q None l (omega arith))
          (λ l. get_or_past (map (m.rank p) (range_with_len 0 32)) q None (omega (arith, length-map-range_with_len (m.rank p) 0 32)) ∙ sym (no_rank_past p q (inr l)))
          (cases_lt q 32)

  -- the laws of a market, one by one
  pub across_law : RanksAcross m
  across_law p q e = go (m.rank p q) refl e
    where
      go : (o : Option ℕ) → m.rank p q ≡ o → is_some o ≡ true → across m p q ≡ true
      go None s e = absurd (both_ways false refl e)
      go (Some k) s e = sides_law m law p q k s

  pub bounded_law : RanksBounded m
  bounded_law t e = law.bounded t.0 t.1 t.2 e

  pub strict_law : RanksStrict m
  strict_law t e = law.strict t.0 t.1 t.2 t.3 e.0 e.1

-- the market of a table of ranks is lawful
pub lawful_table : (ranks : RankTable) → LawfulMarket (market_in ranks)
lawful_table ranks = record {
  sized = ranks.sizes.lawful;
  across = λ p q k e. across_parts (market_in ranks) p q (ranks.sides p q (ap is_some e));
  bounded = λ p q k e. ranks.bounded (p, q, k) e;
  strict = λ p q r k e f. ranks.strict (p, q, r, k) (e, f);
}

-- the market of the table of a market's ranks is that market
pub same_market : (m : Market) → LawfulMarket m → (s g : ℕ) (table : List (List (Option ℕ))) → s ≡ m.streams → g ≡ m.lanes → table ≡ table_of m → table_market s g table ≡ m
same_market m law s g table e f h = λ i. record { streams = e i; lanes = f i; rank = (ap rank_in h ∙ fun_ext (λ p. fun_ext (table_ranks m law p))) i }
