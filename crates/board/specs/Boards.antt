-- The worked boards of the documents.
use Rattle.std.specs.Prelude.{ℕ, true, false, List, [], ◌∷◌, Some, slice_index_or}
use Rattle.record.specs.Format.{Content}
use Rattle.ranking.specs.Market.{Market, market_of}
use Rattle.ranking.specs.Listings.{content_meaning}
use Rattle.board.specs.Computed.{Sheet, new_sheet}

-- the content of a record with these rankings, a list for each party, and neither turns nor pairs
abbrev pub listing : (streams lanes : ℕ) → List (List ℕ) → Content
listing s g rankings = record { streams = s; lanes = g; ranked = λ p. slice_index_or rankings p []; turns = []; pairs = [] }

-- the market of these rankings: ranks are places
abbrev pub listed_market : (streams lanes : ℕ) → List (List ℕ) → Market
listed_market s g rankings = market_of (content_meaning (listing s g rankings))

-- the square board: S0 ranks L0, L1; S1 ranks L1, L0; L0 ranks S1, S0; L1 ranks S0, S1
abbrev pub square_rankings : List (List ℕ)
square_rankings = (0 ∷ 1 ∷ []) ∷ (1 ∷ 0 ∷ []) ∷ (1 ∷ 0 ∷ []) ∷ (0 ∷ 1 ∷ []) ∷ []

abbrev pub square : Market
square = listed_market 2 2 square_rankings

-- one stream, which ranks the one lane, and is not ranked by it
abbrev pub one_sided_rankings : List (List ℕ)
one_sided_rankings = (0 ∷ []) ∷ [] ∷ []

abbrev pub one_sided : Market
one_sided = listed_market 1 1 one_sided_rankings

-- the median board: S0 ranks L0, L1, L2; S1 ranks L1, L2, L0; S2 ranks L2, L0, L1; L0 ranks S1, S2, S0; L1 ranks S2, S0,
-- S1; L2 ranks S0, S1, S2. Of its three stable pairings, one gives everybody its second choice
abbrev pub median_rankings : List (List ℕ)
median_rankings = (0 ∷ 1 ∷ 2 ∷ []) ∷ (1 ∷ 2 ∷ 0 ∷ []) ∷ (2 ∷ 0 ∷ 1 ∷ []) ∷ (1 ∷ 2 ∷ 0 ∷ []) ∷ (2 ∷ 0 ∷ 1 ∷ []) ∷ (0 ∷ 1 ∷ 2 ∷ []) ∷ []

abbrev pub median : Market
median = listed_market 3 3 median_rankings

-- the withdrawal board: S0 ranks L2, L0; S1 ranks L1, L0; S2 ranks L2, L1; L0 ranks S1, S0; L1 ranks S2, S1; L2 ranks S2, S0
abbrev pub withdrawal_rankings : List (List ℕ)
withdrawal_rankings = (2 ∷ 0 ∷ []) ∷ (1 ∷ 0 ∷ []) ∷ (2 ∷ 1 ∷ []) ∷ (1 ∷ 0 ∷ []) ∷ (2 ∷ 1 ∷ []) ∷ (2 ∷ 0 ∷ []) ∷ []

abbrev pub withdrawal : Market
withdrawal = listed_market 3 3 withdrawal_rankings

-- S0 and S1 both rank L1 before L0, and L0 and L1 both rank S0 before S1
abbrev pub agreed_rankings : List (List ℕ)
agreed_rankings = (1 ∷ 0 ∷ []) ∷ (1 ∷ 0 ∷ []) ∷ (0 ∷ 1 ∷ []) ∷ (0 ∷ 1 ∷ []) ∷ []

abbrev pub agreed : Market
agreed = listed_market 2 2 agreed_rankings

-- S0 holds L0 and is among its bidders; S1 holds L1, which is among S1's bidders; all open sets are full
abbrev pub two_chains : Sheet
two_chains = record {
  holding = Some 2 ∷ Some 3 ∷ Some 0 ∷ Some 1 ∷ [];
  opens = (new_sheet agreed).opens;
  bidder = [] ∷ (false ∷ false ∷ false ∷ true ∷ []) ∷ (true ∷ []) ∷ [] ∷ [];
}
