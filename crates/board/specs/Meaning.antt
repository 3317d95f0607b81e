-- What the board's rows and its table of ranks mean.
use Rattle.std.specs.Prelude.{ℕ, List, get_or, None}
use Rattle.sets.specs.Sets.{has}
use Rattle.ranking.specs.Market.{Market}
use Rattle.board.specs.State.{State}
use Rattle.board.specs.RankTables.{table_market}
use Rattle.board.specs.declared.rows.Row.{Row}
use Rattle.board.specs.declared.rows.Rows.{Rows}
use Rattle.board.specs.declared.rank_table.RankTable.{RankTable}

-- the row of a number that is no party's: nobody is held, and both sets are empty
abbrev pub no_row : Row
no_row = record { holding = None; open_set = record { 0 = 0 }; bidders = record { 0 = 0 } }

-- the row of a party
abbrev pub row_of : Rows → ℕ → Row
row_of rows a = get_or rows.rows a no_row

-- what a list of rows means
abbrev pub state_in : List Row → State
state_in rows = record { holding = λ a. (get_or rows a no_row).holding; opens = λ a b. has (get_or rows a no_row).open_set.0 b; bidder = λ a b. has (get_or rows a no_row).bidders.0 b }

-- what the rows mean
abbrev pub state_of : Rows → State
state_of rows = state_in rows.rows

-- the market that a table of ranks means
abbrev pub market_in : RankTable → Market
market_in ranks = table_market ranks.sizes.streams ranks.sizes.lanes ranks.table
