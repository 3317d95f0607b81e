-- The worked boards come out as the documents say: each is settled by computing.
use Rattle.std.proofs.Common.{true, false, [], ◌∷◌, Some, None, refl}
use Rattle.ranking.specs.Market.{LawfulMarket}
use Rattle.board.specs.State.{new_state}
use Rattle.board.specs.Turns.{TurnGives, TurnsGive}
use Rattle.board.specs.Computed.{board_on}
use Rattle.board.specs.Boards.{square, square_rankings, one_sided, one_sided_rankings, median, median_rankings, withdrawal, withdrawal_rankings, agreed, agreed_rankings, two_chains}
use Rattle.board.proofs.Computing.{turn_gives, turns_give}
use Rattle.board.proofs.Listed.{listed_lawful}

pub square_lawful : LawfulMarket square
square_lawful = listed_lawful 2 2 square_rankings refl

pub one_sided_lawful : LawfulMarket one_sided
one_sided_lawful = listed_lawful 1 1 one_sided_rankings refl

pub median_lawful : LawfulMarket median
median_lawful = listed_lawful 3 3 median_rankings refl

pub withdrawal_lawful : LawfulMarket withdrawal
withdrawal_lawful = listed_lawful 3 3 withdrawal_rankings refl

pub agreed_lawful : LawfulMarket agreed
agreed_lawful = listed_lawful 2 2 agreed_rankings refl

-- turns of 0, 1, 2, 3 on the square board: S0 and S1 are taken, L0 and L1 are refused
pub square_turns : TurnsGive square (new_state square) (0 ∷ 1 ∷ 2 ∷ 3 ∷ []) (Some 2 ∷ Some 3 ∷ Some 0 ∷ Some 1 ∷ []) (record { moved = 4; offers = 4; chains = 0 }) true
square_turns = turns_give square square_lawful _ _ _ _ refl

-- the lane does not rank the stream, and so does not take it
pub one_sided_turn : TurnsGive one_sided (new_state one_sided) (0 ∷ []) (None ∷ None ∷ []) (record { moved = 1; offers = 1; chains = 0 }) true
one_sided_turn = turns_give one_sided one_sided_lawful _ _ _ _ refl

-- everybody makes its first choice an offer and is taken, and all but the last pair part again; then the streams make their
-- second choices an offer
pub median_turns : TurnsGive median (new_state median) (0 ∷ 3 ∷ 1 ∷ 4 ∷ 2 ∷ 5 ∷ 0 ∷ 1 ∷ 2 ∷ []) (Some 4 ∷ Some 5 ∷ Some 3 ∷ Some 2 ∷ Some 0 ∷ Some 1 ∷ []) (record { moved = 9; offers = 9; chains = 0 }) true
median_turns = turns_give median median_lawful _ _ _ _ refl

-- the first eight turns have an offer each; in the ninth, of L1, S1 leaves L0, to which it once made an offer: L0 is wronged
-- and makes S0 an offer in its chain
pub withdrawal_eight : TurnsGive withdrawal (new_state withdrawal) (3 ∷ 1 ∷ 0 ∷ 3 ∷ 4 ∷ 1 ∷ 5 ∷ 0 ∷ []) (None ∷ Some 3 ∷ Some 5 ∷ Some 1 ∷ None ∷ Some 2 ∷ []) (record { moved = 8; offers = 8; chains = 0 }) false
withdrawal_eight = turns_give withdrawal withdrawal_lawful _ _ _ _ refl

pub withdrawal_turns : TurnsGive withdrawal (new_state withdrawal) (3 ∷ 1 ∷ 0 ∷ 3 ∷ 4 ∷ 1 ∷ 5 ∷ 0 ∷ 4 ∷ []) (Some 3 ∷ Some 4 ∷ Some 5 ∷ Some 0 ∷ Some 1 ∷ Some 2 ∷ []) (record { moved = 9; offers = 10; chains = 1 }) true
withdrawal_turns = turns_give withdrawal withdrawal_lawful _ _ _ _ refl

-- two chains in one turn
pub two_chains_lem : TurnGives agreed (board_on two_chains) 0 (Some 3 ∷ Some 2 ∷ Some 1 ∷ Some 0 ∷ []) (record { moved = 1; offers = 3; chains = 2 }) true
two_chains_lem = turn_gives agreed agreed_lawful two_chains 0 _ _ _ refl refl
