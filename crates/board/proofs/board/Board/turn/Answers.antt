use Rattle.board.proofs.Outcomes.{one_outcome}
use Rattle.board.proofs.Computing.{turn_computed}
use Rattle.board.proofs.board.Board.turn.Goals as goal

pub returns-in_err-check_party-clause-has_one_outcome : goal.returns-in_err-check_party-clause-has_one_outcome
returns-in_err-check_party-clause-has_one_outcome g c = one_outcome

pub returns-in_err-check_party-clause-has_a_computed_form : goal.returns-in_err-check_party-clause-has_a_computed_form
returns-in_err-check_party-clause-has_a_computed_form g c = turn_computed

pub returns-clause-has_one_outcome : goal.returns-clause-has_one_outcome
returns-clause-has_one_outcome g c = one_outcome

pub returns-clause-has_a_computed_form : goal.returns-clause-has_a_computed_form
returns-clause-has_a_computed_form g c = turn_computed
