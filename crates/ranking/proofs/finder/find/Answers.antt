use Rattle.std.proofs.Common.{None, Ok, sym}
use Rattle.ranking.specs.Market.{market_of}
use Rattle.ranking.specs.Pairings.{pairing_fault, holding_of}
use Rattle.ranking.specs.Stability.{Stable}
use Rattle.ranking.specs.declared.finder.Finding.{Finding}
use Rattle.ranking.proofs.Pairings.{lawful_from_fault}
use Rattle.ranking.proofs.Markets.{lawful_market}
use Rattle.ranking.proofs.Blocking.{stable_pairing}
use Rattle.ranking.proofs.Findings.{stable_answer}
use Rattle.ranking.proofs.finder.find.Goals as goal

pub returns : goal.returns
returns g c =
    let paired = c.in_ok-paired.paired in
    let given = c.in_ok-paired.ensures.of_this_ranking_and_pairing in
    let x = g.R.Ranking.meaning paired.ranking.now in
    let m = market_of x in
    let bytes = paired.pairing.now in
    let met = g.met.R.Ranking in
    let lawful = lawful_market x (met.sized paired.ranking.now) (met.bounded paired.ranking.now) (met.strict paired.ranking.now) in
    let fine = sym {a = pairing_fault m bytes} {b = None} paired.not_refused in
    let stable : Stable m (holding_of m bytes) =
    stable_pairing m bytes lawful (lawful_from_fault m bytes paired.not_refused)
    c.in_default.ensures.is_the_first_unranked c.in-None.ensures.is_the_first_blocking in
    rw (← given.0, ← given.1) (record {
      refused_as_told = fine;
      found_as_told = stable;
      stable_exactly_when = stable_answer m (holding_of m bytes) (pairing_fault m bytes) (Ok Finding.Stable) fine stable;
    })
