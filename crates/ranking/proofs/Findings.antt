-- What the finder's answer decides.
use Rattle.std.proofs.Common.{◌≡◌, ℕ, ◌+◌, ◌↔◌, IfOk, None, Ok, Err, Option, Result, sym, refl}
use Rattle.std.proofs.lemmas.Bool.{both_ways}
use Rattle.record.specs.Refusals.{refused_by}
use Rattle.record.specs.declared.refusal.Refusal.{Refusal}
use Rattle.ranking.specs.Market.{Market}
use Rattle.ranking.specs.Stability.{held_ranked, blocks, Stable, Found}
use Rattle.ranking.specs.declared.finder.Finding.{Finding}

-- an answer that is refused as it should be, and says what its case means, is `Stable` exactly for a
-- stable holding that is not refused
pub stable_answer : (m : Market) (h : ℕ → Option ℕ) (fault : Option (ℕ × ℕ)) (r : Result Finding Refusal) → refused_by r ≡ fault → IfOk r (λ f. Found m h f) → (r ≡ Ok Finding.Stable ↔ (fault ≡ None) × Stable m h)
stable_answer m h fault (Err f) e found = (λ q. absurd cc, λ t. let n = t.0 in cc)
stable_answer m h fault (Ok Finding.Stable) e found = (λ q. (sym e, found), λ t. refl)
stable_answer m h fault (Ok (Finding.Unranked i)) e found =
    (λ q. absurd cc, λ t. absurd (both_ways (held_ranked m h i) found.unranked (t.1.ranked i)))
stable_answer m h fault (Ok (Finding.Blocked i j)) e found = (
  λ q. absurd cc,
  λ t. absurd (both_ways (blocks m h i (m.streams + j)) (t.1.unblocked i (m.streams + j)) found.1.blocking),
)
