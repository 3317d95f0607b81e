-- When a holding of a market is stable, and what the finder answers. A holding says of each party whom
-- it holds, or nobody, by party numbers.
use Rattle.std.specs.Prelude.{◌≡◌, ℕ, ◌+◌, ◌<◌, Bool, true, false, not, ◌&&◌, is_some, Some, None, Option, ◌==◌}
use Rattle.ranking.specs.Market.{Market, prefers}
use Rattle.ranking.specs.declared.finder.Finding.{Finding}

-- the rank of somebody by these ranks, and none for nobody
abbrev pub rank_of : (ℕ → Option ℕ) → Option ℕ → Option ℕ
rank_of rank None = None
rank_of rank (Some q) = rank q

-- the rank that p gives whom it holds; none where it holds nobody, or somebody whom it does not rank
abbrev pub held_rank : Market → (ℕ → Option ℕ) → ℕ → Option ℕ
held_rank m h p = rank_of (m.rank p) (h p)

-- whether p wants q: p ranks q, and better than whom it holds, if anybody
abbrev pub wants : Market → (ℕ → Option ℕ) → ℕ → ℕ → Bool
wants m h p q = prefers (m.rank p q) (held_rank m h p)

-- whether somebody is the party q; nobody is not
abbrev pub is_party : Option ℕ → ℕ → Bool
is_party None q = false
is_party (Some r) q = r == q

-- whether p holds q
abbrev pub holds : (ℕ → Option ℕ) → ℕ → ℕ → Bool
holds h p q = is_party (h p) q

-- whether p and q block the holding: they do not hold each other, and each wants the other
abbrev pub blocks : Market → (ℕ → Option ℕ) → ℕ → ℕ → Bool
blocks m h p q = not (holds h p q && holds h q p) && wants m h p q && wants m h q p

-- whether p and somebody rank each other; true of nobody
abbrev pub ranks_both : Market → ℕ → Option ℕ → Bool
ranks_both m p None = true
ranks_both m p (Some q) = is_some (m.rank p q) && is_some (m.rank q p)

-- whether p holds nobody, or it and whom it holds rank each other
abbrev pub held_ranked : Market → (ℕ → Option ℕ) → ℕ → Bool
held_ranked m h p = ranks_both m p (h p)

-- a holding is stable: all who are held are ranked, by both sides, and no two parties block it
pub record Stable (m : Market) (h : ℕ → Option ℕ) : Type 0 where
  pub ranked : (p : ℕ) → held_ranked m h p ≡ true
  pub unblocked : (p q : ℕ) → blocks m h p q ≡ false

-- each stream below n holds nobody, or somebody where both rank each other
abbrev pub RankedBelow : Market → (ℕ → Option ℕ) → ℕ → Type 0
RankedBelow m h n = (k : ℕ) → k < n → held_ranked m h k ≡ true

-- no stream below n blocks with any lane
abbrev pub UnblockedBelow : Market → (ℕ → Option ℕ) → ℕ → Type 0
UnblockedBelow m h n = (k l : ℕ) → k < n → l < m.lanes → blocks m h k (m.streams + l) ≡ false

-- stream i blocks with no lane below n
abbrev pub UnblockedBefore : Market → (ℕ → Option ℕ) → ℕ → ℕ → Type 0
UnblockedBefore m h i n = (l : ℕ) → l < n → blocks m h i (m.streams + l) ≡ false

-- stream i is the lowest that holds somebody where one of the two does not rank the other
pub record FirstUnranked (m : Market) (h : ℕ → Option ℕ) (i : ℕ) : Type 0 where
  pub stream : i < m.streams
  pub unranked : held_ranked m h i ≡ false
  pub above : RankedBelow m h i

-- stream i and lane j are the first pair that blocks, by the stream and then by the lane
pub record FirstBlocking (m : Market) (h : ℕ → Option ℕ) (i j : ℕ) : Type 0 where
  pub stream : i < m.streams
  pub lane : j < m.lanes
  pub blocking : blocks m h i (m.streams + j) ≡ true
  pub above : UnblockedBelow m h i
  pub before : UnblockedBefore m h i j

-- what each answer of the finder says: a stable holding; the first stream whose holding is not ranked
-- by both sides; or where all are, the first pair that blocks
abbrev pub Found : Market → (ℕ → Option ℕ) → Finding → Type 0
Found m h Finding.Stable = Stable m h
Found m h (Finding.Unranked i) = FirstUnranked m h i
Found m h (Finding.Blocked i j) = RankedBelow m h m.streams × FirstBlocking m h i j
