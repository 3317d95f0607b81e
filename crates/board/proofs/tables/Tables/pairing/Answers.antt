use Rattle.std.proofs.Common.{◌≡◌, ◌≤◌, IfSome, sym, ap, ◌∙◌, subst, arith}
use Rattle.ranking.specs.Pairings.{LawfulPairing, holding_of}
use Rattle.board.specs.Calls.{market_at, state_at}
use Rattle.board.specs.declared.rows.Row.{Row}
use Rattle.board.proofs.RankTables.{lawful_table}
use Rattle.board.proofs.BoardPairings.{stream_holds_lane, pairing_is, pairing_lawful, pairing_holds}
use Rattle.board.proofs.tables.Tables.pairing.Goals as goal

pub lane_byte-requires : goal.lane_byte-requires
lane_byte-requires c =
    let t = c.args.self.now in
    record { is_a_lane = subst (λ o. IfSome o (λ q. t.ranks.sizes.streams ≤ q)) (sym (ap (λ (r : Row). r.holding) c.row.ensures.is_the_row)) (stream_holds_lane (market_at t) (lawful_table t.ranks) (state_at t) t.kept c.loop-stream.stream (omega arith)) }

pub returns : goal.returns
returns c =
    let t = c.args.self.now in
    let m = market_at t in
    let law = lawful_table t.ranks in
    let inv = c.loop-stream.invariant in
    let all : c.loop-stream.stream ≡ t.ranks.sizes.streams = omega arith in
    let is = pairing_is m law (state_at t) t.kept c.loop-stream.lanes (omega arith) (λ i h. inv.1 i (omega arith)) in
    record {
      is_the_pairing = is;
      has_nobody_past_the_streams = λ i h l. inv.2 i (omega arith) l;
      is_a_lawful_pairing = subst (LawfulPairing m) (sym is) (pairing_lawful m law (state_at t) t.kept);
      holds_as_the_board = ap (holding_of m) is ∙ pairing_holds m law (state_at t) t.kept;
    }
