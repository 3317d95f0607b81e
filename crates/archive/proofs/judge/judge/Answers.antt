use Rattle.std.proofs.Common.{◌≡◌, ℕ, ◌<◌, List, map, length, get_or, take, Some, None, sym, refl, ap, ◌∙◌, subst, arith}
use Rattle.std.specs.List.{AllByRecursion}
use Rattle.record.specs.Format.{Content, Lawful, Rising, pair_word}
use Rattle.record.specs.Faults.{middle, pair_of}
use Rattle.record.proofs.Contents.{pair_bytes}
use Rattle.record.proofs.Lawfuls.{record_faultless}
use Rattle.record.proofs.Extracts.{pair_values}
use Rattle.ranking.specs.Market.{Meaning, market_of}
use Rattle.ranking.specs.Listings.{content_meaning}
use Rattle.ranking.specs.Pairings.{pairing_fault, holding_of}
use Rattle.ranking.specs.Stability.{Found}
use Rattle.ranking.proofs.Pairings.{fault_from_lawful}
use Rattle.archive.specs.Pairs.{lane_of, pairing_of}
use Rattle.archive.proofs.Paired.{pair_streams, few_streams_of, pairing_lawful, pairing_cut}
use Rattle.archive.proofs.judge.judge.Goals as goal

pub lanes_of-lanes-requires : goal.lanes_of-lanes-requires
lanes_of-lanes-requires c =
    let told = c.in_ok-parts.ensures.ranks_by_the_content in
    let content = told.0 in
    let law = told.1.0.0.lawful in
    let e = ap (map middle) told.1.0.1.pair_words ∙ pair_streams content.pairs (pair_bytes content law) in
    record {
      streams_rise = subst Rising (sym e) law.streams_rise;
      streams_are_few = subst (AllByRecursion (λ x. x < 16)) (sym e) (few_streams_of content law);
    }

-- a record's own pairing is never refused
not_refused : (c : Content) → Lawful c → (x : Meaning) (bytes : List ℕ) → x ≡ content_meaning c → bytes ≡ pairing_of c → pairing_fault (market_of x) bytes ≡ None
not_refused c law x bytes ex eb =
    ap (λ y. pairing_fault (market_of y) bytes) ex
    ∙ ap (pairing_fault (market_of (content_meaning c))) eb
    ∙ fault_from_lawful (market_of (content_meaning c)) (pairing_of c) (pairing_lawful c (market_of (content_meaning c)) law refl refl)

-- the table of lanes, cut to the streams
cut : (c : Content) → Lawful c → (ws lanes : List ℕ) (n : ℕ) → n ≡ c.streams → ws ≡ map pair_word c.pairs → length lanes ≡ 16 → ((i : ℕ) → i < 16 → get_or lanes i 255 ≡ lane_of (map pair_of ws) i) → take n lanes ≡ pairing_of c
cut c law ws lanes n e words size known =
    let s = law.few_streams in
    pairing_cut c lanes n e (omega arith) size (λ i h. known i h ∙ ap (λ l. lane_of l i) (ap (map pair_of) words ∙ pair_values c.pairs (pair_bytes c law)))

never : (code : ℕ × ℕ) → Some code ≡ None → ⊥
never code e = grind arith

pub returns-in_err-finding : goal.returns-in_err-finding
returns-in_err-finding c =
    let told = c.in_ok-parts.ensures.ranks_by_the_content in
    let law = told.1.0.0.lawful in
    let bytes = cut told.0 law c.in_ok-parts.parts.pairs.words.now c.lanes_of-lanes.result c.in_ok-parts.parts.sizes.streams told.1.0.1.streams told.1.0.1.pair_words c.lanes_of-lanes.ensures.is_whole c.lanes_of-lanes.ensures.has_every_pair in
    absurd (never _ (c.in_err-finding.ensures.refused_as_told ∙ not_refused told.0 law _ _ told.1.1 bytes))

pub returns : goal.returns
returns c =
    let told = c.in_ok-parts.ensures.ranks_by_the_content in
    let content = told.0 in
    let law = told.1.0.0.lawful in
    let lanes = c.lanes_of-lanes.result in
    let n = c.in_ok-parts.parts.sizes.streams in
    let bytes = cut content law c.in_ok-parts.parts.pairs.words.now lanes n told.1.0.1.streams told.1.0.1.pair_words c.lanes_of-lanes.ensures.is_whole c.lanes_of-lanes.ensures.has_every_pair in
    let found = subst (λ x. Found (market_of x) (holding_of (market_of x) (take n lanes)) c.in_ok-finding.finding) told.1.1 c.in_ok-finding.ensures.found_as_told in
    record {
      refused_as_told = sym (record_faultless c.args.words.now content told.1.0.0);
      judged_by_the_content = (
        content,
        (
          told.1.0.0,
          record {
            streams = told.1.0.1.streams;
            pairing = bytes;
            finding = subst (λ l. Found (market_of (content_meaning content)) (holding_of (market_of (content_meaning content)) l) c.in_ok-finding.finding) bytes found;
          },
        ),
      );
    }
