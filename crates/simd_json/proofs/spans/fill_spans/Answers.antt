use Rattle.std.proofs.Common.{◌∙◌, ◌≤◌, ap, arith, length, map, subst, sym}
use Rattle.std.specs.Result.{OnOk, result_err}
use Rattle.std.proofs.lemmas.List.{length-map}
use Rattle.std.proofs.lemmas.List.Elements.{All-nil}
use Rattle.std.specs.List.{All}
use Rattle.simd_json_stages.proofs.Whole.{nodes-within}
use Rattle.simd_json_stages.specs.Placed.{LiesIn, Placed}
use Rattle.simd_json.specs.Capacities.{capacity}
use Rattle.simd_json.specs.Parsed.{IsParse, nodes_written}
use Rattle.simd_json.proofs.Parses.ParseEnds.{parse-unread, parse-written, unwritten}
use Rattle.simd_json.proofs.spans.fill_spans.Goals as goal

pub returns-in_err-find_positions-clause-parse : goal.returns-in_err-find_positions-clause-parse
returns-in_err-find_positions-clause-parse g c =
    let r = c.from_residual.result in
    let err = c.from_residual.ensures.1 in
    let held = map (λ (p : Placed). p.item) (g.S.SpanSink.placed c.args.sink.now) in
    let buffers = c.args.buffers.now in
    parse-unread r c.args.s.now buffers.limit (capacity buffers) (capacity buffers) _ _ _ err (unwritten r _ held err)
    c.in_err-find_positions.ensures.empty (omega arith) c.in_err-find_positions.ensures.fault

pub returns-in_err-find_positions-clause-texts : goal.returns-in_err-find_positions-clause-texts
returns-in_err-find_positions-clause-texts g c = subst (All (LiesIn c.args.s.now)) (sym c.requires.empty) (All-nil (LiesIn c.args.s.now))

pub build_spans-requires-clause-room : goal.build_spans-requires-clause-room
build_spans-requires-clause-room g c =
    let scan = c.in_ok-find_positions.ensures.found in
    let listed = c.scanned.ensures.indexes ∙ ap (λ r. r.index.listed) c.buffers.view_is ∙ scan.listed in
    omega (arith, nodes-within c.args.s.now _ c.buffers.inside.max_depth scan.whole (ap length listed), c.requires.room)

pub returns-clause-parse : goal.returns-clause-parse
returns-clause-parse g c =
    let b = c.args.s.now in
    let r = c.build_spans.result in
    let placed = g.S.SpanSink.placed c.build_spans.new.sink in
    let held = map (λ (p : Placed). p.item) placed in
    let scan = c.in_ok-find_positions.ensures.found in
    let listed = ap (λ r. r.index.listed) c.buffers.view_is ∙ scan.listed in
    let few = subst (λ n. OnOk r (length held ≤ n)) (ap length (c.scanned.ensures.indexes ∙ listed))
    (subst (λ n. OnOk r (n ≤ length c.scanned.result.structural_indexes.now))
    (sym (length-map placed (λ (p : Placed). p.item))) c.build_spans.ensures.few) in
    subst (λ limit. IsParse b limit (capacity c.args.buffers.now) (result_err r) (nodes_written r held) c.buffers.inside.index.listed)
    (ap (λ r. r.limit) c.buffers.view_is ∙ c.in_ok-find_positions.ensures.limit)
    (parse-written r b c.buffers.inside.max_depth _ held _ scan.whole c.build_spans.ensures.built few c.build_spans.ensures.rejected listed)
