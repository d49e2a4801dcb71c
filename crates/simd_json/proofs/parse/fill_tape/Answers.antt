use Rattle.std.proofs.Common.{◌∙◌, ◌<◌, ap, arith, inr, length, map, min, refl, subst, Err}
use Rattle.simd_json_parts.specs.Nodes.{item_of}
use Rattle.std.specs.Result.{result_err}
use Rattle.simd_json.specs.Parsed.{IsParse, nodes_written}
use Rattle.simd_json.specs.Capacities.{capacity}
use Rattle.simd_json.specs.Reserved.{bytes_listed}
use Rattle.simd_json_stages.specs.NodesEnough.{nodes_enough}
use Rattle.simd_json.proofs.Parses.ParseEnds.{built-some, built-tape, bytes-short, parse-unread, parse-written, written-all}
use Rattle.simd_json_stages.proofs.Whole.{few-positions, right-input}
use Rattle.simd_json.proofs.parse.fill_tape.Goals as goal

pub returns-in_err-find_positions-clause-parse : goal.returns-in_err-find_positions-clause-parse
returns-in_err-find_positions-clause-parse g c =
    let limit = c.args.buffers.now.limit in
    let nodes = bytes_listed limit c.args.tape.now.capacity in
    parse-unread c.from_residual.result c.args.s.now limit (min nodes (capacity c.args.buffers.now)) (capacity c.args.buffers.now) _ _ _
    c.from_residual.ensures.1 (ap (λ t. t.nodes) c.clear.ensures) c.in_err-find_positions.ensures.empty (omega arith)
    c.in_err-find_positions.ensures.fault

pub returns-in-Err-clause-parse : goal.returns-in-Err-clause-parse
returns-in-Err-clause-parse g c =
    let found = c.in_ok-find_positions.ensures.found in
    let limit = c.args.buffers.now.limit in
    let held = c.args.tape.now.capacity in
    let count = length c.scanned.result.structural_indexes.now in
    let same = ap (λ r. r.limit) c.buffers.view_is ∙ c.in_ok-find_positions.ensures.limit in
    let enough = c.nodes_enough.ensures.enough ∙ ap (nodes_enough count) same in
    let asked = subst (λ n. c.clear.new.self.capacity < n) enough c.in-Err.ensures.fault.1 in
    let few = bytes-short count limit held (subst (λ n. n < nodes_enough count limit) (ap (λ t. t.capacity) c.clear.ensures) asked) in
    let listed = ap length (c.scanned.ensures.indexes ∙ ap (λ r. r.index.listed) c.buffers.view_is ∙ found.listed) in
    let right = right-input c.args.s.now found.whole in
    parse-unread {A = Unit {0}} (Err c.in-Err.e) c.args.s.now limit (min (bytes_listed limit held) (capacity c.args.buffers.now))
    (bytes_listed limit held) c.in-Err.e _ _ refl (c.reserve.ensures.nodes ∙ ap (λ t. t.nodes) c.clear.ensures)
    (ap (λ r. r.index.listed) c.clear-in-Err.ensures) (omega arith)
    (inr ((c.in-Err.ensures.fault.0, right.0, right.1), omega (arith, few, listed, few-positions c.args.s.now)))

pub invariant_of-tape : goal.invariant_of-tape
invariant_of-tape g c =
    built-tape c.build.result c.args.s.now _ (map item_of c.build.new.list.items) c.in_ok-find_positions.ensures.found.whole
    c.build.ensures.built c.build.ensures.empty

pub returns-clause-some : goal.returns-clause-some
returns-clause-some g c =
    built-some c.build.result c.args.s.now _ (map item_of c.build.new.list.items) c.in_ok-find_positions.ensures.found.whole
    c.build.ensures.built

pub returns-clause-parse : goal.returns-clause-parse
returns-clause-parse g c =
    let found = c.in_ok-find_positions.ensures in
    let nodes = map item_of c.build.new.list.items in
    let capacity = min (bytes_listed c.args.buffers.now.limit c.args.tape.now.capacity) (capacity c.args.buffers.now) in
    let built = parse-written c.build.result c.args.s.now _ capacity nodes c.build.new.buffers.index.listed found.found.whole
    c.build.ensures.built c.build.ensures.few c.build.ensures.rejected
    (ap (λ r. r.index.listed) c.build.ensures.kept ∙ found.found.listed) in
    subst (λ ns. IsParse c.args.s.now c.args.buffers.now.limit capacity (result_err c.build.result) ns c.build.new.buffers.index.listed)
    (written-all c.build.result nodes c.build.ensures.empty)
    (subst (λ l. IsParse c.args.s.now l capacity (result_err c.build.result) (nodes_written c.build.result nodes)
    c.build.new.buffers.index.listed) found.limit built)
