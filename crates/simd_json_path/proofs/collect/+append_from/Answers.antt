use Rattle.std.proofs.Common.{◌∙◌, ◌++◌, ap, sym, append-nil, map}
use Rattle.simd_json.specs.Viewed.{doc}
use Rattle.simd_json_path.specs.IteratorNodes.{frame_left}
use Rattle.simd_json_path.specs.Paths.{selected_by}
use Rattle.simd_json_path.proofs.Collected.{added, of-end}
use Rattle.simd_json_path.proofs.collect.+append_from.Goals as goal

pub nodes-preserved : goal.nodes-preserved
nodes-preserved t c =
    let root = doc c.args.root in
    let by = selected_by root in
    let others = c.in-Some.others.now in
    let now = frame_left root c.nodes.frame in
    let rest = frame_left root c.next.new.self in
    added by others now (doc c.in-Some-next.node) rest c.in-Some-next.ensures (map doc c.nodes.values.items)
    (map doc c.append_from.new.values.items) c.in_ok-append_from.ensures
    ∙ c.nodes.invariant

pub returns : goal.returns
returns t c =
    let root = doc c.args.root in
    let none = of-end (selected_by root) c.in-Some.others.now (frame_left root c.nodes.frame) c.in_default-next.ensures.0 in
    sym (append-nil (map doc c.nodes.values.items)) ∙ sym (ap (λ xs. map doc c.nodes.values.items ++ xs) none) ∙ c.nodes.invariant
