use Rattle.std.proofs.Common.{◌∙◌, ap, sym}
use Rattle.std.specs.Prelude.{slice_get}
use Rattle.simd_json.specs.Viewed.{doc}
use Rattle.simd_json_path.specs.IteratorNodes.{frame_left}
use Rattle.simd_json_path.specs.Paths.{selected_by}
use Rattle.simd_json_path.proofs.Collected.{first-after, first-here, of-end}
use Rattle.simd_json_path.proofs.collect.+first_from.Goals as goal

pub returns-in-Some-first_from : goal.returns-in-Some-first_from
returns-in-Some-first_from t c =
    let root = doc c.args.root in
    let by = selected_by root in
    let others = c.in-Some.others.now in
    let now = frame_left root c.nodes.frame in
    let rest = frame_left root c.next.new.self in
    first-here by others now (doc c.in-Some-next.node) rest c.in-Some-next.ensures (doc c.in-Some-first_from.first)
    c.in-Some-first_from.ensures
    ∙ c.nodes.invariant

pub nodes-preserved : goal.nodes-preserved
nodes-preserved t c =
    let root = doc c.args.root in
    let by = selected_by root in
    let others = c.in-Some.others.now in
    let now = frame_left root c.nodes.frame in
    let rest = frame_left root c.next.new.self in
    first-after by others now (doc c.in-Some-next.node) rest c.in-Some-next.ensures c.in_default-first_from.ensures
    ∙ c.nodes.invariant

pub returns : goal.returns
returns t c =
    let root = doc c.args.root in
    let none = of-end (selected_by root) c.in-Some.others.now (frame_left root c.nodes.frame) c.in_default-next.ensures.0 in
    sym (ap (λ xs. slice_get xs 0) none) ∙ c.nodes.invariant
