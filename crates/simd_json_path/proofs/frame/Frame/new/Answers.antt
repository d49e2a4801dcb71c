use Rattle.std.proofs.Common.{◌∙◌, ap, sym, ◌++◌, flat_map, append-nil}
use Rattle.simd_json.specs.Viewed.{doc}
use Rattle.simd_json.specs.Beneath.{containers}
use Rattle.simd_json.specs.Descending.{containers_left}
use Rattle.simd_json_path.specs.Nodes.{followed}
use Rattle.simd_json_path.specs.Paths.{selected_by, selected_by_all}
use Rattle.simd_json_path.proofs.Bare.{scalar-selected, selected-child, selected-descendants}
use Rattle.simd_json_path.proofs.frame.Frame.new.Goals as goal

pub returns-then-segment : goal.returns-then-segment
returns-then-segment c root =
    let s = c.args.segment.now in
    let all = selected_by_all root s.selectors.now in
    ap (λ ds. followed s.steps.now (ds ++ flat_map all (containers_left c.containers.result))) (c.new.ensures root)
    ∙ ap (λ ds. followed s.steps.now (flat_map all ds)) c.containers.ensures
    ∙ sym (selected-descendants (selected_by root) (scalar-selected root) s (doc c.args.value) c.if-segment.true)

pub returns : goal.returns
returns c root =
    let s = c.args.segment.now in
    let all = selected_by_all root s.selectors.now in
    ap (λ ds. followed s.steps.now (ds ++ flat_map all (containers_left c.containers-2.result))) (c.new-2.ensures root)
    ∙ ap (λ ds. followed s.steps.now (all (doc c.args.value) ++ flat_map all ds))
    (c.containers-2.ensures ∙ ap containers c.null-null.ensures)
    ∙ ap (followed s.steps.now) (append-nil (all (doc c.args.value)))
    ∙ sym (selected-child (selected_by root) (scalar-selected root) s (doc c.args.value) c.if-segment.false)
