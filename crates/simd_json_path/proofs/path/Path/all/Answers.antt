use Rattle.std.proofs.Common.{◌∙◌, [], ◌∷◌, ◌++◌, ap, sym, map, None, Some}
use Rattle.simd_json.specs.Viewed.{doc}
use Rattle.simd_json_path.specs.Nodes.{nodes}
use Rattle.simd_json_path.specs.Paths.{selected_by}
use Rattle.simd_json_path.proofs.Collected.{selected-from}
use Rattle.simd_json_path.proofs.Segments.{nodes-none}
use Rattle.simd_json_path.proofs.path.Path.all.Goals as goal

pub returns-in_default : goal.returns-in_default
returns-in_default c =
    let path = c.args.self.now in
    let d = doc c.args.value.now in
    ap (map doc) c.new-values.ensures.items
    ∙ sym (selected-from path d None c.in_default.ensures ∙ nodes-none (selected_by d) path.segments.now)

pub returns : goal.returns
returns c =
    let path = c.args.self.now in
    let d = doc c.args.value.now in
    c.in_ok-append_from.ensures
    ∙ ap (λ vs. map doc vs ++ nodes (selected_by d) path.segments.now (doc c.in-Some.start ∷ [])) c.new-values.ensures.items
    ∙ sym (selected-from path d (Some (doc c.in-Some.start)) c.in-Some.ensures)
