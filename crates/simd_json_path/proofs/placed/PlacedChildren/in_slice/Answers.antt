use Rattle.std.proofs.Common.{◌≡◌, ◌∙◌, ap, sym, arith, rules}
use Rattle.std.proofs.lemmas.Int.{to_z-of_z}
use mir.Syntax.{w64}
use mir.Val.{of_z, to_z}
use Rattle.simd_json.specs.Viewed.{docs}
use Rattle.simd_json_parts.specs.Document.{array, elements}
use Rattle.simd_json_path.specs.Locations.{placed_slice}
use Rattle.simd_json_path.specs.PlacedNodes.{first_by, numbered_by}
use Rattle.simd_json_path.specs.SliceNodes.{children_left}
use Rattle.simd_json_path.specs.Slices.{sliced}
use Rattle.simd_json_path.proofs.Numbered.{slice-numbered}
use Rattle.simd_json_path.proofs.placed.PlacedChildren.in_slice.Goals as goal

pub returns : goal.returns
returns c =
    let slice = c.args.slice.now in
    let ds = elements (docs c.in-Some.array) in
    let is = c.in-Some.ensures.array in
    let back : to_z w64 (of_z w64 slice.step) ≡ slice.step = to_z-of_z w64 slice.step (search rules) in
    ap (λ k. numbered_by k c.first_index.result (children_left c.in_slice.result)) back
    ∙ ap (numbered_by slice.step c.first_index.result) (c.in_slice.ensures ∙ ap (sliced slice) is)
    ∙ ap (λ i. numbered_by slice.step i (sliced slice (array (docs c.in-Some.array))))
    (c.first_index.ensures ∙ ap (first_by slice.step slice) c.len.ensures)
    ∙ slice-numbered slice.step slice ds (omega (arith, c.len.ensures))
    ∙ ap (placed_slice slice) (sym is)
