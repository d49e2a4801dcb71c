use Rattle.std.proofs.Common.{◌∙◌, ap, sym, arith}
use Rattle.std.specs.Prelude.{pos}
use Rattle.simd_json.specs.Viewed.{docs}
use Rattle.simd_json_parts.specs.Document.{elements}
use Rattle.simd_json_path.specs.Locations.{placed_children}
use Rattle.simd_json_path.specs.PlacedNodes.{numbered_by}
use Rattle.simd_json_path.proofs.Numbered.{numbered-one}
use Rattle.simd_json_path.proofs.placed.PlacedChildren.of.Goals as goal

pub returns-in-Some : goal.returns-in-Some
returns-in-Some c =
    let ds = elements (docs c.in-Some.array) in
    ap (numbered_by (pos 1) 0) c.iter.ensures
    ∙ numbered-one 0 ds (omega (arith, c.len-len.ensures))
    ∙ ap placed_children (sym c.in-Some.ensures.array)
