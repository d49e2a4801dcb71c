use Rattle.std.proofs.Common.{◌∙◌, ap, sym, None}
use Rattle.std.specs.Prelude.{option_map, slice_get}
use Rattle.simd_json.specs.Viewed.{doc}
use Rattle.simd_json_path.specs.Paths.{selected_by}
use Rattle.simd_json_path.proofs.Collected.{selected-from}
use Rattle.simd_json_path.proofs.Segments.{nodes-none}
use Rattle.simd_json_path.proofs.path.Path.first.Goals as goal

pub returns-in_err-start : goal.returns-in_err-start
returns-in_err-start c =
    let path = c.args.self.now in
    let d = doc c.args.value.now in
    ap (option_map doc) c.from_residual.ensures
    ∙ sym (ap (λ xs. slice_get xs 0) (selected-from path d None c.in_err-start.ensures ∙ nodes-none (selected_by d) path.segments.now))
