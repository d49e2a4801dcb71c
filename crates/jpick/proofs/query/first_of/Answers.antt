use Rattle.std.proofs.Common.{◌≡◌, ◌∙◌, [], ap, length, map, sym, Some}
use Rattle.std.specs.Prelude.{option_map}
use Rattle.simd_json.specs.Viewed.{doc}
use Rattle.simd_json_path.specs.Paths.{selected}
use Rattle.simd_json_path.proofs.Enough.{path-enough}
use Rattle.jpick.proofs.Enough.{left-none, left-some}
use Rattle.jpick.proofs.query.first_of.Goals as goal

pub returns-in_err-next : goal.returns-in_err-next
returns-in_err-next c =
    let d = doc c.args.value in
    let ds = selected c.args.path.now d in
    let whole = c.select.ensures ∙ path-enough c.args.path.now d (length c.args.frames.now) c.requires in
    let none : map Some ds ≡ [] = sym whole ∙ c.in_err-next.ensures.steps.0 in
    ap (option_map doc) c.from_residual.ensures ∙ sym (left-none ds none)

pub returns : goal.returns
returns c =
    let d = doc c.args.value in
    let ds = selected c.args.path.now d in
    let whole = c.select.ensures ∙ path-enough c.args.path.now d (length c.args.frames.now) c.requires in
    ap (option_map doc) c.ok.ensures.value ∙ sym (left-some ds _ _ (sym whole ∙ c.in_ok-next.ensures.steps))
