use Rattle.std.proofs.Common.{◌∙◌, ap, sym, get_or, length, map, Some, arith, append-nil}
use Rattle.simd_json.specs.Viewed.{doc}
use Rattle.simd_json_path.proofs.Stacks.{first-left}
use Rattle.simd_json_path.proofs.selected.Selected.new.Goals as goal

pub returns : goal.returns
returns c =
    let root = doc c.args.root in
    let ss = c.args.segments.now in
    let first = c.in-Some.first.now in
    let some = ap length c.in-Some.ensures.cases.0 in
    append-nil _
    ∙ ap (map Some) (first-left root ss c.args.frames.now first (doc c.args.start) c.new.result (omega (arith, some)) (omega (arith, some))
    (sym (ap (λ xs. get_or xs 0 first) c.in-Some.ensures.cases.0)) (c.new.ensures root))
