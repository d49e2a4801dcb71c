use Rattle.std.proofs.Common.{◌∙◌, ap, sym, drop}
use Rattle.std.specs.Result.{result_ok}
use Rattle.simd_json.specs.Viewed.{doc}
use Rattle.simd_json_parts.proofs.Pointers.Pointed.{some-left, stop-of}
use Rattle.simd_json.proofs.value.tape.value.Value.pointer.Goals as goal

pub returns-then-followed-pointer : goal.returns-then-followed-pointer
returns-then-followed-pointer c =
    let p = c.args.pointer.now in
    let i = c.walk-followed.result.1 in
    let left = c.if-followed-pointer.true in
    sym (ap result_ok c.walk-followed.ensures.led
    ∙ stop-of i (drop i p) (doc c.walk-followed.result.0) (some-left p i left) (c.walk-followed.ensures.stopped left))
