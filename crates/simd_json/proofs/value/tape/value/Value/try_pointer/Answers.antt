use Rattle.std.proofs.Common.{◌∙◌, ap, sym, drop}
use Rattle.std.specs.Result.{result_ok}
use Rattle.simd_json_parts.specs.Followed.{first_step}
use Rattle.simd_json_parts.specs.Pointed.{pointed_from}
use Rattle.simd_json.specs.Viewed.{doc}
use Rattle.simd_json.proofs.value.tape.value.Value.try_pointer.Goals as goal

pub returns-then-followed-pointer : goal.returns-then-followed-pointer
returns-then-followed-pointer c =
    let i = c.walk-followed.result.1 in
    let d = doc c.walk-followed.result.0 in
    let same = c.as_bytes.ensures.value in
    let nowhere = ap (λ q. result_ok (first_step (drop i q) d)) same ∙ c.walk-followed.ensures.stopped c.if-followed-pointer.true in
    sym
    (c.walk-followed.ensures.led ∙ ap (λ q. pointed_from i (drop i q) d) (sym same)
    ∙ c.stop.ensures d (sym c.value_type.ensures) nowhere)
