use Rattle.std.proofs.Common.{◌∙◌, ◌<◌, ap, sym, subst}
use Rattle.std.proofs.lemmas.Bool.{cond-true}
use Rattle.simd_json_check.specs.Locations.{bad_string, is_control_inside}
use Rattle.simd_json_check.specs.declared.location.reason.Reason.TheVariants.{ControlCharacter, OpenString}
use Rattle.simd_json_parts.specs.Bytes.{byte_at}
use Rattle.simd_json_check.proofs.Places.StringScan.{bad-control}
use Rattle.simd_json_check.proofs.location.context.string_reason.Goals as goal

pub returns-then-byte-lt32 : goal.returns-then-byte-lt32
returns-then-byte-lt32 c =
    let b = c.args.input.now in
    let byte = c.byte_or_space-byte.ensures ∙ ap (byte_at b) c.bad_string.ensures in
    let low = subst (λ n. n < 32) byte c.if-byte-lt32.true in
    ap ControlCharacter byte
    ∙ sym (cond-true (is_control_inside b (bad_string b)) (ControlCharacter (byte_at b (bad_string b))) OpenString (bad-control b low))
