use Rattle.std.specs.Prelude.{slice_index}
use Rattle.simd_json_parts.proofs.HexDigits.{hex_value-sum, hex_value-excess}
use Rattle.simd_json_parts.proofs.charutils.hex_to_u32_nocheck.Goals as goal

pub returns-then-value-lt-NONE : goal.returns-then-value-lt-NONE
returns-then-value-lt-NONE c = hex_value-sum (slice_index c.args.digits 0) (slice_index c.args.digits 1)
    (slice_index c.args.digits 2) (slice_index c.args.digits 3) _ _ _ _ c.digit_or_none.ensures.value
    c.digit_or_none-2.ensures.value c.digit_or_none-3.ensures.value c.digit_or_none-4.ensures.value c.if-value-lt-NONE.true

pub returns-else-value-lt-NONE : goal.returns-else-value-lt-NONE
returns-else-value-lt-NONE c = hex_value-excess (slice_index c.args.digits 0) (slice_index c.args.digits 1)
    (slice_index c.args.digits 2) (slice_index c.args.digits 3) _ _ _ _ c.digit_or_none.ensures.value
    c.digit_or_none-2.ensures.value c.digit_or_none-3.ensures.value c.digit_or_none-4.ensures.value c.if-value-lt-NONE.false
