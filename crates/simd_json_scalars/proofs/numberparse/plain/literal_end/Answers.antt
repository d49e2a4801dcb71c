use Rattle.std.proofs.Common.{sym, ◌∙◌, arith}
use Rattle.simd_json_scalars.proofs.Numbers.Steps.{fraction-part, fraction-exponent}
use Rattle.simd_json_scalars.proofs.numberparse.plain.literal_end.Goals as goal

pub returns-then-end-digits : goal.returns-then-end-digits
returns-then-end-digits c =
    fraction-part _ _ _ (sym c.byte_or_space.ensures ∙ c.if-byte_or_space-ne46.false) c.digits_end-end.ensures.value c.if-end-digits.true

pub returns-else-end-digits : goal.returns-else-end-digits
returns-else-end-digits c =
    fraction-exponent _ _ _ _ (sym c.byte_or_space.ensures ∙ c.if-byte_or_space-ne46.false) c.digits_end-end.ensures.value
    (omega arith) c.exponent_end-else-end-digits.ensures
