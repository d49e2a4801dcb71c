use Rattle.std.proofs.Common.{◌≡◌, ◌∙◌, sym, ap, List, ℕ, true, Option, Some, None, IfSome, option_and_then}
use Rattle.std.specs.Float.{binary64}
use Rattle.std.specs.Float.Ieee.{Float}
use Rattle.fast_float.specs.Parse.{parse_float}
use Rattle.simd_json_parts.specs.Bytes.{byte_at}
use Rattle.simd_json_ondemand.specs.Docs.{text, index_of, number}
use Rattle.simd_json_ondemand.specs.Numerals.{IsDecimalFloat}
use Rattle.simd_json_check.specs.Scalars.{begins_number}
use Rattle.simd_json_ondemand.proofs.Floats.{decimal-float}
use Rattle.simd_json_ondemand.proofs.value.Value.fraction.Goals as goal

pub returns-then-begins_number : goal.returns-then-begins_number
returns-then-begins_number c = found c.fraction.result (c.fraction.ensures b i (sym c.bytes.ensures.bytes))
  where
    b : List ℕ
    b = text c.args.self.document

    i : ℕ
    i = index_of c.args.self

    begins : begins_number (byte_at b i) ≡ true
    begins = ap begins_number (sym c.first.ensures) ∙ sym c.begins_number.ensures ∙ c.if-begins_number.true

    found : (r : Option Float) → IfSome r (IsDecimalFloat b i)
        → IfSome r (λ x. option_and_then (parse_float binary64) (number c.args.self) ≡ Some x)
    found None is = tt
    found (Some x) is = decimal-float c.args.self begins x is
