-- What a number is.
use Rattle.std.specs.Prelude.{pos}
use Rattle.simd_json_parts.specs.Integers.{number_of}
use Rattle.simd_json_number.specs.Numbers.{Decimal, meaning}
use Rattle.simd_json_number.specs.declared.number.Number.{Number}
use Rattle.simd_json_number.specs.declared.number.Number.TheVariants.{Integer, Literal}

abbrev pub number : Number → Decimal
number (Integer is_negative magnitude) = record { coefficient = number_of is_negative magnitude; exponent = pos 0 }
number (Literal text) = meaning text.now
