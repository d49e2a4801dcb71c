-- What a reader of numerals returns of the number at an index: of an integer of 64 bits its magnitude alone, since the
-- byte at the index tells the sign; of another its length. It serves proofs: contracts of readers cite it.
use Rattle.std.specs.Prelude.{◌≡◌, ℕ, ◌+◌, ◌≤◌, ◌==◌, List, length, take, drop, Ok, Err, IsTrue}
use Rattle.simd_json_parts.specs.Bytes.{byte_at, minus_sign, is_terminator}
use Rattle.simd_json_parts.specs.Document.{integer, decimal}
use Rattle.simd_json_parts.specs.Integers.{max_magnitude_64}
use Rattle.simd_json_parts.specs.NumberAt.{number_at}
use Rattle.simd_json_parts.specs.Numbers.{integer_literal}
use Rattle.simd_json_parts.specs.Patterns.{Matches}
use Rattle.simd_json_parts.specs.Faults.{fault_at}
use Rattle.simd_json_parts.specs.declared.error.ErrorType.TheVariants.{InvalidNumber}
use Rattle.simd_json_scalars.specs.declared.numberparse.Numeral.{Numeral}
use Rattle.simd_json_scalars.specs.declared.numberparse.Numeral.TheVariants.{Integer, Long, Decimal, Invalid}

-- an integer's literal of so many bytes begins them, and ends there
abbrev pub IsIntegerLiteral : List ℕ → ℕ → Type 0
IsIntegerLiteral bs len = (len ≤ length bs) × Matches integer_literal (take len bs) × IsTrue (is_terminator (byte_at bs len))

-- the magnitude of an integer of 64 bits, the length of another, the length of a decimal, or how far after the index the fault is reported
abbrev pub IsNumeralAt : List ℕ → ℕ → Numeral → Type 0
IsNumeralAt b i (Integer n) =
    (end : ℕ) × (number_at b i ≡ Ok (integer (byte_at b i == minus_sign) n, end)) × (n ≤ max_magnitude_64 (byte_at b i == minus_sign))
IsNumeralAt b i (Long len) = IsIntegerLiteral (drop i b) len
IsNumeralAt b i (Decimal len) = number_at b i ≡ Ok (decimal (take len (drop i b)), i + len)
IsNumeralAt b i (Invalid offset) = number_at b i ≡ Err (fault_at b InvalidNumber (i + offset))
