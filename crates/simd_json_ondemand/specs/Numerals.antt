-- What readers find at an index: a number or none, and how long a literal is. It serves proofs: only the crate's private
-- clauses cite it.
use Rattle.std.specs.Prelude.{◌≡◌, ◌≤◌, ◌+◌, ℕ, List, length, take, drop, Option, Some, None, Ok, Err, option_and_then}
use Rattle.std.specs.Float.{binary64}
use Rattle.std.specs.Float.Ieee.{Float}
use Rattle.std.specs.Float.Parse.{parse_float}
use Rattle.simd_json_parts.specs.Document.{Document}
use Rattle.simd_json_parts.specs.NumberAt.{number_at}
use Rattle.simd_json_parts.specs.Tokens.{form_at, scalar}
use Rattle.simd_json_parts.specs.Views.{as_integer, as_decimal}
use Rattle.simd_json_parts.specs.declared.error.Error.{Error}
use Rattle.simd_json_ondemand.specs.Standing.{literal_end}
use Rattle.simd_json_scalars.specs.NumeralRead.{IsNumeralAt}
use Rattle.simd_json_scalars.specs.declared.numberparse.Numeral.{Numeral}
use Rattle.simd_json_scalars.specs.declared.numberparse.Numeral.TheVariants.{Decimal}

abbrev pub IsNumeralRead : List ℕ → ℕ → Numeral → Type 0
IsNumeralRead b i n = (form_at b i ≡ scalar (number_at b i)) × IsNumeralAt b i n

abbrev pub IsNoNumber : Option Document → Type 0
IsNoNumber o = (option_and_then as_integer o ≡ None) × (option_and_then as_decimal o ≡ None)

abbrev pub IsNumberLen : List ℕ → ℕ → Option ℕ → Type 0
IsNumberLen b i (Some len) = (d : Document) × (number_at b i ≡ Ok (d, i + len))
IsNumberLen b i None = (e : Error) × (number_at b i ≡ Err e)

-- a decimal, and the float nearest to it
abbrev pub IsDecimalFloat : List ℕ → ℕ → Float → Type 0
IsDecimalFloat b i x = (len : ℕ) × IsNumeralAt b i (Decimal len)
    × (parse_float binary64 (take len (drop i b)) ≡ Some x)

-- the string or scalar ends so far on, and within the input
abbrev pub IsLiteralLen : List ℕ → ℕ → Option ℕ → Type 0
IsLiteralLen b i (Some len) = (literal_end b i (form_at b i) ≡ Some (i + len)) × (i + len ≤ length b)
IsLiteralLen b i None = literal_end b i (form_at b i) ≡ None
