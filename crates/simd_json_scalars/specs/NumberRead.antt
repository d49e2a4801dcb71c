-- What a reader of numbers returns of the number at an index. It serves proofs: contracts of laws and readers cite it.
use Rattle.std.specs.Prelude.{◌≡◌, ℕ, ◌+◌, List, take, drop, Bool, Ok, Err}
use Rattle.simd_json_parts.specs.Document.{integer, decimal}
use Rattle.simd_json_parts.specs.Integers.{integer_node}
use Rattle.simd_json_parts.specs.NumberAt.{number_at}
use Rattle.simd_json_parts.specs.Faults.{fault_at}
use Rattle.simd_json_parts.specs.declared.error.ErrorType.TheVariants.{InvalidNumber}
use Rattle.simd_json_scalars.specs.declared.numberparse.Number.{Number}
use Rattle.simd_json_scalars.specs.declared.numberparse.Number.TheVariants.{Integer, Decimal, Invalid}

-- the node and the length of an integer, the length of a decimal, or how far after the index the fault is reported
abbrev pub IsNumberAt : List ℕ → ℕ → Number → Type 0
IsNumberAt b i (Integer node len) =
    (minus : Bool) × (n : ℕ) × (number_at b i ≡ Ok (integer minus n, i + len)) × (node ≡ integer_node minus n)
IsNumberAt b i (Decimal len) = number_at b i ≡ Ok (decimal (take len (drop i b)), i + len)
IsNumberAt b i (Invalid offset) = number_at b i ≡ Err (fault_at b InvalidNumber (i + offset))
