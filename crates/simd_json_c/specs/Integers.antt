-- An integer as it is written, and the 128 bits that it is read as (RFC 8259, section 6).
use Rattle.std.specs.Prelude.{◌≡◌, ◌⊎◌, ◌%◌, ◌/◌, ◌^◌, ℕ, ℤ, pos, List, length, Bool, Ok}
use Rattle.std.specs.Int.{cast_unsigned, w128}
use Rattle.simd_json_parts.specs.Document.{integer}
use Rattle.simd_json_parts.specs.Integers.{integer_node}
use Rattle.simd_json_parts.specs.NumberAt.{number_at}
use Rattle.simd_json_parts.specs.declared.node.StaticNode.{StaticNode}
use Rattle.simd_json_parts.specs.declared.node.StaticNode.TheVariants as fixed
use Rattle.simd_json_c.specs.Statuses.{invalid_number}

-- the bytes are one integer, to their end: whether it has a minus, and its magnitude
abbrev pub IsIntegerText : List ℕ → Bool → ℕ → Type 0
IsIntegerText b minus n = number_at b 0 ≡ Ok (integer minus n, length b)

-- in two's complement
abbrev pub bits_of : StaticNode → ℕ
bits_of (fixed.I64 z) = cast_unsigned w128 z
bits_of (fixed.U64 n) = n
bits_of (fixed.I128 z) = cast_unsigned w128 z
bits_of (fixed.U128 n) = n
bits_of _ = 0

-- its lower and its upper 64 bits are put, or the bytes are no integer and nothing is
abbrev pub IsIntegerPut : List ℕ → ℤ → ℕ → ℕ → ℕ → ℕ → Type 0
IsIntegerPut b status old_low low old_high high =
    ((minus : Bool) × (n : ℕ) × IsIntegerText b minus n × (status ≡ pos 0)
    × (low ≡ bits_of (integer_node minus n) % 2 ^ 64) × (high ≡ bits_of (integer_node minus n) / 2 ^ 64))
    ⊎ (((minus : Bool) (n : ℕ) → IsIntegerText b minus n → ⊥) × (status ≡ invalid_number) × (low ≡ old_low) × (high ≡ old_high))
