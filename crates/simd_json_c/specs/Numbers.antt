-- The number of a node as a double, and as an integer of 64 bits.
use Rattle.std.specs.Prelude.{◌≡◌, ◌≤◌, ◌<◌, ◌^◌, ◌⊎◌, ℕ, ℤ, pos, List, FitsSigned}
use Rattle.std.specs.Float.{binary64}
use Rattle.std.specs.Float.Ieee.{Float}
use Rattle.std.specs.Int.{w64}
use lib.Ieee.{of_int}
use Rattle.simd_json_parts.specs.Nodes.{Item, static_item, decimal_item}
use Rattle.simd_json_parts.specs.declared.node.StaticNode.TheVariants as fixed
use Rattle.simd_json_stages.specs.Placed.{IsLiteralOf}
use Rattle.simd_json_c.specs.Doubles.{IsDoublePut}
use Rattle.simd_json_c.specs.Statuses.{invalid_number, no_value_status}

-- a number is put, or nothing is, for a reason
abbrev pub IsPut : {A : Type 0} → A → ℤ → A → Type 0
IsPut x status new = (status ≡ pos 0) × (new ≡ x)

abbrev pub IsNotPut : {A : Type 0} → ℤ → ℤ → A → A → Type 0
IsNotPut why status old new = (status ≡ why) × (new ≡ old)

-- the double nearest to the number of a node; of an integer of 128 bits that of a literal
abbrev pub IsLiteralPut : ℤ → ℤ → Float → Float → Type 0
IsLiteralPut z status old new = (literal : List ℕ) × IsLiteralOf z literal × IsDoublePut literal status old new

abbrev pub IsNumberPut : Item → ℤ → Float → Float → Type 0
IsNumberPut (static_item (fixed.I64 z)) status old new = FitsSigned w64 z → IsPut (of_int binary64 z) status new
IsNumberPut (static_item (fixed.U64 n)) status old new = IsPut (of_int binary64 (pos n)) status new
IsNumberPut (static_item (fixed.I128 z)) status old new = IsLiteralPut z status old new
IsNumberPut (static_item (fixed.U128 n)) status old new = IsLiteralPut (pos n) status old new
IsNumberPut (decimal_item literal) status old new = IsDoublePut literal status old new
IsNumberPut _ status old new = IsNotPut no_value_status status old new

-- a number itself, where it is an integer from -2^63 to 2^63 - 1
abbrev pub IsInt64Put : Item → ℤ → ℤ → ℤ → Type 0
IsInt64Put (static_item (fixed.I64 z)) status old new = FitsSigned w64 z → IsPut z status new
IsInt64Put (static_item (fixed.U64 n)) status old new =
    ((n < 2 ^ 63) × IsPut (pos n) status new) ⊎ ((2 ^ 63 ≤ n) × IsNotPut invalid_number status old new)
IsInt64Put (static_item (fixed.I128 z)) status old new = IsNotPut invalid_number status old new
IsInt64Put (static_item (fixed.U128 n)) status old new = IsNotPut invalid_number status old new
IsInt64Put (decimal_item literal) status old new = IsNotPut invalid_number status old new
IsInt64Put _ status old new = IsNotPut no_value_status status old new
