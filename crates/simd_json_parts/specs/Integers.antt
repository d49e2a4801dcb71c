-- Which integers a tape holds, and as which node: a change of the range is a change of this file. The sign says
-- whether `-` was written. Acceptance rests on it.
use Rattle.std.specs.Prelude.{ℕ, ◌-◌, ◌^◌, Bool, true, false, ℤ, pos, neg_ℤ, nat_le, if◌then◌else◌}
use Rattle.simd_json_parts.specs.declared.node.StaticNode.{StaticNode}
use Rattle.simd_json_parts.specs.declared.node.StaticNode.TheVariants.{I64, U64, I128, U128}

-- the number with this sign and this magnitude
abbrev pub number_of : Bool → ℕ → ℤ
number_of true n = neg_ℤ (pos n)
number_of false n = pos n

-- the greatest magnitude
abbrev pub max_magnitude : Bool → ℕ
max_magnitude true = 2 ^ 127
max_magnitude false = 2 ^ 128 - 1

-- the greatest that 64 bits hold
abbrev pub max_magnitude_64 : Bool → ℕ
max_magnitude_64 true = 2 ^ 63
max_magnitude_64 false = 2 ^ 64 - 1

abbrev pub integer_node : Bool → ℕ → StaticNode
integer_node true n = if nat_le n (max_magnitude_64 true) then I64 (number_of true n) else I128 (number_of true n)
integer_node false n = if nat_le n (max_magnitude_64 false) then U64 n else U128 n
