use Rattle.std.proofs.Common.{◌≡◌, ◌+◌, ◌-◌, ◌≤◌, length, take, drop}
use Rattle.std.specs.Char.{is_ascii_digit}
use Rattle.std.specs.List.{prefix_len}
use Rattle.std.specs.Str.Parse.{digits_value}
use Rattle.simd_json_c.proofs.fraction.few_digits.Given as goal

-- the digits so far, and their value
abbrev pub invariant-loop-len : goal.invariant-loop-len
invariant-loop-len l =
    (prefix_len is_ascii_digit l.bytes ≡ l.len + prefix_len is_ascii_digit (drop l.len l.bytes))
    × (l.len ≤ length l.bytes) × (l.number ≡ digits_value 10 (take l.len l.bytes))

abbrev pub decreases-loop-len : goal.decreases-loop-len
decreases-loop-len l = length l.bytes - l.len
