use Rattle.std.proofs.Common.{◌≡◌, ◌+◌, ◌-◌, ◌≤◌, length, drop}
use Rattle.std.specs.Char.{is_ascii_digit}
use Rattle.std.specs.List.{prefix_len}
use Rattle.simd_json_scalars.proofs.numberparse.plain.digits_end.Given as goal

-- as many digits stand from here on as are left of those from the start
abbrev pub invariant-loop-end : goal.invariant-loop-end
invariant-loop-end l =
    (l.from + prefix_len is_ascii_digit (drop l.from l.bytes) ≡ l.end + prefix_len is_ascii_digit (drop l.end l.bytes))
    × (l.end ≤ length l.bytes)

abbrev pub decreases-loop-end : goal.decreases-loop-end
decreases-loop-end l = length l.bytes - l.end
