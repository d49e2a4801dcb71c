use Rattle.std.proofs.Common.{◌≡◌, ◌≤◌, length, take}
use Rattle.std.specs.Char.{is_ascii_digit}
use Rattle.std.specs.List.{filter}
use Rattle.simd_json_number.proofs.digits.count_digits.Given as goal

abbrev pub invariant-loop-byte : goal.invariant-loop-byte
invariant-loop-byte l =
    record { within : l.count ≤ l.byte-index; counted : l.count ≡ length (filter is_ascii_digit (take l.byte-index l.bytes)) }
