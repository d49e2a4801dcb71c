use Rattle.std.proofs.Common.{◌≡◌, take}
use Rattle.std.specs.Str.Parse.{digits_value}
use Rattle.simd_json_scalars.proofs.numberparse.integers.long_magnitude.Given as goal

-- the value of the digits so far
abbrev pub invariant-loop-at : goal.invariant-loop-at
invariant-loop-at l = l.value ≡ digits_value 10 (take l.at l.digits)
