use Rattle.std.proofs.Common.{◌≡◌, ◌++◌, flat_map, string_bytes}
use Rattle.simd_json_path.specs.Locations.{escaped}
use Rattle.simd_json_path.proofs.location.append_characters.Given as goal

abbrev pub invariant-loop-c : goal.invariant-loop-c
invariant-loop-c l = string_bytes l.path ≡ string_bytes l.fn.path ++ flat_map escaped l.yielded
