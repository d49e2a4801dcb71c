use Rattle.std.proofs.Common.{◌≡◌, ◌++◌, ◌∷◌, [], flat_map, string_bytes}
use Rattle.simd_json_parts.specs.Bytes.{slash}
use Rattle.simd_json_serde.specs.Paths.{token_character}
use Rattle.simd_json_serde.proofs.path.append_key.Given as goal

abbrev pub invariant-loop-c : goal.invariant-loop-c
invariant-loop-c l =
    string_bytes l.path ≡ (string_bytes l.fn.path ++ slash ∷ []) ++ flat_map token_character l.yielded
