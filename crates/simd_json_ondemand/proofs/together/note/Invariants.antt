use Rattle.std.proofs.Common.{◌<◌, option_and_then}
use Rattle.simd_json_parts.specs.Views.{as_str}
use Rattle.simd_json_ondemand.specs.Docs.{doc}
use Rattle.simd_json_ondemand.specs.Keys.{is_key}
use Rattle.simd_json_ondemand.specs.Prepared.{first_key}
use Rattle.simd_json_ondemand.proofs.Several.{AreNoted}
use Rattle.simd_json_ondemand.proofs.together.note.Given as goal

abbrev pub invariant-loop-k : goal.invariant-loop-k
invariant-loop-k g l =
    AreNoted l.pointers (λ p. 0 < p.key_end) (λ p. is_key (first_key p) (option_and_then as_str (doc l.key))) l.value l.fn.values l.values
    l.are_found l.k
