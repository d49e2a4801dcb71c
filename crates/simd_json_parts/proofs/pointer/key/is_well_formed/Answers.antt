use Rattle.std.proofs.Common.{◌∙◌}
use Rattle.simd_json_parts.specs.Pointed.{unescaped}
use Rattle.simd_json_parts.proofs.Pointers.Keys.{formed-further}
use Rattle.simd_json_parts.proofs.pointer.key.is_well_formed.Goals as goal

pub loop-rest-preserved : goal.loop-rest-preserved
loop-rest-preserved c =
    c.loop-rest.invariant
    ∙ formed-further (unescaped c.loop-rest.left.now) (unescaped c.in-Some.rest.now) _ c.in-Some.ensures.0
