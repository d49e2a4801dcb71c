use Rattle.std.proofs.Common.{refl, subst}
use Rattle.simd_json_theorems.proofs.Sound.Answer.{answer-sound}
use Rattle.simd_json_serde.specs.Outcomes.{IsDocument}
use Rattle.simd_json_serde.specs.WrittenOut.{any_depth}
use Rattle.simd_json_serde.proofs.writing.checked.Goals as goal

pub returns-in-Ok : goal.returns-in-Ok
returns-in-Ok c =
    let d = c.in-Ok.ensures.document in
    let s = answer-sound _ _ d.0 d.1 in
    (refl, subst (λ b. IsDocument b any_depth) c.deref.ensures.value (d.0, s.0, s.1))
