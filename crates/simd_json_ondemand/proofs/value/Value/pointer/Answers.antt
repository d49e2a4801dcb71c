use Rattle.simd_json_ondemand.specs.Sites.{site}
use Rattle.simd_json_ondemand.proofs.Told.{found-is}
use Rattle.simd_json_ondemand.proofs.value.Value.pointer.Goals as goal

pub returns-clause-walk : goal.returns-clause-walk
returns-clause-walk c = found-is site c.follow.result c.found.result _ c.found.ensures c.follow.ensures.walk
