use Rattle.std.proofs.Common.{rules}
use Rattle.simd_json_ondemand.proofs.Beginnings.{beginnings}
use Rattle.simd_json_ondemand.proofs.walk.may_begin_value.Goals as goal

pub returns : goal.returns
returns c = search (rules, beginnings)
