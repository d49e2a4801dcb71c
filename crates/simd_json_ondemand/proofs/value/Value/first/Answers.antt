use Rattle.std.proofs.lemmas.List.{get_or_default}
use Rattle.simd_json_check.proofs.Scans.{within}
use Rattle.simd_json_ondemand.proofs.value.Value.first.Goals as goal

pub returns : goal.returns
returns c = let v = c.args.self in get_or_default v.document.input.now _ 0 32 (within _ _ v.document.scanned v.at v.inside)
