use Rattle.std.proofs.Common.{get_or}
use Rattle.std.proofs.lemmas.List.{get_or_default}
use Rattle.simd_json_check.proofs.Scans.{within}
use Rattle.simd_json_ondemand.proofs.value.Document.byte.Goals as goal

pub returns : goal.returns
returns c =
    let b = c.args.self.input.now in
    let is = c.args.self.indexes.now in
    get_or_default b (get_or is c.args.at 0) 0 32 (within b is c.args.self.scanned c.args.at c.requires)
