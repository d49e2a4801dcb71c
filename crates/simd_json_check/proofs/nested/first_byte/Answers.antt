use Rattle.std.proofs.Common.{get_or}
use Rattle.std.proofs.lemmas.List.{get_or_default}
use Rattle.simd_json_check.proofs.Scans.{within}
use Rattle.simd_json_check.proofs.nested.first_byte.Goals as goal

pub returns : goal.returns
returns c =
    let b = c.args.input.now in
    let is = c.args.indexes.now in
    get_or_default b (get_or is c.args.at 0) 0 32 (within b is c.requires.scanned c.args.at c.requires.at)
