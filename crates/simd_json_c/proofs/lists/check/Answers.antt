use Rattle.simd_json_parts.specs.Listing.{listing}
use Rattle.simd_json.proofs.Parses.ParseLaws.{answered-parsed, rejected-or}
use Rattle.simd_json_c.proofs.lists.check.Goals as goal

pub returns-in-Ok-clause-checked : goal.returns-in-Ok-clause-checked
returns-in-Ok-clause-checked c =
    let d = c.in-Ok.ensures.document in (listing d.0, answered-parsed c.args.input.now c.args.max_depth d.0 d.1)

pub returns-in-Err-clause-checked : goal.returns-in-Err-clause-checked
returns-in-Err-clause-checked c = rejected-or c.args.input.now c.args.max_depth c.in-Err.e c.in-Err.ensures.fault
