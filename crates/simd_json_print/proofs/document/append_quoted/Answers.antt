use Rattle.std.proofs.Common.{rules}
use Rattle.simd_json_parts.specs.Printed.{quoted}
use Rattle.simd_json_print.proofs.Growing.{is-appended}
use Rattle.simd_json_print.proofs.document.append_quoted.Goals as goal

pub returns-in-Ok : goal.returns-in-Ok
returns-in-Ok g c =
    let list = c.args.out.now in
    let put = c.print_quoted in
    let is = is-appended put.result _ _ list.items put.new.target (quoted c.args.string.now) put.ensures in
    search rules
