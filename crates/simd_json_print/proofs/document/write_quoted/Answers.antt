use Rattle.std.specs.Prelude.{None}
use Rattle.simd_json_parts.specs.Printed.{quoted}
use Rattle.simd_json_print.specs.Texts.{TargetState}
use Rattle.simd_json_print.proofs.Texts.{ended-written, ended-begun, ended-longer}
use Rattle.simd_json_print.proofs.document.write_quoted.Goals as goal

pub returns : goal.returns
returns g c =
    let old : TargetState = record { held = g.W.Write.contents c.args.writer.now; failed = None } in
    let new : TargetState = record { held = g.W.Write.contents c.print_quoted.new.target; failed = None } in
    let bytes = quoted c.args.string.now in
    let p = c.print_quoted.ensures in
    record {
      written = ended-written c.print_quoted.result old new bytes p;
      begun = ended-begun c.print_quoted.result old new bytes p;
      kept = ended-longer c.print_quoted.result old new bytes p;
    }
