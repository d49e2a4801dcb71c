use Rattle.std.proofs.Common.{sym, subst, true}
use Rattle.simd_json_serde.specs.WrittenOut.{IsPrinted}
use Rattle.simd_json_serde.proofs.Printed.{unwritten, written-out}
use Rattle.simd_json_serde.proofs.writing.to_writer_pretty.Goals as goal

pub returns-in_err-text : goal.returns-in_err-text
returns-in_err-text g c =
    unwritten (IsPrinted true (g.T.Described.writes c.args.value.now)) c.from_residual.result _ c.from_residual.ensures.0

pub returns : goal.returns
returns g c =
    let P = IsPrinted true (g.T.Described.writes c.args.value.now) in
    written-out P c.write_all.result c.map_err.result c.deref.result.now _ _ (subst P (sym c.deref.ensures.value) c.in_ok-text.ensures)
    c.map_err.ensures.cases c.write_all.ensures.written c.write_all.ensures.begun
