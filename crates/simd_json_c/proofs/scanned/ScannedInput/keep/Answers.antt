use Rattle.std.proofs.Common.{refl, inr, arith}
use Rattle.simd_json_parts.specs.Faults.{whole_fault}
use Rattle.simd_json_parts.specs.declared.error.ErrorType.TheVariants.{OutOfMemory}
use Rattle.simd_json_stages.proofs.Exits.{passed-on}
use Rattle.simd_json_stages.proofs.Whole.{right-input}
use Rattle.simd_json_c.proofs.scanned.ScannedInput.keep.Goals as goal

pub returns-in_err-extend_from_slice-clause-fault : goal.returns-in_err-extend_from_slice-clause-fault
returns-in_err-extend_from_slice-clause-fault c =
    let right = right-input c.args.input.now c.in_ok-scan.ensures.whole in
    let exit = c.from_residual-in_err-extend_from_slice in
    passed-on exit.result (whole_fault OutOfMemory) _ exit.ensures.1
    (inr ((refl, right.0, right.1), omega (arith, c.in_err-extend_from_slice.ensures.full)), refl)
