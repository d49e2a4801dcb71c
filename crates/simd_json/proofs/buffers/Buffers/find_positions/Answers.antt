use Rattle.std.proofs.Common.{◌∙◌, ap, arith, inr, length}
use Rattle.simd_json_stages.proofs.Whole.{few-positions, right-input}
use Rattle.simd_json.proofs.Parses.ParseEnds.{short-stack}
use Rattle.simd_json.proofs.buffers.Buffers.find_positions.Goals as goal

pub returns-clause-fault : goal.returns-clause-fault
returns-clause-fault g c =
    let b = c.args.input.now in
    let right = right-input b c.in_ok-scan.ensures.whole in
    let count = length c.scanned.result.structural_indexes.now in
    inr (
      (c.into.ensures, right.0, right.1),
      short-stack c.args.self.now count (length b)
          (omega (
            arith,
            c.in-Err.ensures.failed.1,
            c.min-open.ensures,
            ap (λ r. r.stack_capacity) c.self.view_is,
            ap (λ r. r.limit) c.self.view_is,
          ))
          (omega (arith, few-positions b, ap length (c.scanned.ensures.indexes ∙ c.in_ok-scan.ensures.indexes))),
    )
