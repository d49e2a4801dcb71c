use Rattle.std.proofs.Common.{ap}
use Rattle.simd_json_ondemand.specs.Walks.{items}
use Rattle.simd_json_ondemand.proofs.Turns.{elements-passed}
use Rattle.simd_json_ondemand.proofs.array.Array.pass.Goals as goal

pub returns-then-end-document-clause-left : goal.returns-then-end-document-clause-left
returns-then-end-document-clause-left c = λ last.
    let a = c.args.self.now in
    ap items (elements-passed a.document a.at c.args.end.after a.position last)

pub returns-then-end-document-clause-ahead : goal.returns-then-end-document-clause-ahead
returns-then-end-document-clause-ahead c =
    let a = c.args.self.now in
    elements-passed a.document a.at c.args.end.after a.position
