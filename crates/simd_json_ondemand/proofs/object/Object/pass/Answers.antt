use Rattle.std.proofs.Common.{ap}
use Rattle.simd_json_ondemand.specs.Walks.{items}
use Rattle.simd_json_ondemand.proofs.Turns.{members-passed}
use Rattle.simd_json_ondemand.proofs.object.Object.pass.Goals as goal

pub returns-then-end-document-clause-ahead : goal.returns-then-end-document-clause-ahead
returns-then-end-document-clause-ahead c =
    let o = c.args.self.now in
    members-passed o.document o.at c.args.end.after o.position

pub returns-then-end-document-clause-left : goal.returns-then-end-document-clause-left
returns-then-end-document-clause-left c = λ last.
    let o = c.args.self.now in
    ap items (members-passed o.document o.at c.args.end.after o.position last)
