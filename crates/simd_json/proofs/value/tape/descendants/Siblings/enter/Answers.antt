use Rattle.simd_json.proofs.Views.Descending.{row-some, row-entered}
use Rattle.simd_json.proofs.Views.Printable.{printable-drop}
use Rattle.simd_json.proofs.value.tape.descendants.Siblings.enter.Goals as goal

pub invariant_of-result : goal.invariant_of-result
invariant_of-result c =
    let self = c.args.self in
    record {
      listed = (row-entered self.nodes.now _ self.listed (row-some self.nodes.now c.requires) c.split_at.ensures.back).listed;
      printable = printable-drop 1 self.nodes.now _ c.split_at.ensures.back self.printable;
    }

pub returns-clause-row : goal.returns-clause-row
returns-clause-row c =
    let self = c.args.self in
    (row-entered self.nodes.now _ self.listed (row-some self.nodes.now c.requires) c.split_at.ensures.back).whole
