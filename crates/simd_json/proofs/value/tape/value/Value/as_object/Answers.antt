use Rattle.simd_json.proofs.Views.Listed.{headed, object-of}
use Rattle.simd_json.proofs.Views.Printable.{printable-drop}
use Rattle.simd_json.proofs.value.tape.value.Value.as_object.Goals as goal

pub invariant_of-result : goal.invariant_of-result
invariant_of-result c =
    let self = c.args.self.now in
    let inside = object-of _ _ _ _ self.listed (headed self.nodes.now _ _ _ c.node.ensures.header c.in-Object.is c.beneath.ensures) in
    record {
      listed = inside.listed;
      printable = printable-drop 1 self.nodes.now _ c.beneath.ensures self.printable;
      counted = inside.counted;
    }

pub returns-in-Object-clause-object : goal.returns-in-Object-clause-object
returns-in-Object-clause-object c =
    let self = c.args.self.now in
    (object-of _ _ _ _ self.listed (headed self.nodes.now _ _ _ c.node.ensures.header c.in-Object.is c.beneath.ensures)).whole
