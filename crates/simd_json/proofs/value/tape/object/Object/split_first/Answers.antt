use Rattle.std.proofs.Common.{arith}
use Rattle.simd_json.specs.Viewed.{doc}
use Rattle.simd_json.proofs.Views.Printable.{printable-drop}
use Rattle.simd_json.proofs.Views.Split.{headed-by, without-pair}
use Rattle.simd_json.proofs.value.tape.object.Object.split_first.Goals as goal

pub split-requires-clause-printable : goal.split-requires-clause-printable
split-requires-clause-printable c = printable-drop 1 c.args.self.nodes.now _ c.split_at.ensures.back c.args.self.printable

pub invariant_of-result : goal.invariant_of-result
invariant_of-result c =
    let self = c.args.self in
    let first = headed-by self.nodes.now _ _ _ c.in-String.key self.len self.listed self.counted
    (omega arith) c.split_at.ensures.front c.split_at.ensures.back c.in-String.is in
    let others = without-pair _ _ _ self.len c.in-String.key.now
    (doc c.split.result.0) self.listed self.counted first c.split.ensures.whole in
    record { listed = others.listed; printable = c.split.ensures.printable; counted = others.counted }

pub returns : goal.returns
returns c =
    let self = c.args.self in
    let first = headed-by self.nodes.now _ _ _ c.in-String.key self.len self.listed self.counted
    (omega arith) c.split_at.ensures.front c.split_at.ensures.back c.in-String.is in
    (without-pair _ _ _ self.len c.in-String.key.now (doc c.split.result.0) self.listed self.counted first c.split.ensures.whole).whole
