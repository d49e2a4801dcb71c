use Rattle.std.proofs.Common.{arith}
use Rattle.simd_json.specs.Viewed.{doc}
use Rattle.simd_json.proofs.Views.Split.{no-elements, begins, without-first}
use Rattle.simd_json.proofs.value.tape.array.Array.split_first.Goals as goal

pub returns-then-self-eq0 : goal.returns-then-self-eq0
returns-then-self-eq0 c = no-elements _ c.args.self.len c.args.self.counted c.if-self-eq0.true

pub split-requires-clause-listed : goal.split-requires-clause-listed
split-requires-clause-listed c = begins c.args.self.nodes.now c.args.self.len c.args.self.listed c.args.self.counted (omega arith)

pub split-requires-clause-printable : goal.split-requires-clause-printable
split-requires-clause-printable c = c.args.self.printable

pub invariant_of-result : goal.invariant_of-result
invariant_of-result c =
    let self = c.args.self in
    let others = without-first _ _ self.len (doc c.split.result.0) self.listed self.counted c.split.ensures.whole in
    record { listed = others.listed; printable = c.split.ensures.printable; counted = others.counted }

pub returns : goal.returns
returns c =
    let self = c.args.self in
    (without-first _ _ self.len (doc c.split.result.0) self.listed self.counted c.split.ensures.whole).whole
