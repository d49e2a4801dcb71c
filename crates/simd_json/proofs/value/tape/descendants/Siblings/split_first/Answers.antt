use Rattle.std.proofs.Common.{◌∙◌, sym, refl}
use Rattle.simd_json.specs.Viewed.{doc}
use Rattle.simd_json.proofs.Views.Descending.{row-begins}
use Rattle.simd_json.proofs.Views.Split.{without-first}
use Rattle.simd_json.proofs.value.tape.descendants.Siblings.split_first.Goals as goal

pub split-requires-clause-listed : goal.split-requires-clause-listed
split-requires-clause-listed c = row-begins c.args.self.nodes.now c.args.self.listed (sym c.is_empty.ensures ∙ c.if-is_empty.false)

pub invariant_of-result : goal.invariant_of-result
invariant_of-result c =
    let self = c.args.self in
    let others = without-first _ _ _ (doc c.split.result.0) self.listed refl c.split.ensures.whole in
    record { listed = others.listed; printable = c.split.ensures.printable }

pub returns : goal.returns
returns c =
    let self = c.args.self in
    (without-first _ _ _ (doc c.split.result.0) self.listed refl c.split.ensures.whole).whole
