use Rattle.std.proofs.Common.{◌∙◌, ap, sym, length, rules}
use Rattle.simd_json.specs.Descending.{in_row}
use Rattle.simd_json.specs.Viewed.{doc}
use Rattle.simd_json.proofs.Views.Containers.{container-left, scalar-left}
use Rattle.simd_json.proofs.value.tape.containers.ContainersIterator.next.Goals as goal

pub returns-then-is_container-clause-steps : goal.returns-then-is_container-clause-steps
returns-then-is_container-clause-steps c =
    sym c.nodes.invariant
    ∙ container-left (in_row c.nodes.self.row) (in_row c.enter-self.result) _ (doc c.in-Some.value) c.in-Some.ensures
    c.enter-self.ensures.row (sym c.is_container.ensures ∙ c.if-is_container.true)

pub nodes-preserved : goal.nodes-preserved
nodes-preserved c =
    scalar-left (in_row c.nodes.self.row) (in_row c.enter-self.result) _ (doc c.in-Some.value) c.in-Some.ensures
    c.enter-self.ensures.row (sym c.is_container.ensures ∙ c.if-is_container.false)
    ∙ c.nodes.invariant

pub returns-then-is_container-clause-goes : goal.returns-then-is_container-clause-goes
returns-then-is_container-clause-goes c = let fewer = ap length (returns-then-is_container-clause-steps c) in search rules
