use Rattle.std.proofs.Common.{◌-◌, arith}
use Rattle.simd_json_serde.specs.Nodes.{items_of}
use Rattle.simd_json_serde.specs.Paths.{elements_way}
use Rattle.simd_json_serde.proofs.Paths.{element-found, element-passed, elements-end}
use Rattle.simd_json_serde.proofs.path.element_around.Goals as goal

pub returns-then-node-next : goal.returns-then-node-next
returns-then-node-next c = λ ds h ends before.
    let a = c.args in
    let l = c.loop-element in
    let found =
    element-found (items_of a.nodes) a.end a.node (λ depth. elements_way ds 0 depth (a.node - a.first)) l.element l.index
    c.after-next.result c.after-next.ensures.value c.loop-element-test.true (l.invariant.1 ds h ends before) c.if-node-next.true in
    (found.document, found.begin, found.same)

pub loop-element-preserved : goal.loop-element-preserved
loop-element-preserved c =
    let a = c.args in
    let l = c.loop-element in (
      (let more = c.after-next.ensures.further (omega (arith, c.loop-element-test.true, c.ranges.end.fits)) in
          omega (arith, more, l.invariant.0)),
      λ ds h ends before.
          element-passed (items_of a.nodes) a.end a.node (λ depth. elements_way ds 0 depth
          (a.node - a.first)) l.element l.index c.after-next.result
          c.after-next.ensures.value c.loop-element-test.true (l.invariant.1 ds h ends before) (omega (arith, c.if-node-next.false)),
    )

pub returns : goal.returns
returns c = λ ds h ends before.
    let a = c.args in
    let l = c.loop-element in
    elements-end (items_of a.nodes) a.end a.node (λ depth. elements_way ds 0 depth (a.node - a.first)) l.element l.index
    (l.invariant.1 ds h ends before) (omega (arith, c.loop-element-test.false))
