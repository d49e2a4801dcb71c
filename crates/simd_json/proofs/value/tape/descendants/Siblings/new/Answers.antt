use Rattle.std.proofs.lemmas.List.{length-map}
use Rattle.std.proofs.Common.{arith, length, ◌∙◌, ap, map, subst, sym}
use Rattle.simd_json.specs.Documents.{AreElementNodes, elements_of}
use Rattle.simd_json.specs.Printable.{ArePrintable}
use Rattle.simd_json_parts.specs.Nodes.{item_of}
use Rattle.simd_json.proofs.Views.Descending.{row-of}
use Rattle.simd_json.proofs.value.tape.descendants.Siblings.new.Goals as goal

pub invariant_of-result : goal.invariant_of-result
invariant_of-result c = record {
  listed = subst (λ xs. AreElementNodes (map item_of xs)) (sym c.nodes.ensures.nodes) (row-of _ c.args.value.listed).listed;
  printable = subst ArePrintable (sym c.nodes.ensures.nodes) c.args.value.printable;
}

pub returns-clause-row : goal.returns-clause-row
returns-clause-row c = ap (λ xs. elements_of (map item_of xs)) c.nodes.ensures.nodes ∙ (row-of _ c.args.value.listed).whole

pub returns-clause-few : goal.returns-clause-few
returns-clause-few c =
    let value = c.args.value in
    omega (arith, ap length c.nodes.ensures.nodes, length-map value.nodes.now item_of, ap length value.listed)
