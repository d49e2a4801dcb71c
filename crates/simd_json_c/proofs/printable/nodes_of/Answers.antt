use Rattle.std.proofs.Common.{◌≡◌, sym, ◌∙◌, ap, ap₂, arith, ◌∷◌, ◌++◌, [], map}
use Rattle.std.proofs.lemmas.List.{map-append}
use Rattle.simd_json_parts.specs.Nodes.{item_of}
use Rattle.simd_json_c.proofs.Printing.{made, next-item}
use Rattle.simd_json_c.proofs.printable.nodes_of.Goals as goal

pub loop-at-preserved : goal.loop-at-preserved
loop-at-preserved c items are whole printable =
    let e = c.node_of.ensures in
    let next = next-item c.args.text.now _ items c.args.cells.now c.loop-at.at are (omega (arith, whole, c.loop-at-test.true)) printable in
    let is : item_of c.node_of.result ≡ next.item =
    made c.args.text.now _ (item_of c.node_of.result) next.item next.node next.printable
    e.null e.truth e.signed e.unsigned e.wide e.decimal e.string e.array e.object in
    ap (map item_of) c.in_ok-push.ensures.items
    ∙ map-append item_of c.loop-at.nodes.items (c.node_of.result ∷ [])
    ∙ ap₂ (λ xs x. xs ++ x ∷ []) (c.loop-at.invariant items are whole printable) is
    ∙ sym next.longer
