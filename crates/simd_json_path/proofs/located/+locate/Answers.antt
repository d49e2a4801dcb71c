use Rattle.std.proofs.Common.{◌∙◌, ap, sym, ◌<◌, ◌^◌, ◌++◌, length, arith}
use Rattle.std.proofs.lemmas.List.{length-map}
use Rattle.simd_json.specs.Sizes.{size}
use Rattle.simd_json.specs.Viewed.{doc}
use Rattle.simd_json_parts.specs.Nodes.{item_of}
use Rattle.simd_json_path.specs.Locations.{by_segment, located_from, placed_children}
use Rattle.simd_json_path.specs.PlacedNodes.{found, placed_left, texts, way_of}
use Rattle.simd_json_path.proofs.LocatedNodes.{added-some, beneath, children-smaller, of-node, size-listing, steps_left}
use Rattle.simd_json_path.proofs.located.+locate.Goals as goal

pub locate_beneath-children-init : goal.locate_beneath-children-init
locate_beneath-children-init t c =
    let n = c.args.node.now in
    let root = doc c.args.root in
    let each = by_segment root (located_from root c.args.others.now) c.args.segment.now in
    let way = way_of n.location in
    let d = doc n.value in
    let old = found c.args.located.now.items in
    record {
      all = ap (λ cs. found c.locate_by.new.located.items ++ texts (beneath each way cs)) c.of-children.ensures
          ∙ added-some old (found c.locate_by.new.located.items) _ (each (way, d)) (beneath each way (placed_children d))
          (ap (λ ns. old ++ texts ns) (sym (of-node each way d))) c.in_ok-locate_by.ensures;
      smaller = children-smaller (placed_left c.of-children.result) d c.of-children.ensures;
    }

pub locate_from-locate_beneath-requires : goal.locate_from-locate_beneath-requires
locate_from-locate_beneath-requires t c =
    let d = doc c.args.node.now.value in
    let more = ap steps_left c.in-Some.ensures.cases.0 in
    let nodes = c.nodes-nodes.result.now in
    let few : size d < 2 ^ 64 =
    omega (arith, size-listing d, ap length c.nodes-nodes.ensures.listed, length-map nodes item_of, c.nodes-nodes.ensures.few) in
    (omega (arith, more, few, c.decreases), tt)
