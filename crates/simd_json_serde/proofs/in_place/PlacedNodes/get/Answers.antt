use Rattle.std.proofs.Common.{◌∙◌, Some, ap, sym, option_map}
use Rattle.std.proofs.lemmas.Option.{slice_get-map}
use Rattle.simd_json_serde.specs.KeptNodes.{item_in}
use Rattle.simd_json_serde.proofs.in_place.PlacedNodes.get.Goals as goal

pub returns-in-Some : goal.returns-in-Some
returns-in-Some c =
    let p = c.args.self.now in
    ap Some c.node_in.ensures ∙ ap (option_map (item_in p.input.now)) c.in-Some.ensures.found
    ∙ sym (slice_get-map (item_in p.input.now) p.nodes.now c.args.at)
