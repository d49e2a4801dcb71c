use Rattle.std.proofs.Common.{◌∙◌, ap, sym}
use Rattle.std.specs.Option.{option_to_list}
use Rattle.simd_json_path.specs.Nodes.{chosen_by, nodes}
use Rattle.simd_json_path.specs.NthNode.{nth_of}
use Rattle.simd_json_path.proofs.Segments.{nodes-none}
use Rattle.simd_json_path.proofs.filter_query.nth.Goals as goal

pub returns-in-None : goal.returns-in-None
returns-in-None c =
    let ss = c.args.query.now.segments.now in
    ap (λ ds. nth_of ds c.args.index) (sym (nodes-none chosen_by ss))
    ∙ ap (λ start. nth_of (nodes chosen_by ss (option_to_list start)) c.args.index) c.in-None.ensures
