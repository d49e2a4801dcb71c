use Rattle.std.proofs.Common.{◌∙◌, ap, sym}
use Rattle.std.specs.Option.{option_to_list}
use Rattle.simd_json_path.specs.Filters.{any}
use Rattle.simd_json_path.specs.Nodes.{chosen_by, nodes}
use Rattle.simd_json_path.proofs.Segments.{nodes-none}
use Rattle.simd_json_path.proofs.filter_query.exists.Goals as goal

pub returns-in_default : goal.returns-in_default
returns-in_default c =
    let ss = c.args.query.now.segments.now in
    ap any (sym (nodes-none chosen_by ss)) ∙ ap (λ start. any (nodes chosen_by ss (option_to_list start))) c.in_default.ensures
