use Rattle.simd_json_path.proofs.Singular.{singular-one}
use Rattle.simd_json_path.proofs.laws.a_singular_query_selects_at_most_one.Goals as goal

pub returns : goal.returns
returns c = singular-one
