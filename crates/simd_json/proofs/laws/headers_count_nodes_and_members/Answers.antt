use Rattle.simd_json.proofs.Views.Listed.{counted}
use Rattle.simd_json.proofs.laws.headers_count_nodes_and_members.Goals as goal

pub returns : goal.returns
returns c = counted
