use Rattle.simd_json_theorems.proofs.Documents.NodeEquality.{same_items-listing}
use Rattle.simd_json_theorems.proofs.laws.documents_are_compared_node_by_node.Goals as goal

pub returns : goal.returns
returns c = same_items-listing
