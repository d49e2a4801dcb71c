use Rattle.std.proofs.Common.{ap}
use Rattle.simd_json_parts.specs.Nodes.{item_of, object_item}
use Rattle.simd_json_serde.specs.Places.{spot}
use Rattle.simd_json_serde.proofs.Values.{opened}
use Rattle.simd_json_serde.proofs.format.NodeReaderFormat.begin_map.Goals as goal

pub returns-in-Object-clause-given : goal.returns-in-Object-clause-given
returns-in-Object-clause-given c = opened c.enter.result object_item (spot c.args.self.now) (spot c.take.new.self)
    (spot c.enter.new.self)
    (item_of c.in_ok-other.other) _ _ c.in_ok-other.ensures.taken
    (ap item_of c.in-Object.is) c.enter.ensures.entered
