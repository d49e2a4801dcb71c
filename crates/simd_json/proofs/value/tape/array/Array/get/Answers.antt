use Rattle.std.proofs.lemmas.Iterator.Consumers.{nth_from_yields_List, YieldsList-from_first}
use Rattle.simd_json.specs.Iterated.{elements_left}
use Rattle.simd_json.specs.Viewed.{doc}
use Rattle.simd_json.proofs.value.tape.array.Array.get.Goals as goal

pub returns : goal.returns
returns c = nth_from_yields_List _ c.nth.new.self _ c.nth.ensures.ran (YieldsList-from_first doc elements_left _ c.iter.ensures)
