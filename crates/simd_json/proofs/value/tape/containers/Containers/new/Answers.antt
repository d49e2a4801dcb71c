use Rattle.simd_json.specs.Descending.{in_row}
use Rattle.simd_json.specs.Viewed.{doc}
use Rattle.simd_json.proofs.Views.Containers.{containers-alone}
use Rattle.simd_json.proofs.value.tape.containers.Containers.new.Goals as goal

pub returns : goal.returns
returns c = containers-alone (doc c.args.value) (in_row c.new.result) c.new.ensures.row
