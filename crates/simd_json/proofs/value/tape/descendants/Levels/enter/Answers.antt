use Rattle.std.proofs.Common.{arith}
use Rattle.simd_json.specs.Viewed.{doc}
use Rattle.simd_json.proofs.Views.Descending.{container-opened}
use Rattle.simd_json.proofs.value.tape.descendants.Levels.enter.Goals as goal

pub returns : goal.returns
returns g c =
    container-opened c.args.self.now.all c.args.self.now.innermost _ (doc c.args.value.now) _ (omega arith) (omega arith) c.in-Some.ensures
