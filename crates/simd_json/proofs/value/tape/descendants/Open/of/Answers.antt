use Rattle.simd_json.specs.Viewed.{doc, docs, pairs}
use Rattle.simd_json.proofs.Views.Descending.{array-opened, object-opened}
use Rattle.simd_json.proofs.value.tape.descendants.Open.of.Goals as goal

pub returns-in-Some : goal.returns-in-Some
returns-in-Some c = array-opened (doc c.args.value.now) (docs c.in-Some.array) c.len.result c.in-Some.ensures.array c.len.ensures

pub returns : goal.returns
returns c = object-opened (doc c.args.value.now) (pairs c.in_ok-object.object) c.len-2.result c.in_ok-object.ensures.object c.len-2.ensures
