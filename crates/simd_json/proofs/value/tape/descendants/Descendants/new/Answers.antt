use Rattle.std.proofs.lemmas.List.{length-replicate}
use Rattle.simd_json.specs.Descending.{in_row}
use Rattle.simd_json.specs.Viewed.{doc}
use Rattle.simd_json.proofs.Views.Descending.{first-left, first-few}
use Rattle.simd_json.proofs.value.tape.descendants.Descendants.new.Goals as goal

pub returns-clause-values : goal.returns-clause-values
returns-clause-values g c =
    first-left g.row.DEPTH _ (doc c.args.value) (in_row c.new.result) (length-replicate g.row.DEPTH _) c.new.ensures.row

pub returns-clause-few : goal.returns-clause-few
returns-clause-few g c =
    first-few g.row.DEPTH _ (doc c.args.value) (in_row c.new.result) (length-replicate g.row.DEPTH _) c.new.ensures.row c.new.ensures.few
