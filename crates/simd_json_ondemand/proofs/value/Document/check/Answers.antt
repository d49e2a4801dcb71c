use Rattle.simd_json_ondemand.proofs.Answered.{whole-answered}
use Rattle.simd_json_ondemand.proofs.value.Document.check.Goals as goal

pub new-requires-clause-whole : goal.new-requires-clause-whole
new-requires-clause-whole g c =
    let answered = c.in_ok-check.ensures.document in
    whole-answered c.args.input.now c.args.max_depth answered.0 answered.1
