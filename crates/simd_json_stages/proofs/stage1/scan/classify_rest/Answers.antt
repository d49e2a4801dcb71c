use Rattle.simd_json_stages.proofs.Scan.RestLaws.{IsBlock-last, IsBlock-rest}
use Rattle.simd_json_stages.proofs.stage1.scan.classify_rest.Goals as goal

pub returns-in-Some : goal.returns-in-Some
returns-in-Some c =
    let chunk = c.in-Some.ensures.cases in
    c.classify_last.ensures c.args.input.now _
    (IsBlock-last c.args.input.now c.args.rest.now c.in-Some.last.now c.requires.rest chunk.0 chunk.1.same) c.requires.before

pub returns-in-None : goal.returns-in-None
returns-in-None c = c.classify.ensures.classified c.args.input.now _
    (IsBlock-rest c.args.input.now c.args.rest.now _ c.requires.rest c.copy_from_slice.ensures.after) c.requires.before
