use Rattle.std.proofs.Common.{sym, subst, [], ◌≡◌, MatchOption, Some}
use Rattle.simd_json_parts.specs.Document.{string}
use Rattle.simd_json_ondemand.specs.Docs.{doc}
use Rattle.simd_json_ondemand.specs.Walked.{members_ahead, members_from_first}
use Rattle.simd_json_ondemand.specs.Walks.{came, items, walk_round}
use Rattle.simd_json_ondemand.proofs.Told.{seeks}
use Rattle.simd_json_ondemand.proofs.object.Object.find.Goals as goal

pub returns-clause-found : goal.returns-clause-found
returns-clause-found c =
    let o = c.args.self.now in
    let new = c.find_round.new.self in
    let w = walk_round c.args.key.now (members_ahead o) (members_from_first o) in
    subst (λ r. MatchOption r ((items w ≡ []) × (new ≡ o)) (λ v. w ≡ came (Some (string c.args.key.now), doc v) (members_ahead new)))
    (sym c.found.ensures) (seeks w _ _ c.find_round.result c.find_round.ensures.found)
