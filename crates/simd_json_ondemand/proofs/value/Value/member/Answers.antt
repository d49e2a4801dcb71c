use Rattle.std.proofs.Common.{refl, sym, ◌∙◌, ap}
use Rattle.simd_json_ondemand.specs.Reached.{key_reached}
use Rattle.simd_json_ondemand.specs.Sites.{member_sites, object_sites}
use Rattle.simd_json_ondemand.specs.Stopped.{error_at}
use Rattle.simd_json_ondemand.specs.Walked.{member_with, members_ahead}
use Rattle.simd_json_ondemand.proofs.Sites.{key-stop}
use Rattle.simd_json_ondemand.proofs.WalkViews.{found-with, stopped-with}
use Rattle.simd_json_ondemand.proofs.value.Value.member.Goals as goal

pub returns-in-Ok-clause-walk : goal.returns-in-Ok-clause-walk
returns-in-Ok-clause-walk c =
    found-with c.new.result.key.now c.find_left.result _ _ _ c.find_left.ensures.found
    ∙ ap (λ k. member_with k (members_ahead c.in-Ok.members)) c.new.ensures ∙ ap (member_with c.args.key.now) (sym c.in-Ok.ensures.walk)

pub returns-in-Err-clause-walk : goal.returns-in-Err-clause-walk
returns-in-Err-clause-walk c =
    let key = c.args.key.now in
    sym (ap (member_with key) c.in-Err.ensures.walk ∙ stopped-with key (error_at c.in-Err.stop))

pub returns-in-Ok-clause-site : goal.returns-in-Ok-clause-site
returns-in-Ok-clause-site c =
    c.find_left.ensures.site ∙ ap (λ k. key_reached k (member_sites c.in-Ok.members)) c.new.ensures
    ∙ ap (key_reached c.args.key.now) (sym c.in-Ok.ensures.sites)

pub returns-in-Err-clause-site : goal.returns-in-Err-clause-site
returns-in-Err-clause-site c =
    let w = object_sites c.args.self in
    key-stop c.args.key.now w w refl (error_at c.in-Err.stop) c.in-Err.ensures.sites
