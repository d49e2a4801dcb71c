use Rattle.std.proofs.Common.{◌≡◌, [], ◌∙◌, ap, sym, subst, MatchOption, option_map}
use Rattle.simd_json_ondemand.specs.IteratedMembers.{all_members, members_left}
use Rattle.simd_json_ondemand.specs.Sites.{member_sites, object_sites}
use Rattle.simd_json_ondemand.specs.Stopped.{error_at}
use Rattle.simd_json_ondemand.specs.Walked.{members_ahead}
use Rattle.simd_json_ondemand.specs.Walks.{items}
use Rattle.simd_json_ondemand.proofs.Told.{ok-match, over-stopped}
use Rattle.simd_json_ondemand.proofs.WalkViews.{left-of-whole}
use Rattle.simd_json_ondemand.proofs.value.Value.as_object.Goals as goal

pub returns-clause-document : goal.returns-clause-document
returns-clause-document c = λ d h.
    ap (option_map members_left) c.ok.ensures.value ∙ left-of-whole members_ahead all_members _ _ (c.members.ensures.all d h)

pub returns-clause-all : goal.returns-clause-all
returns-clause-all c = λ d h. ap (option_map members_ahead) c.ok.ensures.value ∙ c.members.ensures.all d h

pub returns-clause-sites : goal.returns-clause-sites
returns-clause-sites c =
    let w = object_sites c.args.self in
    subst (λ o. MatchOption o (items w ≡ []) (λ x. w ≡ member_sites x)) (sym c.ok.ensures.value)
    (ok-match _ _ _ c.members.result (λ s. over-stopped w (error_at s)) c.members.ensures.sites)
