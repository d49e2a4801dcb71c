use Rattle.std.proofs.Common.{◌≡◌, ◌∙◌, ap, sym, subst, MatchResult, option_map}
use Rattle.std.specs.Result.{result_ok}
use Rattle.simd_json_ondemand.specs.IteratedMembers.{all_members, members_left}
use Rattle.simd_json_ondemand.specs.Sites.{member_sites, object_sites}
use Rattle.simd_json_ondemand.specs.Walked.{object_walk, members_ahead}
use Rattle.simd_json_ondemand.specs.Walks.{stopped}
use Rattle.simd_json_ondemand.proofs.Told.{told-match, told-ok}
use Rattle.simd_json_ondemand.proofs.WalkViews.{left-of-whole}
use Rattle.simd_json_ondemand.proofs.value.Value.try_as_object.Goals as goal

pub returns-clause-walk : goal.returns-clause-walk
returns-clause-walk c =
    let w = object_walk c.args.self in
    subst (λ r. MatchResult r (λ x. w ≡ members_ahead x) (λ e. w ≡ stopped e)) (sym c.told.ensures)
    (told-match _ (λ e. w ≡ stopped e) c.members.result c.members.ensures.walk)

pub returns-clause-sites : goal.returns-clause-sites
returns-clause-sites c =
    let w = object_sites c.args.self in
    subst (λ r. MatchResult r (λ x. w ≡ member_sites x) (λ e. w ≡ stopped e)) (sym c.told.ensures)
    (told-match _ (λ e. w ≡ stopped e) c.members.result c.members.ensures.sites)

pub returns-clause-document : goal.returns-clause-document
returns-clause-document c = λ d h.
    ap (option_map members_left) (ap result_ok c.told.ensures ∙ told-ok c.members.result)
    ∙ left-of-whole members_ahead all_members _ _ (c.members.ensures.all d h)

pub returns-clause-all : goal.returns-clause-all
returns-clause-all c = λ d h.
    ap (option_map members_ahead) (ap result_ok c.told.ensures ∙ told-ok c.members.result) ∙ c.members.ensures.all d h
