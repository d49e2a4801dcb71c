use Rattle.std.proofs.Common.{ap, sym, subst, [], ◌∷◌, ◌≡◌, MatchOption}
use Rattle.simd_json_ondemand.specs.IteratedMembers.{members_left, pair_doc}
use Rattle.simd_json_ondemand.specs.Sites.{member_sites, pair_site}
use Rattle.simd_json_ondemand.specs.Walked.{members_ahead}
use Rattle.simd_json_ondemand.specs.Walks.{came, items}
use Rattle.simd_json_ondemand.proofs.Told.{comes, goes, yields}
use Rattle.simd_json_ondemand.proofs.object.Object.next_member.Goals as goal

pub returns-clause-steps : goal.returns-clause-steps
returns-clause-steps c =
    let new = c.step.new.self in
    subst (λ o. MatchOption o ((members_left c.args.self.now ≡ []) × (members_left new ≡ []))
    (λ x. members_left c.args.self.now ≡ pair_doc x ∷ members_left new)) (sym c.found.ensures)
    (yields pair_doc (members_ahead c.args.self.now) (members_ahead new) _ c.step.result (ap members_ahead) c.step.ensures.steps)

pub returns-clause-ahead : goal.returns-clause-ahead
returns-clause-ahead c =
    let w = members_ahead c.args.self.now in
    let more = members_ahead c.step.new.self in
    subst (λ o. MatchOption o (items w ≡ []) (λ x. w ≡ came (pair_doc x) more)) (sym c.found.ensures)
    (goes pair_doc w more _ c.step.result c.step.ensures.steps)

pub returns-clause-sites : goal.returns-clause-sites
returns-clause-sites c =
    let w = member_sites c.args.self.now in
    let more = member_sites c.step.new.self in
    subst (λ o. MatchOption o (items w ≡ []) (λ x. w ≡ came (pair_site x) more)) (sym c.found.ensures)
    (comes pair_site w more c.step.result c.step.ensures.sites)
