use Rattle.std.proofs.Common.{ap, sym, subst, [], ◌∷◌, ◌≡◌, MatchOption}
use Rattle.simd_json_ondemand.specs.Docs.{doc}
use Rattle.simd_json_ondemand.specs.Iterated.{elements_to_come}
use Rattle.simd_json_ondemand.specs.Sites.{element_sites, site}
use Rattle.simd_json_ondemand.specs.Walked.{elements_ahead}
use Rattle.simd_json_ondemand.specs.Walks.{came, items}
use Rattle.simd_json_ondemand.proofs.Told.{comes, goes, yields}
use Rattle.simd_json_ondemand.proofs.array.Array.next_value.Goals as goal

pub returns-clause-steps : goal.returns-clause-steps
returns-clause-steps c =
    let new = c.step.new.self in
    subst (λ o. MatchOption o ((elements_to_come c.args.self.now ≡ []) × (elements_to_come new ≡ []))
    (λ x. elements_to_come c.args.self.now ≡ doc x ∷ elements_to_come new)) (sym c.found.ensures)
    (yields doc (elements_ahead c.args.self.now) (elements_ahead new) _ c.step.result (ap elements_ahead) c.step.ensures.steps)

pub returns-clause-ahead : goal.returns-clause-ahead
returns-clause-ahead c =
    let w = elements_ahead c.args.self.now in
    let more = elements_ahead c.step.new.self in
    subst (λ o. MatchOption o (items w ≡ []) (λ x. w ≡ came (doc x) more)) (sym c.found.ensures)
    (goes doc w more _ c.step.result c.step.ensures.steps)

pub returns-clause-sites : goal.returns-clause-sites
returns-clause-sites c =
    let w = element_sites c.args.self.now in
    let more = element_sites c.step.new.self in
    subst (λ o. MatchOption o (items w ≡ []) (λ x. w ≡ came (site x) more)) (sym c.found.ensures)
    (comes site w more c.step.result c.step.ensures.sites)
