use Rattle.std.proofs.Common.{◌≡◌, ◌∙◌, ap, sym, subst, MatchResult, option_map}
use Rattle.std.specs.Result.{result_ok}
use Rattle.simd_json_ondemand.specs.Iterated.{all_some, elements_to_come}
use Rattle.simd_json_ondemand.specs.Sites.{element_sites, array_sites}
use Rattle.simd_json_ondemand.specs.Walked.{array_walk, elements_ahead}
use Rattle.simd_json_ondemand.specs.Walks.{stopped}
use Rattle.simd_json_ondemand.proofs.Told.{told-match, told-ok}
use Rattle.simd_json_ondemand.proofs.WalkViews.{left-of-whole}
use Rattle.simd_json_ondemand.proofs.value.Value.try_as_array.Goals as goal

pub returns-clause-walk : goal.returns-clause-walk
returns-clause-walk c =
    let w = array_walk c.args.self in
    subst (λ r. MatchResult r (λ x. w ≡ elements_ahead x) (λ e. w ≡ stopped e)) (sym c.told.ensures)
    (told-match _ (λ e. w ≡ stopped e) c.elements.result c.elements.ensures.walk)

pub returns-clause-sites : goal.returns-clause-sites
returns-clause-sites c =
    let w = array_sites c.args.self in
    subst (λ r. MatchResult r (λ x. w ≡ element_sites x) (λ e. w ≡ stopped e)) (sym c.told.ensures)
    (told-match _ (λ e. w ≡ stopped e) c.elements.result c.elements.ensures.sites)

pub returns-clause-document : goal.returns-clause-document
returns-clause-document c = λ d h.
    ap (option_map elements_to_come) (ap result_ok c.told.ensures ∙ told-ok c.elements.result)
    ∙ left-of-whole elements_ahead all_some _ _ (c.elements.ensures.all d h)

pub returns-clause-all : goal.returns-clause-all
returns-clause-all c = λ d h.
    ap (option_map elements_ahead) (ap result_ok c.told.ensures ∙ told-ok c.elements.result) ∙ c.elements.ensures.all d h
