use Rattle.std.proofs.Common.{◌≡◌, [], ◌∙◌, ap, sym, subst, MatchOption, option_map}
use Rattle.simd_json_ondemand.specs.Iterated.{all_some, elements_to_come}
use Rattle.simd_json_ondemand.specs.Sites.{element_sites, array_sites}
use Rattle.simd_json_ondemand.specs.Stopped.{error_at}
use Rattle.simd_json_ondemand.specs.Walked.{elements_ahead}
use Rattle.simd_json_ondemand.specs.Walks.{items}
use Rattle.simd_json_ondemand.proofs.Told.{ok-match, over-stopped}
use Rattle.simd_json_ondemand.proofs.WalkViews.{left-of-whole}
use Rattle.simd_json_ondemand.proofs.value.Value.as_array.Goals as goal

pub returns-clause-document : goal.returns-clause-document
returns-clause-document c = λ d h.
    ap (option_map elements_to_come) c.ok.ensures.value ∙ left-of-whole elements_ahead all_some _ _ (c.elements.ensures.all d h)

pub returns-clause-all : goal.returns-clause-all
returns-clause-all c = λ d h. ap (option_map elements_ahead) c.ok.ensures.value ∙ c.elements.ensures.all d h

pub returns-clause-sites : goal.returns-clause-sites
returns-clause-sites c =
    let w = array_sites c.args.self in
    subst (λ o. MatchOption o (items w ≡ []) (λ x. w ≡ element_sites x)) (sym c.ok.ensures.value)
    (ok-match _ _ _ c.elements.result (λ s. over-stopped w (error_at s)) c.elements.ensures.sites)
