use Rattle.std.proofs.Common.{◌∙◌, ap, option_map}
use Rattle.std.specs.Result.{result_ok}
use Rattle.simd_json_ondemand.specs.Docs.{doc}
use Rattle.simd_json_ondemand.specs.Sites.{site}
use Rattle.simd_json_parts.specs.Views.{ok_map}
use Rattle.simd_json_ondemand.proofs.Told.{told-map}
use Rattle.simd_json_ondemand.proofs.WalkViews.{idx-found}
use Rattle.simd_json_ondemand.proofs.value.Value.try_get_idx.Goals as goal

pub returns-clause-walk : goal.returns-clause-walk
returns-clause-walk c = ap (ok_map (option_map doc)) c.told.ensures ∙ told-map (option_map doc) c.element.result ∙ c.element.ensures.walk

pub returns-clause-site : goal.returns-clause-site
returns-clause-site c = ap (ok_map (option_map site)) c.told.ensures ∙ told-map (option_map site) c.element.result ∙ c.element.ensures.site

pub returns-clause-document : goal.returns-clause-document
returns-clause-document c = λ d h.
    ap result_ok (ap (ok_map (option_map doc)) c.told.ensures ∙ told-map (option_map doc) c.element.result ∙ c.element.ensures.walk)
    ∙ idx-found c.args.index c.args.self d h
