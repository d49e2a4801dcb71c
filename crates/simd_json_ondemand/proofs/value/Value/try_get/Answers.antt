use Rattle.std.proofs.Common.{◌∙◌, ap, option_map}
use Rattle.std.specs.Result.{result_ok}
use Rattle.simd_json_ondemand.specs.Docs.{doc}
use Rattle.simd_json_ondemand.specs.Sites.{site}
use Rattle.simd_json_parts.specs.Views.{ok_map}
use Rattle.simd_json_ondemand.proofs.Told.{told-map}
use Rattle.simd_json_ondemand.proofs.WalkViews.{get-found}
use Rattle.simd_json_ondemand.proofs.value.Value.try_get.Goals as goal

pub returns-clause-walk : goal.returns-clause-walk
returns-clause-walk c = ap (ok_map (option_map doc)) c.told.ensures ∙ told-map (option_map doc) c.member.result ∙ c.member.ensures.walk

pub returns-clause-site : goal.returns-clause-site
returns-clause-site c = ap (ok_map (option_map site)) c.told.ensures ∙ told-map (option_map site) c.member.result ∙ c.member.ensures.site

pub returns-clause-document : goal.returns-clause-document
returns-clause-document c = λ d h.
    ap result_ok (ap (ok_map (option_map doc)) c.told.ensures ∙ told-map (option_map doc) c.member.result ∙ c.member.ensures.walk)
    ∙ get-found c.args.key.now c.args.self d h
