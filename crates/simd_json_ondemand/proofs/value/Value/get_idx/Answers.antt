use Rattle.std.proofs.Common.{◌∙◌}
use Rattle.simd_json_ondemand.specs.Docs.{doc}
use Rattle.simd_json_ondemand.specs.Sites.{site}
use Rattle.simd_json_ondemand.proofs.Told.{found-is}
use Rattle.simd_json_ondemand.proofs.WalkViews.{idx-got}
use Rattle.simd_json_ondemand.proofs.value.Value.get_idx.Goals as goal

pub returns-clause-site : goal.returns-clause-site
returns-clause-site c = found-is site c.element.result c.found.result _ c.found.ensures c.element.ensures.site

pub returns-clause-document : goal.returns-clause-document
returns-clause-document c = λ d h.
    found-is doc c.element.result c.found.result _ c.found.ensures c.element.ensures.walk ∙ idx-got c.args.index c.args.self d h
