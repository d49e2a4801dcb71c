use Rattle.std.proofs.Common.{◌∙◌, ap, option_map}
use Rattle.simd_json_ondemand.specs.Docs.{doc}
use Rattle.simd_json_ondemand.specs.Sites.{site}
use Rattle.simd_json_ondemand.specs.Walks.{found}
use Rattle.simd_json_parts.specs.Views.{ok_map}
use Rattle.simd_json_ondemand.proofs.Told.{found-in-told, told-map}
use Rattle.simd_json_ondemand.proofs.value.Value.try_pointer.Goals as goal

pub returns-clause-walk : goal.returns-clause-walk
returns-clause-walk c = ap (ok_map (option_map site)) c.told.ensures ∙ told-map (option_map site) c.follow.result ∙ c.follow.ensures.walk

pub returns-clause-document : goal.returns-clause-document
returns-clause-document c = λ d h.
    ap (λ r. option_map doc (found r)) c.told.ensures ∙ ap (option_map doc) (found-in-told c.follow.result) ∙ c.follow.ensures.document d h
