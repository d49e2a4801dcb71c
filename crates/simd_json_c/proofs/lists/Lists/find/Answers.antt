use Rattle.std.proofs.Common.{◌≡◌, ◌∙◌, ap, refl, subst, map}
use Rattle.simd_json_ondemand.specs.Docs.{places}
use Rattle.simd_json_ondemand.specs.Prepared.{pointer_text}
use Rattle.simd_json_c.specs.Fields.{AreFieldsPut}
use Rattle.simd_json_c.proofs.Several.{fields-put}
use Rattle.simd_json_c.proofs.lists.Lists.find.Goals as goal

pub returns-clause-found : goal.returns-clause-found
returns-clause-found c =
    let b = c.args.input.now in
    let d = c.new-document.result in
    let old = c.args.fields.now in
    let new = c.put_fields.new.fields in
    let place = c.as_value.ensures.place ∙ ap (λ t. (t, places d)) c.new-document.ensures.input
    ∙ ap (λ ps. (b, ps)) c.new-document.ensures.indexes in (
      refl,
      c.in_ok-scan.ensures.whole,
      subst (λ ps. AreFieldsPut (map pointer_text ps) b old new) (c.as_slice.ensures.value ∙ ap (λ l. l.wanted.items) c.self.view_is)
          (fields-put b c.as_value.result c.as_slice.result.now old new place
          (λ e limit a. c.as_value.ensures.document ∙ c.new-document.ensures.document e limit a) c.put_fields.ensures),
    )
