use Rattle.std.proofs.Common.{◌≡◌, sym, ◌∙◌, subst, Some}
use Rattle.simd_json_ondemand.specs.Viewed.{read_along}
use Rattle.simd_json_ondemand.proofs.Answered.{read-answered}
use Rattle.simd_json_ondemand.proofs.value.Document.new.Goals as goal

pub returns-clause-document : goal.returns-clause-document
returns-clause-document g c d limit h =
    subst (λ is. read_along c.args.input.now is ≡ Some d) (sym (c.structural_indexes.ensures ∙ c.requires.indexes))
    (read-answered c.args.input.now limit d h)
