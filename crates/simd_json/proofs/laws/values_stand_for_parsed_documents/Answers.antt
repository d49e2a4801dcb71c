use Rattle.std.proofs.Common.{◌≡◌, ◌∙◌, subst, sym, Ok}
use Rattle.simd_json_parts.specs.Answer.{answer}
use Rattle.simd_json_parts.specs.Grammar.{Denotes}
use Rattle.simd_json_parts.specs.Limits.{WithinLimits}
use Rattle.simd_json.proofs.Views.Listed.{known}
use Rattle.simd_json.proofs.laws.values_stand_for_parsed_documents.Goals as goal

pub returns : goal.returns
returns c b limit capacity nodes listed d parse is =
    let p = parse.parsed in
    subst (λ e. Denotes b e × WithinLimits b e limit × (answer b limit ≡ Ok e)) (known p.document d (sym p.listed ∙ sym is))
    (p.denoted, p.within, p.answered)
