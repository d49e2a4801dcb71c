use Rattle.std.proofs.Common.{sym, ◌∙◌, ap, ℕ, List, option_map}
use Rattle.simd_json_ondemand.specs.Docs.{text, index_of}
use Rattle.simd_json_ondemand.proofs.Standing.{no-kind, none-of}
use Rattle.simd_json_ondemand.proofs.value.Value.scalar_type.Goals as goal

pub returns-in-None : goal.returns-in-None
returns-in-None c =
    let b : List ℕ = text c.args.self.document in
    let i : ℕ = index_of c.args.self in
    let none-null = none-of c.as_null.result (sym c.is_some.ensures ∙ c.if-is_some.false) in
    let none-bool = none-of c.as_bool.result (sym c.is_some-2.ensures ∙ c.if-is_some-2.false) in
    let none-decimal = none-of c.as_decimal.result (sym c.is_some-3.ensures ∙ c.if-is_some-3.false) in
    sym (no-kind b i c.requires (sym c.as_null.ensures ∙ none-null) (sym c.as_bool.ensures ∙ none-bool)
    (sym c.as_decimal.ensures ∙ ap (option_map (λ s. s.now)) none-decimal) c.in-None.ensures)
