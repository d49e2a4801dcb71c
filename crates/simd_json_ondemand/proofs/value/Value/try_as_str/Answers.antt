use Rattle.std.proofs.Common.{sym, ◌∙◌, ap, ℕ, List}
use Rattle.simd_json_stages.proofs.Tokens.TokenForms.{quotes}
use Rattle.simd_json_ondemand.specs.Docs.{text, index_of}
use Rattle.simd_json_ondemand.specs.Walked.{unexpected_here, string_wanted}
use Rattle.simd_json_ondemand.proofs.WalkViews.{no-string-wanted}
use Rattle.simd_json_ondemand.proofs.value.Value.try_as_str.Goals as goal

pub returns-in-None : goal.returns-in-None
returns-in-None c =
    let v = c.args.self in
    let b : List ℕ = text v.document in
    let i : ℕ = index_of v in (
      c.unexpected.ensures
          ∙ ap (λ form. unexpected_here (string_wanted form) v) (sym (quotes b i (sym c.first.ensures ∙ c.if-first-eq34.true))),
      c.in-None.ensures,
    )

pub returns-in-None-2 : goal.returns-in-None-2
returns-in-None-2 c =
    let v = c.args.self in
    let b : List ℕ = text v.document in
    let i : ℕ = index_of v in (
      c.unexpected-in-None-2.ensures
          ∙ ap (λ expected. unexpected_here expected v) (sym (no-string-wanted b i (λ e. c.if-first-eq34.false (c.first.ensures ∙ e)))),
      c.in-None.ensures,
    )
