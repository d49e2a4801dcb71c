use Rattle.std.proofs.Common.{◌≤◌, ap, ◌∙◌, subst, drop, length}
use Rattle.simd_json_parts.specs.TokensAlong.{tokens_along}
use Rattle.simd_json_ondemand.proofs.Skipping.{Spanned, Spans, value_from-spans}
use Rattle.simd_json_ondemand.proofs.laws.brackets_tell_where_values_end.Goals as goal

pub returns : goal.returns
returns c b missing levels is d rest e =
    let s : Spanned b is rest = subst (Spans b is) e (value_from-spans b missing levels is) in
    (s.passed.along ∙ ap (λ n. tokens_along b (drop n is)) s.whole, subst (λ n. n ≤ length is) s.whole s.passed.within)
