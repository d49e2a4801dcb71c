use Rattle.std.proofs.Common.{◌∙◌, ap, sym, Some, rules, w32}
use Rattle.std.proofs.lemmas.Int.{to_z-of_z}
use mir.Val.{SFits}
use Rattle.simd_json_c.proofs.Calling.{parsed-with}
use Rattle.simd_json_c.proofs.lent.simd_json_parser_parse.Goals as goal

pub returns-in-Some : goal.returns-in-Some
returns-in-Some c =
    let fits : SFits w32 c.reported.result = search rules in
    let was = sym (ap (λ p. p.held.value) c.replace.ensures.value) ∙ c.in-Some.ensures ∙ ap Some (sym c.deref_mut.ensures.value) in
    let s = c.parse-outcome.ensures in
    let told = c.reported.ensures in
    rw to_z-of_z
    (parsed-with _ _ _ _ _ _ _ c.parse-outcome.result _ _ _ _ (was, c.open.ensures, s.kept) (told.place, told.status)
    s.lent s.rejected)
