use Rattle.std.proofs.Common.{◌∙◌, ap, sym, Some, rules, w32}
use Rattle.std.proofs.lemmas.Int.{to_z-of_z}
use mir.Val.{SFits}
use Rattle.simd_json_c.proofs.demand.simd_json_parser_pointer.Goals as goal

pub returns-in-Some : goal.returns-in-Some
returns-in-Some c =
    let fits : SFits w32 c.put_named-status.result = search rules in
    let same = ap Some (sym c.deref.ensures) in
    let was = sym (ap (λ p. p.held.value) c.replace.ensures.value) ∙ c.in-Some.ensures ∙ same in
    rw to_z-of_z (c.open.ensures ∙ same ∙ sym was, rw was c.put_named-status.ensures)
