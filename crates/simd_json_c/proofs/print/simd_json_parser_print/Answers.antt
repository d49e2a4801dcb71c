use Rattle.std.proofs.Common.{◌∙◌, ap, sym, subst, Some, rules, w32}
use Rattle.std.proofs.lemmas.Int.{to_z-of_z}
use mir.Val.{SFits}
use Rattle.simd_json_c.specs.Chosen.{IsPrintedWith}
use Rattle.simd_json_c.proofs.Calling.{printed-with}
use Rattle.simd_json_c.proofs.print.simd_json_parser_print.Goals as goal

pub returns-in-Some : goal.returns-in-Some
returns-in-Some c =
    let fits : SFits w32 c.reported.result = search rules in
    let was = sym (ap (λ p. p.held.value) c.replace.ensures.value) ∙ c.in-Some.ensures ∙ ap Some (sym c.deref_mut.ensures.value) in
    let s = c.print_from-outcome.ensures in
    let told = c.reported.ensures in
    let new = c.print_from-outcome.new in
    rw to_z-of_z
    (subst (λ layout. IsPrintedWith c.args.parser.now.held.value c.open.result.held.value c.args.input.now layout c.args.pointer.now
    c.reported.result c.reported.new.place c.args.needed.now new.needed c.args.out.now new.out) c.layout_of.ensures
    (printed-with _ _ _ _ _ _ _ c.print_from-outcome.result _ _ _ _ _ _ (was, c.open.ensures, s.kept) (told.place, told.status)
    s.printed s.rejected))
