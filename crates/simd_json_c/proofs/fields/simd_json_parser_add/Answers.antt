use Rattle.std.proofs.Common.{◌≡◌, ◌∙◌, ap, sym, refl, Some, rules, w32}
use Rattle.std.proofs.lemmas.Int.{to_z-of_z}
use mir.Val.{SFits}
use Rattle.simd_json_c.specs.Kept.{KeepsRoom}
use Rattle.simd_json_c.proofs.fields.simd_json_parser_add.Goals as goal

pub returns-in-Some : goal.returns-in-Some
returns-in-Some c =
    let fits : SFits w32 c.add-status.result = search rules in
    let lists = c.deref_mut.result.now in
    let was = sym (ap (λ p. p.held.value) c.replace.ensures.value) ∙ c.in-Some.ensures ∙ ap Some (sym c.deref_mut.ensures.value) in
    let room : KeepsRoom lists (record lists { wanted = c.add-status.new.wanted }) = search rules in
    rw to_z-of_z (rw was (record lists { wanted = c.add-status.new.wanted }, c.open.ensures, room, refl, c.add-status.ensures))
