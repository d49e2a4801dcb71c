use Rattle.std.proofs.Common.{◌≡◌, ◌∙◌, ℤ, pos, ap, refl, sym, Option, Some, None, Result, Ok, Err, List, ℕ, rules, w32, false, IfOk, IfErr}
use Rattle.std.proofs.lemmas.Int.{to_z-of_z}
use mir.Val.{SFits}
use Rattle.simd_json_parts.specs.declared.error.Error.{Error}
use Rattle.simd_json_c.specs.Found.{IsInputWith, KeepsInput}
use Rattle.simd_json_c.specs.Indexed.{IsUnscanned}
use Rattle.simd_json_c.specs.Kept.{KeepsRoom, KeepsSource, source_capacity}
use Rattle.simd_json_c.specs.declared.status.ErrorPlace.{ErrorPlace}
use Rattle.simd_json_c.specs.declared.lists.Lists.{Lists}
use Rattle.simd_json_c.proofs.Calling.{IsReported}
use Rattle.simd_json_c.proofs.demand.simd_json_parser_scan.Goals as goal

input-with : (old new : Option Lists) (was lists : Lists) (b : List ℕ) (r : Result ℤ Error) (status : ℤ) (place : ErrorPlace)
    → old ≡ Some was → new ≡ Some lists → KeepsRoom was lists → KeepsSource was.source lists.source → lists.wanted ≡ was.wanted
    → IsReported r status place
    → IfOk r (λ s. s ≡ pos 0) → IfOk r (λ s. KeepsInput b lists)
    → IfErr r (λ e. IsUnscanned (source_capacity was.source) b e × (lists.source.is_scanned ≡ false))
    → IsInputWith old new b status place
input-with old new was lists b (Ok s) status place before after room source pointers told zero kept none =
    rw before (lists, after, room, source, pointers, (None, told.1 ∙ zero, told.0, kept))
input-with old new was lists b (Err e) status place before after room source pointers told zero kept none =
    rw before (lists, after, room, source, pointers, (Some e, told.1, told.0, none))

pub returns-in-Some : goal.returns-in-Some
returns-in-Some c =
    let fits : SFits w32 c.reported.result = search rules in
    let lists = c.deref_mut.result.now in
    let was = sym (ap (λ p. p.held.value) c.replace.ensures.value) ∙ c.in-Some.ensures ∙ ap Some (sym c.deref_mut.ensures.value) in
    let room : KeepsRoom lists (record lists { source = c.keep-outcome.new.self }) = search rules in
    let s = c.keep-outcome.ensures in
    let told = c.reported.ensures in
    rw to_z-of_z
    (input-with _ _ lists _ _ c.keep-outcome.result _ _ was c.open.ensures room s.capacity refl (told.place, told.status) s.zero s.kept
    s.fault)
