use Rattle.std.proofs.Common.{◌≡◌, ◌∙◌, ℕ, ℤ, pos, ap, sym, refl, Option, Some, None, Result, Ok, Err, List, IfOk, IfErr, rules, w32}
use Rattle.std.proofs.lemmas.Int.{to_z-of_z}
use mir.Val.{SFits}
use Rattle.simd_json_parts.specs.InputFaults.{input_fault}
use Rattle.simd_json_parts.specs.declared.error.Error.{Error}
use Rattle.simd_json_stages.specs.Capacities.{capacity}
use Rattle.simd_json_c.specs.Fields.{AreFieldsPut, IsFieldsWith, wanted}
use Rattle.simd_json_c.specs.Indexed.{IsUnscanned}
use Rattle.simd_json_c.specs.declared.fields.Field.{Field}
use Rattle.simd_json_c.specs.declared.lists.Lists.{Lists}
use Rattle.simd_json_c.specs.declared.status.ErrorPlace.{ErrorPlace}
use Rattle.simd_json_c.proofs.Calling.{AreKeptOpen, IsReported}
use Rattle.simd_json_c.proofs.fields.simd_json_parser_pointers.Goals as goal

fields-with : (old new : Option Lists) (was lists : Lists) (b : List ℕ) (r : Result ℤ Error) (status : ℤ) (place : ErrorPlace)
    (old_fields fields : List Field) → AreKeptOpen old new was lists → IsReported r status place
    → IfOk r (λ s. (s ≡ pos 0) × (input_fault b ≡ None) × AreFieldsPut (wanted was) b old_fields fields)
    → IfErr r (λ e. (fields ≡ old_fields) × IsUnscanned (capacity was.checker.index) b e)
    → IsFieldsWith old new b status place old_fields fields
fields-with old new was lists b (Ok s) status place old_fields fields kept told are none =
    rw kept.0 (lists, kept.1, kept.2, (None, told.1 ∙ are.0, told.0, (are.1, are.2)))
fields-with old new was lists b (Err e) status place old_fields fields kept told are none =
    rw kept.0 (lists, kept.1, kept.2, (Some e, told.1, told.0, (none.1, none.0)))

pub returns-in-Some : goal.returns-in-Some
returns-in-Some c =
    let fits : SFits w32 c.reported.result = search rules in
    let lists = c.deref_mut.result.now in
    let was = sym (ap (λ p. p.held.value) c.replace.ensures.value) ∙ c.in-Some.ensures ∙ ap Some (sym c.deref_mut.ensures.value) in
    let told = c.reported.ensures in
    rw to_z-of_z
    (fields-with _ _ lists _ _ c.find-outcome.result _ _ _ _ (was, c.open.ensures, c.find-outcome.ensures.kept) (told.place, told.status)
    c.find-outcome.ensures.found c.find-outcome.ensures.fault)
