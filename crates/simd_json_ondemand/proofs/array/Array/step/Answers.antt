use Rattle.std.proofs.Common.{refl, sym, ◌∙◌, ap, subst, drop, Ok, IfSome, option_map}
use Rattle.simd_json_ondemand.specs.Sites.{element_site}
use Rattle.simd_json_ondemand.specs.Stopped.{error_at}
use Rattle.simd_json_ondemand.specs.Within.{IsItemAt}
use Rattle.simd_json_ondemand.proofs.Inside.{stays-in-array}
use Rattle.simd_json_ondemand.proofs.Turns.{element-comes, elements-end, elements-stop, element-seen, elements-seen-end, elements-seen-stop}
use Rattle.simd_json_ondemand.proofs.array.Array.step.Goals as goal

pub returns-in-Ok-Some-clause-steps : goal.returns-in-Ok-Some-clause-steps
returns-in-Ok-Some-clause-steps c =
    let a = c.args.self.now in
    let is = a.document.indexes.now in
    element-comes a.document.input.now a.position (drop a.at is) (drop c.in-Ok-Some.at is)
    (sym c.in-Ok-Some.ensures.element ∙ ap (λ o. Ok (option_map (λ k. drop k is) o)) c.in-Ok-Some.field-0-is)

pub returns-in-Ok-Some-clause-sites : goal.returns-in-Ok-Some-clause-sites
returns-in-Ok-Some-clause-sites c =
    let a = c.args.self.now in
    let b = a.document.input.now in
    let is = a.document.indexes.now in
    element-seen b (element_site b) a.position (drop a.at is) (drop c.in-Ok-Some.at is)
    (sym c.in-Ok-Some.ensures.element ∙ ap (λ o. Ok (option_map (λ k. drop k is) o)) c.in-Ok-Some.field-0-is)

pub returns-in-Ok-None-clause-steps : goal.returns-in-Ok-None-clause-steps
returns-in-Ok-None-clause-steps c =
    let a = c.args.self.now in
    let is = a.document.indexes.now in (
      elements-end a.document.input.now a.position (drop a.at is)
          (sym c.in-Ok-None.ensures.element ∙ ap (λ o. Ok (option_map (λ k. drop k is) o)) c.in-Ok-None.field-0-is),
      refl,
    )

pub returns-in-Ok-None-clause-sites : goal.returns-in-Ok-None-clause-sites
returns-in-Ok-None-clause-sites c =
    let a = c.args.self.now in
    let b = a.document.input.now in
    let is = a.document.indexes.now in
    elements-seen-end b (element_site b) a.position (drop a.at is)
    (sym c.in-Ok-None.ensures.element ∙ ap (λ o. Ok (option_map (λ k. drop k is) o)) c.in-Ok-None.field-0-is)

pub returns-in-Err-clause-steps : goal.returns-in-Err-clause-steps
returns-in-Err-clause-steps c =
    let a = c.args.self.now in
    let stop = error_at c.in-Err.stop in
    (elements-stop a.document.input.now a.position (drop a.at a.document.indexes.now) stop (sym c.in-Err.ensures.element), refl)

pub returns-in-Err-clause-sites : goal.returns-in-Err-clause-sites
returns-in-Err-clause-sites c =
    let a = c.args.self.now in
    let b = a.document.input.now in
    elements-seen-stop b (element_site b) a.position (drop a.at a.document.indexes.now) (error_at c.in-Err.stop)
    (sym c.in-Err.ensures.element)

pub returns-in-Ok-Some-clause-inside : goal.returns-in-Ok-Some-clause-inside
returns-in-Ok-Some-clause-inside c = λ v h.
    let a = c.args.self.now in
    let place = subst (λ o. IfSome o (IsItemAt 93 a.document a.at a.position)) c.in-Ok-Some.field-0-is c.in-Ok-Some.ensures.place in
    let stays = stays-in-array a.document a.at a.inside a.position c.in-Ok-Some.at place h.left h.here in
    record { left = stays.0.0; here = stays.0.1; ends = stays.1 ∙ h.ends }
