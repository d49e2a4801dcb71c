use Rattle.std.proofs.Common.{refl, sym, ◌∙◌, arith}
use Rattle.simd_json_ondemand.specs.Docs.{doc}
use Rattle.simd_json_ondemand.specs.Sites.{element_sites, site}
use Rattle.simd_json_ondemand.specs.Stopped.{error_at}
use Rattle.simd_json_ondemand.specs.Walked.{elements_ahead}
use Rattle.simd_json_ondemand.proofs.Turns.{when-some, when-none}
use Rattle.simd_json_ondemand.proofs.Walks.{past-here, past-later, past-end, past-stop}
use Rattle.simd_json_ondemand.proofs.array.Array.behind.Goals as goal

pub loop-value-init : goal.loop-value-init
loop-value-init c = (refl, refl)

pub returns-then-left-eq0-clause-documents : goal.returns-then-left-eq0-clause-documents
returns-then-left-eq0-clause-documents c =
    sym (c.loop-value.invariant.0 ∙ past-here c.loop-value.left (elements_ahead c.loop-value.elements) (doc c.in-Ok-Some.value) _
    c.if-left-eq0.true (when-some _ _ c.in-Ok-Some.field-0-is c.in-Ok-Some.ensures.steps))

pub returns-then-left-eq0-clause-sites : goal.returns-then-left-eq0-clause-sites
returns-then-left-eq0-clause-sites c =
    sym (c.loop-value.invariant.1 ∙ past-here c.loop-value.left (element_sites c.loop-value.elements) (site c.in-Ok-Some.value) _
    c.if-left-eq0.true (when-some _ _ c.in-Ok-Some.field-0-is c.in-Ok-Some.ensures.sites))

pub loop-value-smaller : goal.loop-value-smaller
loop-value-smaller c = omega (arith, c.if-left-eq0.false)

pub loop-value-preserved : goal.loop-value-preserved
loop-value-preserved c =
    let l = c.loop-value in (
      l.invariant.0 ∙ past-later l.left (elements_ahead l.elements) (doc c.in-Ok-Some.value) (elements_ahead c.step.new.self)
          c.if-left-eq0.false (when-some _ _ c.in-Ok-Some.field-0-is c.in-Ok-Some.ensures.steps),
      l.invariant.1 ∙ past-later l.left (element_sites l.elements) (site c.in-Ok-Some.value) (element_sites c.step.new.self)
          c.if-left-eq0.false (when-some _ _ c.in-Ok-Some.field-0-is c.in-Ok-Some.ensures.sites),
    )

pub returns-in-Ok-None-clause-documents : goal.returns-in-Ok-None-clause-documents
returns-in-Ok-None-clause-documents c =
    let none = when-none _ _ c.in-Ok-None.field-0-is c.in-Ok-None.ensures.steps in
    sym (c.loop-value.invariant.0 ∙ past-end c.loop-value.left (elements_ahead c.loop-value.elements) none.0)

pub returns-in-Ok-None-clause-sites : goal.returns-in-Ok-None-clause-sites
returns-in-Ok-None-clause-sites c =
    sym (c.loop-value.invariant.1 ∙ past-end c.loop-value.left (element_sites c.loop-value.elements)
    (when-none _ _ c.in-Ok-None.field-0-is c.in-Ok-None.ensures.sites))

pub returns-in-Err-clause-documents : goal.returns-in-Err-clause-documents
returns-in-Err-clause-documents c =
    sym (c.loop-value.invariant.0 ∙ past-stop c.loop-value.left (elements_ahead c.loop-value.elements) (error_at c.in-Err.stop)
    c.in-Err.ensures.steps.0)

pub returns-in-Err-clause-sites : goal.returns-in-Err-clause-sites
returns-in-Err-clause-sites c =
    sym (c.loop-value.invariant.1 ∙ past-stop c.loop-value.left (element_sites c.loop-value.elements) (error_at c.in-Err.stop)
    c.in-Err.ensures.sites)
