use Rattle.std.proofs.Common.{ap, map, List, subst, ◌∙◌, sym}
use Rattle.std.specs.Prelude.{Err}
use Rattle.simd_json_stages.specs.Building.{IsBuilt, IsFirstFault}
use Rattle.simd_json_stages.specs.Members.{IsTape}
use Rattle.simd_json_parts.specs.Nodes.{Item}
use Rattle.simd_json_stages.specs.Placed.{Placed}
use Rattle.simd_json_stages.proofs.Machine.BuildingSteps.{descent-built, descent-rejected}
use Rattle.simd_json_stages.proofs.stage2.build_spans.Goals as goal
use Rattle.simd_json_stages.proofs.stage2.build_spans.Goals.{then-copy-eq-PLAIN, else-copy-eq-PLAIN+then-copy-eq-CLOSED}
use Rattle.simd_json_stages.proofs.stage2.build_spans.Goals.{else-copy-eq-PLAIN+else-copy-eq-CLOSED}

abbrev held : (placed : List Placed) → List Item
held = map (λ (p : Placed). p.item)

pub returns-in-Ok-clause-built : goal.returns-in-Ok-clause-built
returns-in-Ok-clause-built g c =
    let b = g.K.Original.bytes in
    let limit = c.args.max_depth in
    let ps = c.args.scanned.structural_indexes.now in
    let nodes = held (g.S.SpanSink.placed c.if-copy-eq-PLAIN.sink) in
    let tape : IsTape b ps limit nodes c.if-copy-eq-PLAIN.built = elim c.if-copy-eq-PLAIN.branch [
      | then-copy-eq-PLAIN w ↦ rw (w.sink-is, w.built-is) w.build_spans_copy-built.ensures.tape
      | else-copy-eq-PLAIN+then-copy-eq-CLOSED w ↦ rw (w.sink-is, w.built-is) w.build_spans_copy.ensures.tape
      | else-copy-eq-PLAIN+else-copy-eq-CLOSED w ↦ rw (w.sink-is, w.built-is) w.build_spans_copy-else-copy-eq-CLOSED.ensures.tape
    ] in
    descent-built b limit nodes (subst (λ ps. IsBuilt b ps limit nodes) c.requires.scanned.positions
    (rw c.in-Ok.is at tape.built))

pub returns-in-Err-clause-rejected : goal.returns-in-Err-clause-rejected
returns-in-Err-clause-rejected g c =
    let b = g.K.Original.bytes in
    let limit = c.args.max_depth in
    let ps = c.args.scanned.structural_indexes.now in
    let nodes = held (g.S.SpanSink.placed c.if-copy-eq-PLAIN.sink) in
    let fault = c.in-Err.fault in
    let tape : IsTape b ps limit nodes c.if-copy-eq-PLAIN.built = elim c.if-copy-eq-PLAIN.branch [
      | then-copy-eq-PLAIN w ↦ rw (w.sink-is, w.built-is) w.build_spans_copy-built.ensures.tape
      | else-copy-eq-PLAIN+then-copy-eq-CLOSED w ↦ rw (w.sink-is, w.built-is) w.build_spans_copy.ensures.tape
      | else-copy-eq-PLAIN+else-copy-eq-CLOSED w ↦ rw (w.sink-is, w.built-is) w.build_spans_copy-else-copy-eq-CLOSED.ensures.tape
    ] in
    let rejected = descent-rejected b limit fault (subst (λ ps. IsFirstFault b ps limit fault) c.requires.scanned.positions
    (rw c.in-Err.is at tape.rejected)) in
    ((fault.kind, fault.index, fault.byte, c.into_error.ensures), rejected ∙ ap Err (sym c.into_error.ensures))

pub returns-in-Ok-clause-texts : goal.returns-in-Ok-clause-texts
returns-in-Ok-clause-texts g c = elim c.if-copy-eq-PLAIN.branch [
  | then-copy-eq-PLAIN w ↦ rw (w.sink-is, w.input-is) w.build_spans_copy-built.ensures.texts
  | else-copy-eq-PLAIN+then-copy-eq-CLOSED w ↦ rw (w.sink-is, w.input-is) w.build_spans_copy.ensures.texts
  | else-copy-eq-PLAIN+else-copy-eq-CLOSED w ↦ rw (w.sink-is, w.input-is) w.build_spans_copy-else-copy-eq-CLOSED.ensures.texts
]

pub returns-in-Err-clause-texts : goal.returns-in-Err-clause-texts
returns-in-Err-clause-texts g c = elim c.if-copy-eq-PLAIN.branch [
  | then-copy-eq-PLAIN w ↦ rw (w.sink-is, w.input-is) w.build_spans_copy-built.ensures.texts
  | else-copy-eq-PLAIN+then-copy-eq-CLOSED w ↦ rw (w.sink-is, w.input-is) w.build_spans_copy.ensures.texts
  | else-copy-eq-PLAIN+else-copy-eq-CLOSED w ↦ rw (w.sink-is, w.input-is) w.build_spans_copy-else-copy-eq-CLOSED.ensures.texts
]
