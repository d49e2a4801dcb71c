use Rattle.std.proofs.Common.{ap, map, subst, ◌∙◌, sym}
use Rattle.std.specs.Prelude.{Err}
use Rattle.simd_json_stages.specs.Building.{IsBuilt, IsFirstFault}
use Rattle.simd_json_stages.specs.Members.{IsTape}
use Rattle.simd_json_stages.proofs.Machine.BuildingSteps.{descent-built, descent-rejected}
use Rattle.simd_json_stages.proofs.stage2.build_tape.Goals as goal
use Rattle.simd_json_stages.proofs.stage2.build_tape.Goals.{then-copy-eq-PLAIN, else-copy-eq-PLAIN+then-copy-eq-CLOSED}
use Rattle.simd_json_stages.proofs.stage2.build_tape.Goals.{else-copy-eq-PLAIN+else-copy-eq-CLOSED}

pub returns-in-Ok-clause-built : goal.returns-in-Ok-clause-built
returns-in-Ok-clause-built g c =
    let b = g.K.Original.bytes in
    let limit = c.args.max_depth in
    let ps = c.args.scanned.structural_indexes.now in
    let nodes = map g.N.FromNode.item c.if-copy-eq-PLAIN.list.items in
    let tape : IsTape b ps limit nodes c.if-copy-eq-PLAIN.built = elim c.if-copy-eq-PLAIN.branch [
      | then-copy-eq-PLAIN w ↦ rw (w.list-is, w.built-is) w.build_copy-built.ensures.tape
      | else-copy-eq-PLAIN+then-copy-eq-CLOSED w ↦ rw (w.list-is, w.built-is) w.build_copy.ensures.tape
      | else-copy-eq-PLAIN+else-copy-eq-CLOSED w ↦ rw (w.list-is, w.built-is) w.build_copy-else-copy-eq-CLOSED.ensures.tape
    ] in
    descent-built b limit nodes (subst (λ ps. IsBuilt b ps limit nodes) c.requires.scanned.positions
    (rw c.in-Ok.is at tape.built))

pub returns-in-Err-clause-rejected : goal.returns-in-Err-clause-rejected
returns-in-Err-clause-rejected g c =
    let b = g.K.Original.bytes in
    let limit = c.args.max_depth in
    let ps = c.args.scanned.structural_indexes.now in
    let nodes = map g.N.FromNode.item c.if-copy-eq-PLAIN.list.items in
    let fault = c.in-Err.fault in
    let tape : IsTape b ps limit nodes c.if-copy-eq-PLAIN.built = elim c.if-copy-eq-PLAIN.branch [
      | then-copy-eq-PLAIN w ↦ rw (w.list-is, w.built-is) w.build_copy-built.ensures.tape
      | else-copy-eq-PLAIN+then-copy-eq-CLOSED w ↦ rw (w.list-is, w.built-is) w.build_copy.ensures.tape
      | else-copy-eq-PLAIN+else-copy-eq-CLOSED w ↦ rw (w.list-is, w.built-is) w.build_copy-else-copy-eq-CLOSED.ensures.tape
    ] in
    let rejected = descent-rejected b limit fault (subst (λ ps. IsFirstFault b ps limit fault) c.requires.scanned.positions
    (rw c.in-Err.is at tape.rejected)) in
    ((fault.kind, fault.index, fault.byte, c.into_error.ensures), rejected ∙ ap Err (sym c.into_error.ensures))
