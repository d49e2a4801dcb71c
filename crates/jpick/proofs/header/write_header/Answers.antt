use Rattle.std.proofs.Common.{◌≡◌, ◌∙◌, [], ap, rules, sym, true}
use Rattle.std.proofs.lemmas.Result.{err_from_is_err_and}
use Rattle.std.specs.Prelude.{None, Some}
use Rattle.simd_json_print.specs.Texts.{TargetState}
use Rattle.simd_json_print.proofs.Texts.{ended-failed, ended-sound}
use Rattle.programs.specs.Failures.{Begins}
use Rattle.jpick.specs.Rows.{row}
use Rattle.jpick.specs.Runs.{header_fault}
use Rattle.jpick.proofs.Ended.{begins-front}
use Rattle.jpick.proofs.Enough.{room-for-header}
use Rattle.jpick.proofs.Putting.{puts-begun}
use Rattle.jpick.proofs.header.write_header.Goals as goal

pub put_row-put-requires : goal.put_row-put-requires
put_row-put-requires g c = (search rules, room-for-header c.args.wanted.now.queries.now 0)

pub returns-in_err-put-in-Ok : goal.returns-in_err-put-in-Ok
returns-in_err-put-in-Ok g c =
    let p = err_from_is_err_and c.from_residual.result c.from_residual.ensures.1 in
    let start : TargetState = record { held = g.W.Write.contents c.args.out.now.inner; failed = Some c.args.out.now.failed } in
    let begun = c.in_err-put-in-Ok.ensures in
    let end = ended-sound c.finish.result _ _ _ _ _ (c.finish.ensures start _ (begun.1.given start [] c.new-text.ensures.empty)) c.requires
    (search rules) in
    let fact : (p.0 ≡ header_fault c.finish.new.self.0.closed c.finish.new.self.0.failed)
    × Begins start.held (g.W.Write.contents c.finish.new.self.0.inner) (row c.args.wanted.now None) =
    (p.2 ∙ ap (header_fault c.finish.new.self.0.closed) (sym end.0), (begun.0, end.1)) in
    rw p.1 (search rules)

pub returns-in_ok-put-in-Ok : goal.returns-in_ok-put-in-Ok
returns-in_ok-put-in-Ok g c =
    let start : TargetState = record { held = g.W.Write.contents c.args.out.now.inner; failed = Some c.args.out.now.failed } in
    let all = ended-sound c.finish.result _ _ _ _ _ (c.finish.ensures start _ (c.in_ok-put-in-Ok.ensures.given start [] c.new-text.ensures.empty))
    c.requires (search rules) in
    search rules

pub returns-in-Err : goal.returns-in-Err
returns-in-Err g c =
    let start : TargetState = record { held = g.W.Write.contents c.args.out.now.inner; failed = Some c.args.out.now.failed } in
    let begun = puts-begun _ c.put_row-put.result _ _ _ c.put_row-put.ensures in
    let failed = ended-failed c.finish.result _ _ _ _ _ (c.finish.ensures start _ (begun.1.given start [] c.new-text.ensures.empty))
    (search rules) in
    let closed : c.closed.result ≡ c.finish.new.self.0.closed = search rules in
    let fact : (c.of_output.result ≡ header_fault c.finish.new.self.0.closed c.finish.new.self.0.failed)
    × Begins start.held (g.W.Write.contents c.finish.new.self.0.inner) (row c.args.wanted.now None) = (
      c.of_output.ensures ∙ ap (λ b. header_fault b true) closed ∙ ap (header_fault c.finish.new.self.0.closed) (sym failed.0),
      begins-front _ _ begun.0 _ failed.1,
    ) in
    search rules
