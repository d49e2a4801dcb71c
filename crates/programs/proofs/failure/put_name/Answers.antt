use Rattle.std.proofs.Common.{◌≡◌, ◌++◌, [], ap, rules, subst, sym, false}
use Rattle.std.specs.Io.KnownBytes.{Appends}
use Rattle.std.specs.Prelude.{Some}
use Rattle.simd_json_print.specs.Texts.{TargetState}
use Rattle.simd_json_print.proofs.Texts.{ended-failed, ended-sound}
use Rattle.programs.specs.Failures.{Begins, name_fault}
use Rattle.programs.specs.declared.failure.Failure.TheVariants.{Name}
use Rattle.programs.proofs.failure.put_name.Goals as goal

pub returns-in-Ok : goal.returns-in-Ok
returns-in-Ok g c = λ sound.
    let port = c.args.rejections.now in
    let start : TargetState = record { held = g.E.Write.contents port.inner; failed = Some port.failed } in
    let ends = c.finish.ensures start _ (c.put-2.ensures.given start _ (c.put.ensures.given start [] c.new-name.ensures.empty)) in
    let all = ended-sound c.finish.result _ _ _ _ _ ends sound (search rules) in
    let line = ap (λ us. us ++ c.args.words.now) c.as_bytes.ensures.value in
    let fact : (c.finish.new.self.0.failed ≡ false)
    × Appends start.held (g.E.Write.contents c.finish.new.self.0.inner) (c.args.label.now ++ c.args.words.now) =
    (all.0, subst (Appends start.held (g.E.Write.contents c.finish.new.self.0.inner)) line all.1) in
    search rules

pub returns-in-Err : goal.returns-in-Err
returns-in-Err g c = λ sound.
    let port = c.args.rejections.now in
    let start : TargetState = record { held = g.E.Write.contents port.inner; failed = Some port.failed } in
    let ends = c.finish.ensures start _ (c.put-2.ensures.given start _ (c.put.ensures.given start [] c.new-name.ensures.empty)) in
    let failed = ended-failed c.finish.result _ _ _ _ _ ends (search rules) in
    let line = ap (λ us. us ++ c.args.words.now) c.as_bytes.ensures.value in
    let fact : (Name ≡ name_fault c.finish.new.self.0.failed)
    × Begins start.held (g.E.Write.contents c.finish.new.self.0.inner) (c.args.label.now ++ c.args.words.now) =
    (ap name_fault (sym failed.0), subst (Begins start.held (g.E.Write.contents c.finish.new.self.0.inner)) line failed.1) in
    search rules
