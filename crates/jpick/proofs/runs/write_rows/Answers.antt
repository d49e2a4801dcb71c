use Rattle.std.proofs.Common.{◌≡◌, ◌∙◌, [], ap, rules, subst, sym, Err}
use Rattle.std.specs.Prelude.{Some}
use Rattle.simd_json_print.proofs.Texts.{appends-none}
use Rattle.simd_json_print.specs.Texts.{TargetState}
use Rattle.jpick.specs.Runs.{Picks}
use Rattle.jpick.proofs.Ended.{ended-closed, ended-early, ended-well}
use Rattle.jpick.proofs.Putting.{new-sound}
use Rattle.jpick.proofs.Shown.{all-names}
use Rattle.jpick.proofs.runs.write_rows.Goals as goal

pub take_all-taken-requires : goal.take_all-taken-requires
take_all-taken-requires g c =
    (search rules, (c.requires.reader, (new-sound _ _ _ c.new-rows.ensures.empty, c.requires.rejections)))

pub returns-then-failed : goal.returns-then-failed
returns-then-failed g c = λ w file knows.
    let start : TargetState = record { held = g.W.Write.contents c.args.out.now.inner; failed = Some c.args.out.now.failed } in
    let named = g.E.Write.contents c.args.rejections.now.inner in
    let ends = c.take_all-taken.ensures.taken start named w file
    (record { knows = knows; rows = c.new-rows.ensures.empty; rejections = all-names _ named named [] (appends-none named) }) in
    let is : c.then-failed.out ≡ c.take_all-taken.new.rows.target.now =
    search rules in
    let done : Picks g.R.Read.remaining g.W.Write.contents g.E.Write.contents w file c.args.reader.now c.take_all-taken.new.reader
    c.args.out.now c.then-failed.out c.args.rejections.now c.take_all-taken.new.rejections c.take_all-taken.result =
    ended-early _ _ _ w file c.args.reader.now c.take_all-taken.new.reader c.args.out.now c.then-failed.out
    c.args.rejections.now c.take_all-taken.new.rejections c.take_all-taken.new.picker c.take_all-taken.new.rows c.take_all-taken.result
    is c.requires.out (search rules) ends in
    done

pub returns-in-Ok : goal.returns-in-Ok
returns-in-Ok g c = λ w file knows.
    let start : TargetState = record { held = g.W.Write.contents c.args.out.now.inner; failed = Some c.args.out.now.failed } in
    let named = g.E.Write.contents c.args.rejections.now.inner in
    let ends = c.take_all-taken.ensures.taken start named w file
    (record { knows = knows; rows = c.new-rows.ensures.empty; rejections = all-names _ named named [] (appends-none named) }) in
    let done : Picks g.R.Read.remaining g.W.Write.contents g.E.Write.contents w file c.args.reader.now c.take_all-taken.new.reader
    c.args.out.now c.finish.new.self.0 c.args.rejections.now c.take_all-taken.new.rejections c.take_all-taken.result =
    ended-well _ _ _ w file c.args.reader.now c.take_all-taken.new.reader c.args.out.now c.finish.new.self.0 c.args.rejections.now
    c.take_all-taken.new.rejections c.take_all-taken.new.picker c.take_all-taken.new.rows c.finish.result c.finish.ensures c.requires.out
    (search rules) (search rules) c.take_all-taken.result (search rules) ends in
    search rules

pub returns-in-Err : goal.returns-in-Err
returns-in-Err g c = λ w file knows.
    let start : TargetState = record { held = g.W.Write.contents c.args.out.now.inner; failed = Some c.args.out.now.failed } in
    let named = g.E.Write.contents c.args.rejections.now.inner in
    let ends = c.take_all-taken.ensures.taken start named w file
    (record { knows = knows; rows = c.new-rows.ensures.empty; rejections = all-names _ named named [] (appends-none named) }) in
    let names = sym (c.take_all-taken.ensures.same_target ∙ c.new-rows.ensures.same_target) in
    let closed : c.closed.result ≡ c.finish.new.self.0.closed = c.closed.ensures ∙ ap (λ o. o.closed) (c.out-2-1.given.1 names) in
    let done : Picks g.R.Read.remaining g.W.Write.contents g.E.Write.contents w file c.args.reader.now c.take_all-taken.new.reader
    c.args.out.now c.finish.new.self.0 c.args.rejections.now c.take_all-taken.new.rejections (Err c.of_output.result) =
    subst (λ e. Picks g.R.Read.remaining g.W.Write.contents g.E.Write.contents w file c.args.reader.now c.take_all-taken.new.reader
    c.args.out.now c.finish.new.self.0 c.args.rejections.now c.take_all-taken.new.rejections (Err e)) (sym c.of_output.ensures)
    (ended-closed _ _ _ w file c.args.reader.now c.take_all-taken.new.reader c.args.out.now c.finish.new.self.0 c.args.rejections.now
    c.take_all-taken.new.rejections c.take_all-taken.new.picker c.take_all-taken.new.rows c.finish.result c.finish.ensures c.requires.out
    (search rules) (search rules) c.take_all-taken.result c.all_taken.result c.closed.result (search rules) c.all_taken.ensures closed ends) in
    subst (λ outs. Picks g.R.Read.remaining g.W.Write.contents g.E.Write.contents w file c.args.reader.now c.take_all-taken.new.reader
    c.args.out.now outs c.args.rejections.now c.take_all-taken.new.rejections (Err c.of_output.result))
    (sym (c.out-2-1.given.1 names)) done
