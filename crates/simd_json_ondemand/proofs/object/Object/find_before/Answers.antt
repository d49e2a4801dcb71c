use Rattle.std.proofs.Common.{sym, ◌∙◌, ap, subst, ◌<◌, Some}
use Rattle.simd_json_ondemand.specs.Docs.{doc}
use Rattle.simd_json_ondemand.specs.IteratedMembers.{pair_doc}
use Rattle.simd_json_ondemand.specs.Stopped.{error_at}
use Rattle.simd_json_ondemand.specs.Walked.{members_ahead}
use Rattle.simd_json_ondemand.specs.Walks.{walk_from}
use Rattle.simd_json_ondemand.proofs.Lookup.{same-object}
use Rattle.simd_json_ondemand.proofs.Turns.{count, count-came, when-some, when-none}
use Rattle.simd_json_ondemand.proofs.Walks.{from-here, from-later, from-ended, from-stopped}
use Rattle.simd_json_ondemand.proofs.object.Object.find_before.Goals as goal

pub returns-then-is_key-clause-found : goal.returns-then-is_key-clause-found
returns-then-is_key-clause-found c =
    let key = c.args.wanted.key.now in
    c.loop-all.invariant.ahead ∙ ap (walk_from key) (when-some _ _ c.in-Ok-Some.field-0-is c.in-Ok-Some.ensures.steps)
    ∙ from-here key (doc c.in-Ok-Some.name) (doc c.in-Ok-Some.value) (members_ahead c.step.new.self)
    (sym c.is_key.ensures ∙ c.if-is_key.true)

pub loop-all-smaller : goal.loop-all-smaller
loop-all-smaller c =
    count-came (pair_doc (c.in-Ok-Some.name, c.in-Ok-Some.value)) (members_ahead c.loop-all.all) (members_ahead c.step.new.self)
    (when-some _ _ c.in-Ok-Some.field-0-is c.in-Ok-Some.ensures.steps)

pub loop-all-smaller-then-eq : goal.loop-all-smaller-then-eq
loop-all-smaller-then-eq c =
    let last = (rw c.in-Ok-Some.field-0-is at c.in-Ok-Some.ensures.last) ∙ ap (λ n. Some n) (sym c.end.ensures) in
    subst (λ w. count w < count (members_ahead c.loop-all.all)) (sym (c.pass.ensures.ahead last))
    (count-came (pair_doc (c.in-Ok-Some.name, c.in-Ok-Some.value)) (members_ahead c.loop-all.all) (members_ahead c.step.new.self)
    (when-some _ _ c.in-Ok-Some.field-0-is c.in-Ok-Some.ensures.steps))

pub loop-all-preserved : goal.loop-all-preserved
loop-all-preserved c =
    let key = c.args.wanted.key.now in
    record {
      object = same-object c.args.self c.loop-all.all c.step.new.self c.loop-all.invariant.object c.in-Ok-Some.ensures.object;
      ahead =
          c.loop-all.invariant.ahead ∙ ap (walk_from key) (when-some _ _ c.in-Ok-Some.field-0-is c.in-Ok-Some.ensures.steps)
          ∙ from-later key (doc c.in-Ok-Some.name) (doc c.in-Ok-Some.value) (members_ahead c.step.new.self)
          (sym c.is_key.ensures ∙ c.if-is_key.false);
      inside = λ v h. c.in-Ok-Some.ensures.inside v (c.loop-all.invariant.inside v h);
    }

pub loop-all-preserved-then-eq : goal.loop-all-preserved-then-eq
loop-all-preserved-then-eq c =
    let key = c.args.wanted.key.now in
    let last = (rw c.in-Ok-Some.field-0-is at c.in-Ok-Some.ensures.last) ∙ ap (λ n. Some n) (sym c.end.ensures) in
    let next = same-object c.args.self c.loop-all.all c.step.new.self c.loop-all.invariant.object c.in-Ok-Some.ensures.object in
    record {
      object = same-object c.args.self c.step.new.self c.pass.new.self next c.pass.ensures.object;
      ahead =
          c.loop-all.invariant.ahead ∙ ap (walk_from key) (when-some _ _ c.in-Ok-Some.field-0-is c.in-Ok-Some.ensures.steps)
          ∙ from-later key (doc c.in-Ok-Some.name) (doc c.in-Ok-Some.value) (members_ahead c.step.new.self)
          (sym c.is_key.ensures ∙ c.if-is_key.false)
          ∙ ap (walk_from key) (sym (c.pass.ensures.ahead last));
      inside = λ v h. c.pass.ensures.inside last v (c.in-Ok-Some.ensures.inside v (c.loop-all.invariant.inside v h));
    }

pub returns-in-Ok-None-clause-found : goal.returns-in-Ok-None-clause-found
returns-in-Ok-None-clause-found c =
    let key = c.args.wanted.key.now in
    c.loop-all.invariant.ahead ∙ ap (walk_from key) (when-none _ _ c.in-Ok-None.field-0-is c.in-Ok-None.ensures.steps).0
    ∙ from-ended key

pub returns-in-Err-clause-found : goal.returns-in-Err-clause-found
returns-in-Err-clause-found c =
    let key = c.args.wanted.key.now in
    c.loop-all.invariant.ahead ∙ ap (walk_from key) c.in-Err.ensures.steps.0 ∙ from-stopped key (error_at c.in-Err.stop)
