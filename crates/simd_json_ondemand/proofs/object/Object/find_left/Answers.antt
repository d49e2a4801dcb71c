use Rattle.std.proofs.Common.{refl, sym, ◌∙◌, ap}
use Rattle.simd_json_ondemand.specs.Docs.{doc}
use Rattle.simd_json_ondemand.specs.IteratedMembers.{pair_doc}
use Rattle.simd_json_ondemand.specs.Sites.{member_sites, pair_site}
use Rattle.simd_json_ondemand.specs.Stopped.{error_at}
use Rattle.simd_json_ondemand.specs.Walked.{members_ahead}
use Rattle.simd_json_ondemand.specs.Walks.{walk_from}
use Rattle.simd_json_ondemand.proofs.Lookup.{same-object}
use Rattle.simd_json_ondemand.proofs.Sites.{key-here, key-later, key-none, key-stop}
use Rattle.simd_json_ondemand.proofs.Turns.{count-came, when-some, when-none}
use Rattle.simd_json_ondemand.proofs.Walks.{from-here, from-later, from-ended, from-stopped}
use Rattle.simd_json_ondemand.proofs.object.Object.find_left.Goals as goal

pub loop-name-init : goal.loop-name-init
loop-name-init c = record { same = refl; ahead = refl; object = record { document = refl; first = refl }; inside = λ v h. h; sites = refl }

pub returns-then-is_key-clause-found : goal.returns-then-is_key-clause-found
returns-then-is_key-clause-found c =
    let key = c.args.wanted.key.now in
    c.loop-name.invariant.ahead ∙ ap (walk_from key) (when-some _ _ c.in-Ok-Some.field-0-is c.in-Ok-Some.ensures.steps)
    ∙ from-here key (doc c.in-Ok-Some.name) (doc c.in-Ok-Some.value) (members_ahead c.step.new.self)
    (sym c.is_key.ensures ∙ c.if-is_key.true)

pub loop-name-smaller : goal.loop-name-smaller
loop-name-smaller c =
    count-came (pair_doc (c.in-Ok-Some.name, c.in-Ok-Some.value)) (members_ahead c.loop-name.left) (members_ahead c.step.new.self)
    (when-some _ _ c.in-Ok-Some.field-0-is c.in-Ok-Some.ensures.steps)

pub loop-name-preserved : goal.loop-name-preserved
loop-name-preserved c =
    let key = c.args.wanted.key.now in
    let l = c.loop-name in
    let member = pair_site (c.in-Ok-Some.name, c.in-Ok-Some.value) in
    record {
      same = l.invariant.same;
      ahead =
          l.invariant.ahead ∙ ap (walk_from key) (when-some _ _ c.in-Ok-Some.field-0-is c.in-Ok-Some.ensures.steps)
          ∙ from-later key (doc c.in-Ok-Some.name) (doc c.in-Ok-Some.value) (members_ahead c.step.new.self)
          (sym c.is_key.ensures ∙ c.if-is_key.false);
      object = same-object c.args.self.now l.left c.step.new.self l.invariant.object c.in-Ok-Some.ensures.object;
      inside = λ v h. c.in-Ok-Some.ensures.inside v (l.invariant.inside v h);
      sites =
          key-later key (member_sites c.args.self.now) (member_sites l.left) l.invariant.sites member (member_sites c.step.new.self)
          (when-some _ _ c.in-Ok-Some.field-0-is c.in-Ok-Some.ensures.sites) c.is_key.result c.is_key.ensures c.if-is_key.false;
    }

pub returns-then-is_key-clause-site : goal.returns-then-is_key-clause-site
returns-then-is_key-clause-site c =
    let l = c.loop-name in
    key-here c.args.wanted.key.now (member_sites c.args.self.now) (member_sites l.left) l.invariant.sites
    (pair_site (c.in-Ok-Some.name, c.in-Ok-Some.value)) (member_sites c.step.new.self)
    (when-some _ _ c.in-Ok-Some.field-0-is c.in-Ok-Some.ensures.sites) c.is_key.result c.is_key.ensures c.if-is_key.true

pub returns-in-Ok-None-clause-site : goal.returns-in-Ok-None-clause-site
returns-in-Ok-None-clause-site c =
    let l = c.loop-name in
    key-none c.args.wanted.key.now (member_sites c.args.self.now) (member_sites l.left) l.invariant.sites
    (when-none _ _ c.in-Ok-None.field-0-is c.in-Ok-None.ensures.sites)

pub returns-in-Err-clause-site : goal.returns-in-Err-clause-site
returns-in-Err-clause-site c =
    let l = c.loop-name in
    key-stop c.args.wanted.key.now (member_sites c.args.self.now) (member_sites l.left) l.invariant.sites (error_at c.in-Err.stop)
    c.in-Err.ensures.sites

pub returns-in-Ok-None-clause-found : goal.returns-in-Ok-None-clause-found
returns-in-Ok-None-clause-found c =
    let key = c.args.wanted.key.now in
    let none = when-none _ _ c.in-Ok-None.field-0-is c.in-Ok-None.ensures.steps in
    (c.loop-name.invariant.ahead ∙ ap (walk_from key) none.0 ∙ from-ended key, c.loop-name.invariant.same)

pub returns-in-Err-clause-found : goal.returns-in-Err-clause-found
returns-in-Err-clause-found c =
    let key = c.args.wanted.key.now in
    let stop = error_at c.in-Err.stop in
    (c.loop-name.invariant.ahead ∙ ap (walk_from key) c.in-Err.ensures.steps.0 ∙ from-stopped key stop, c.loop-name.invariant.same)
