use Rattle.std.proofs.Common.{◌∙◌, sym, subst, refl, None, get_or}
use Rattle.simd_json_ondemand.specs.Prepared.{first_key}
use Rattle.simd_json_ondemand.specs.Sites.{member_sites, pair_site}
use Rattle.simd_json_ondemand.specs.Stopped.{error_at}
use Rattle.simd_json_ondemand.proofs.Several.{IsSought, sought-ended, sought-found, sought-further, sought-stopped}
use Rattle.simd_json_ondemand.proofs.Turns.{count-came, when-some, when-none}
use Rattle.simd_json_ondemand.proofs.object.Object.find_each.Goals as goal

pub returns-then-note-clause-sites : goal.returns-then-note-clause-sites
returns-then-note-clause-sites g c = λ k p at keyed.
    let key = first_key p in
    let all = member_sites c.args.self in
    let left = member_sites c.loop-key.left in
    let rest = member_sites c.step.new.self in
    let member = pair_site (c.in-Ok-Some.key, c.in-Ok-Some.value) in
    let step = when-some _ _ c.in-Ok-Some.field-0-is c.in-Ok-Some.ensures.sites in
    sought-found key all rest (get_or c.note.new.values k None)
    (subst (IsSought key all rest) (sym (c.note.ensures.noted k p at keyed))
    (sought-further key all left member rest step c.in-Ok-Some.value refl _ (c.loop-key.invariant.sought k p at keyed)))
    (c.note.ensures.all c.if-note.true k p at keyed)

pub loop-key-smaller : goal.loop-key-smaller
loop-key-smaller g c =
    count-came (pair_site (c.in-Ok-Some.key, c.in-Ok-Some.value)) (member_sites c.loop-key.left) (member_sites c.step.new.self)
    (when-some _ _ c.in-Ok-Some.field-0-is c.in-Ok-Some.ensures.sites)

pub loop-key-preserved : goal.loop-key-preserved
loop-key-preserved g c = record {
  same = c.note.ensures.length ∙ c.loop-key.invariant.same;
  sought = λ k p at keyed.
      let key = first_key p in
      let all = member_sites c.args.self in
      let left = member_sites c.loop-key.left in
      let rest = member_sites c.step.new.self in
      let member = pair_site (c.in-Ok-Some.key, c.in-Ok-Some.value) in
      let step = when-some _ _ c.in-Ok-Some.field-0-is c.in-Ok-Some.ensures.sites in
      subst (IsSought key all rest) (sym (c.note.ensures.noted k p at keyed))
      (sought-further key all left member rest step c.in-Ok-Some.value refl _ (c.loop-key.invariant.sought k p at keyed));
}

pub returns-in-Ok-None-clause-sites : goal.returns-in-Ok-None-clause-sites
returns-in-Ok-None-clause-sites g c = λ k p at keyed.
    sought-ended (first_key p) (member_sites c.args.self) (member_sites c.loop-key.left) _ (c.loop-key.invariant.sought k p at keyed)
    (when-none _ _ c.in-Ok-None.field-0-is c.in-Ok-None.ensures.sites)

pub returns-in-Err-clause-sites : goal.returns-in-Err-clause-sites
returns-in-Err-clause-sites g c = λ k p at keyed.
    sought-stopped (first_key p) (member_sites c.args.self) (member_sites c.loop-key.left) _ (c.loop-key.invariant.sought k p at keyed)
    (error_at c.in-Err.field-0) c.in-Err.ensures.sites
