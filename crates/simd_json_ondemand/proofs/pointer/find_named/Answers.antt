use Rattle.std.proofs.Common.{refl}
use Rattle.simd_json_ondemand.specs.Sites.{member_sites, pair_site}
use Rattle.simd_json_ondemand.specs.Stopped.{error_at}
use Rattle.simd_json_ondemand.proofs.Sites.{to-here, to-later, to-none, to-stop}
use Rattle.simd_json_ondemand.proofs.Turns.{count-came, when-some, when-none}
use Rattle.simd_json_ondemand.proofs.pointer.find_named.Goals as goal

pub loop-key-init : goal.loop-key-init
loop-key-init c = λ key is. refl

pub returns-then-is_named : goal.returns-then-is_named
returns-then-is_named c =
    to-here c.args.token.now (member_sites c.args.object) (member_sites c.loop-key.left) c.loop-key.invariant
    (pair_site (c.in-Ok-Some.key, c.in-Ok-Some.value)) (member_sites c.step.new.self)
    (when-some _ _ c.in-Ok-Some.field-0-is c.in-Ok-Some.ensures.sites) c.is_named.result c.is_named.ensures c.requires
    c.if-is_named.true

pub loop-key-smaller : goal.loop-key-smaller
loop-key-smaller c =
    count-came (pair_site (c.in-Ok-Some.key, c.in-Ok-Some.value)) (member_sites c.loop-key.left) (member_sites c.step.new.self)
    (when-some _ _ c.in-Ok-Some.field-0-is c.in-Ok-Some.ensures.sites)

pub loop-key-preserved : goal.loop-key-preserved
loop-key-preserved c =
    to-later c.args.token.now (member_sites c.args.object) (member_sites c.loop-key.left) c.loop-key.invariant
    (pair_site (c.in-Ok-Some.key, c.in-Ok-Some.value)) (member_sites c.step.new.self)
    (when-some _ _ c.in-Ok-Some.field-0-is c.in-Ok-Some.ensures.sites) c.is_named.result c.is_named.ensures c.if-is_named.false

pub returns-in-Ok-None : goal.returns-in-Ok-None
returns-in-Ok-None c =
    to-none c.args.token.now (member_sites c.args.object) (member_sites c.loop-key.left) c.loop-key.invariant c.requires
    (when-none _ _ c.in-Ok-None.field-0-is c.in-Ok-None.ensures.sites)

pub returns-in-Err : goal.returns-in-Err
returns-in-Err c =
    to-stop c.args.token.now (member_sites c.args.object) (member_sites c.loop-key.left) c.loop-key.invariant c.requires
    (error_at c.in-Err.stop) c.in-Err.ensures.sites
