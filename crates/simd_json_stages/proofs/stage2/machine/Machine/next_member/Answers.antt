use Rattle.std.proofs.Common.{◌≡◌, ap, sym, subst, refl, arith}
use Rattle.simd_json_stages.specs.Members.{HasCome, HasFollowed, IsFault}
use Rattle.simd_json_stages.specs.Progresses.{AdvancesPastMember, reached}
use Rattle.simd_json_stages.proofs.Machine.Following.{end-built}
use Rattle.simd_json_stages.proofs.Machine.Rejecting.{rejects-trailing}
use Rattle.simd_json_stages.proofs.stage2.machine.Machine.next_member.Goals as goal

pub returns-in-Opened-clause-member : goal.returns-in-Opened-clause-member
returns-in-Opened-clause-member g c = subst (HasCome g.K.Original.bytes c.args.route c.args.self.now _ _ _) c.in-Opened.is c.requires

pub returns-in-Opened-clause-further : goal.returns-in-Opened-clause-further
returns-in-Opened-clause-further g c = omega (arith, ap (λ v. (reached v).read) c.in-Opened.is)

pub loop-p-init : goal.loop-p-init
loop-p-init g c = record {
  last = subst (HasCome g.K.Original.bytes c.args.route c.args.self.now _ _ _) c.in-Read.is c.requires;
  passed = omega (arith, ap (λ v. (reached v).read) c.in-Read.is);
  sink = (refl, refl);
}

pub after_member-requires : goal.after_member-requires
after_member-requires g c =
    record { last = c.loop-p.invariant.last; inside = c.loop-p-test.true; container = refl }

pub returns-in-Next-clause-member : goal.returns-in-Next-clause-member
returns-in-Next-clause-member g c =
    subst (HasFollowed g.K.Original.bytes c.args.route c.args.self.now _ _ _) c.in-Next.is c.in_ok-next.ensures.followed

pub returns-in-Next-clause-further : goal.returns-in-Next-clause-further
returns-in-Next-clause-further g c =
    let along = subst (AdvancesPastMember c.loop-p.p) c.in-Next.is c.in_ok-next.ensures.advances in
    omega (arith, along.0, c.loop-p.invariant.passed)

pub returns-then-p-route-clause-rejected : goal.returns-then-p-route-clause-rejected
returns-then-p-route-clause-rejected g c =
    let last = c.loop-p.invariant.last in
    let none : c.loop-p.p.depth ≡ 0 = omega arith in
    subst (IsFault g.K.Original.bytes c.args.route) (sym c.fault_after_root.ensures)
    (rejects-trailing last.after none last.progress.read.first (omega (arith, c.if-p-route)))

pub returns-clause-member : goal.returns-clause-member
returns-clause-member g c =
    let last = c.loop-p.invariant.last in
    end-built g.K.Original.bytes c.args.route c.args.self.now _ (g.B.Builder.node_room c.loop-p.builder) _ c.loop-p.p
    last.progress last.after (omega arith) (omega (arith, c.if-p-route, last.progress.read.within))
