use Rattle.std.proofs.Common.{◌∙◌, ap, sym, subst, arith}
use Rattle.std.proofs.lemmas.List.{length-set}
use Rattle.simd_json_stages.specs.Members.{HasCapacity, IsFault}
use Rattle.simd_json_stages.specs.declared.stage2.progress.Progress.{Progress}
use Rattle.simd_json_stages.specs.declared.stage2.stack.StackState.{StackState}
use Rattle.simd_json_stages.specs.declared.stage2.fault.FaultKind.TheVariants as kinds
use Rattle.simd_json_stages.proofs.Exits.{passed-as}
use Rattle.simd_json_stages.proofs.Machine.Bounds.{later, after-first, before-first}
use Rattle.simd_json_stages.proofs.Machine.BuildingSteps.{step-empty, step-open}
use Rattle.simd_json_stages.proofs.Machine.Following.{at-member}
use Rattle.simd_json_stages.proofs.Machine.Rejecting.{rejects-deep, rejects-open_end}
use Rattle.simd_json_stages.proofs.stage2.machine.Machine.open.Goals as goal

pub returns-then-p-route-clause-rejected : goal.returns-then-p-route-clause-rejected
returns-then-p-route-clause-rejected g c =
    let first = c.requires.first in
    subst (IsFault g.K.Original.bytes c.args.route) (sym c.fault.ensures)
    (rejects-deep c.args.container first.value first.progress.read.first (omega arith) c.requires.bracket)

pub next_token-requires : goal.next_token-requires
next_token-requires g c =
    let first = c.requires.first in
    record {
      on_route = first.on_route;
      read = first.progress.read;
      input = λ more. g.met.B.Builder.later g.K.Original.bytes c.args.builder.now _ _ first.progress.input
          (omega (arith, later _ _ first.on_route.positions c.args.p first.progress.read more));
    }

pub returns-in_err-q-clause-rejected : goal.returns-in_err-q-clause-rejected
returns-in_err-q-clause-rejected g c =
    let first = c.requires.first in
    let none = c.in_err-q.ensures.none in
    passed-as (IsFault g.K.Original.bytes c.args.route) c.from_residual.result c.from_residual.ensures.1 none.1
    (rejects-open_end c.args.container first.value first.progress.read.first (omega arith) c.requires.bracket none.0)

pub returns-then-q-closer-clause-came : goal.returns-then-q-closer-clause-came
returns-then-q-closer-clause-came g c =
    let first = c.requires.first in
    let next = c.in_ok-q.ensures.next in
    let put = c.push_header.ensures.put in
    record {
      on_route = first.on_route;
      capacities = subst (HasCapacity _ _ _) (sym c.push_header.ensures.room) first.capacities;
      progress = after-first first.on_route.positions _ _ _ put (g.met.B.Builder.later g.K.Original.bytes c.push_header.new.self)
          (c.push_header.ensures.reads g.K.Original.bytes) first.progress next;
      depth = omega (arith, ap (λ (q : Progress). q.depth) next.same, first.depth);
      after = step-empty c.args.container first.value first.progress.read.first put (omega arith) c.requires.bracket next
          (c.if-q-closer.true ∙ c.closer.ensures);
    }

pub returns-then-q-closer-clause-advances : goal.returns-then-q-closer-clause-advances
returns-then-q-closer-clause-advances g c =
    let same = c.in_ok-q.ensures.next.same in
    (omega (arith, ap (λ (q : Progress). q.read) same), ap (λ (q : Progress). q.depth) same, ap (λ (q : Progress). q.container) same)

pub returns-clause-came : goal.returns-clause-came
returns-clause-came g c =
    let first = c.requires.first in
    let r = first.progress in
    let next = c.in_ok-q.ensures.next in
    let put = c.push_header-2.ensures.put in
    let f : StackState = record { header = c.len.result; outer = c.args.p.container; len = c.args.p.len } in
    at-member g.K.Original.bytes c.args.route _ _ _ _ _ kinds.ExpectedObjectContent first.on_route
    (record {
      node_capacity = omega (arith, c.push_header-2.ensures.room, first.capacities.node_capacity);
      frame_capacity = omega (arith, length-set c.args.self.now.stack.now c.args.p.depth f, first.capacities.frame_capacity);
    })
    (before-first first.on_route.positions c.args.container _ _ _ put (g.met.B.Builder.later g.K.Original.bytes c.push_header-2.new.self)
    (c.push_header-2.ensures.reads g.K.Original.bytes) r next) (omega arith) (omega arith)
    (step-open c.args.container first.value r.read.first put c.len.ensures (omega (arith, r.few, r.deep)) (omega arith)
    c.requires.bracket next (λ is. c.if-q-closer.false (is ∙ sym c.closer.ensures)))
