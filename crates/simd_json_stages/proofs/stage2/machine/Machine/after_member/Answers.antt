use Rattle.std.proofs.Common.{◌<◌, ◌∙◌, ap, sym, subst, length, arith}
use Rattle.std.proofs.lemmas.List.{length-set}
use Rattle.simd_json_stages.specs.Building.{closer, content_kind, top}
use Rattle.simd_json_stages.specs.Members.{HasCapacity, IsFault}
use Rattle.simd_json_stages.specs.declared.stage2.progress.Progress.{Progress}
use Rattle.simd_json_stages.specs.declared.stage2.fault.FaultKind.TheVariants as kinds
use Rattle.simd_json_stages.proofs.Exits.{passed-as}
use Rattle.simd_json_stages.proofs.Machine.Bounds.{next-ahead, two-advances}
use Rattle.simd_json_stages.proofs.Machine.BuildingSteps.{closed_at, top-header, step-close, step-comma}
use Rattle.simd_json_stages.proofs.Machine.Following.{at-member, comma-progress, closed-after}
use Rattle.simd_json_stages.proofs.Machine.Holding.{HasHeader}
use Rattle.simd_json_stages.proofs.Machine.Rejecting.{rejects-end, rejects-comma_end, rejects-other}
use Rattle.simd_json_stages.proofs.stage2.machine.Machine.after_member.Goals as goal

pub returns-in_err-q-clause-rejected : goal.returns-in_err-q-clause-rejected
returns-in_err-q-clause-rejected g c =
    let none = c.in_err-q.ensures.none in
    passed-as (IsFault g.K.Original.bytes c.args.route) c.from_residual.result c.from_residual.ensures.1 none.1
    (rejects-end c.requires.last.after c.requires.inside none.0)

pub next_token-requires-then-q-eq44 : goal.next_token-requires-then-q-eq44
next_token-requires-then-q-eq44 g c =
    let last = c.requires.last in
    let next = c.in_ok-q.ensures.next in
    record {
      on_route = last.on_route;
      read = next.read;
      input = next-ahead last.on_route.positions (g.met.B.Builder.later g.K.Original.bytes c.args.builder.now) next
          (last.progress.input next.more);
    }

pub returns-in_err-next_token-clause-rejected : goal.returns-in_err-next_token-clause-rejected
returns-in_err-next_token-clause-rejected g c =
    let none = c.in_err-next_token.ensures.none in
    passed-as (IsFault g.K.Original.bytes c.args.route) c.from_residual-in_err-next_token.result
    c.from_residual-in_err-next_token.ensures.1 none.1
    (rejects-comma_end c.requires.last.after c.requires.inside c.in_ok-q.ensures.next c.if-q-eq44.true none.0)

pub returns-then-q-eq44-clause-advances : goal.returns-then-q-eq44-clause-advances
returns-then-q-eq44-clause-advances g c =
    let l = two-advances c.in_ok-q.ensures.next c.in_ok-next_token.ensures.next in (l.0, l.2)

pub returns-then-q-eq44-clause-followed : goal.returns-then-q-eq44-clause-followed
returns-then-q-eq44-clause-followed g c =
    let last = c.requires.last in
    let n = c.in_ok-q.ensures.next in
    let m = c.in_ok-next_token.ensures.next in
    let l = two-advances n m in
    at-member g.K.Original.bytes c.args.route c.args.self.now _ _ _ _ kinds.ExpectedObjectKey last.on_route last.capacities
    (comma-progress last.on_route.positions (g.met.B.Builder.later g.K.Original.bytes c.args.builder.now) last.progress n m)
    (omega (arith, l.1, last.depth)) (omega (arith, l.1, c.requires.inside))
    (step-comma last.after c.requires.inside n c.if-q-eq44.true m)

pub returns-then-q-closer-clause-rejected : goal.returns-then-q-closer-clause-rejected
returns-then-q-closer-clause-rejected g c =
    let given = c.requires in
    subst (IsFault g.K.Original.bytes c.args.route)
    (sym (c.fault.ensures ∙ ap (λ k. record { kind = k; index = c.in_ok-q.q.at; byte = c.in_ok-q.q.byte })
    (c.content_kind.ensures ∙ ap content_kind given.container)))
    (rejects-other given.last.after given.inside c.in_ok-q.ensures.next c.if-q-eq44.false
    (λ is. c.if-q-closer.true (is ∙ sym (c.closer.ensures ∙ ap closer given.container))))

pub close-requires : goal.close-requires
close-requires g c =
    let given = c.requires in
    let stack = c.args.self.now.stack.now in
    let nodes = g.B.Builder.held_nodes c.args.builder.now in
    let same = sym c.in_ok-q.ensures.next.same in
    let depth = ap (λ (q : Progress). q.depth) same in
    let held = subst (λ (q : Progress). HasHeader nodes (top stack q.depth).header × ((top stack q.depth).len < length nodes)) same
    (top-header given.last.after given.inside) in
    record {
      depth = (omega (arith, depth), omega (arith, depth));
      header = held.0.0;
      headed = held.0.1;
      len = held.1;
      container = given.container ∙ ap (λ (q : Progress). q.container) same;
    }

pub returns-clause-advances : goal.returns-clause-advances
returns-clause-advances g c = omega (
  arith,
  ap (λ (q : Progress). q.read) (c.close.ensures.progress ∙ ap (closed_at c.args.self.now.stack.now) c.in_ok-q.ensures.next.same),
)

pub returns-clause-followed : goal.returns-clause-followed
returns-clause-followed g c =
    let given = c.requires in
    let last = given.last in
    let stack = c.args.self.now.stack.now in
    let next = c.in_ok-q.ensures.next in
    let close = c.close.ensures in
    record {
      on_route = last.on_route;
      capacities = subst (HasCapacity _ _ _) (sym close.sink.0) last.capacities;
      progress = closed-after last.on_route.positions stack (ap length close.nodes ∙ length-set _ _ _)
          (g.met.B.Builder.later g.K.Original.bytes c.close.new.builder) (close.reads g.K.Original.bytes) last.progress given.inside
          (top-header last.after given.inside).1 next close.progress;
      depth = omega (arith, last.depth, ap (λ (q : Progress). q.depth) (close.progress ∙ ap (closed_at stack) next.same));
      after = step-close last.after given.inside next (c.if-q-closer.false ∙ c.closer.ensures ∙ ap closer given.container)
          close.progress close.nodes;
    }
