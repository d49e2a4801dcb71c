use Rattle.std.proofs.Common.{sym, subst, arith}
use Rattle.simd_json_stages.specs.Members.{HasCapacity, IsFault}
use Rattle.simd_json_stages.proofs.Exits.{passed-on, passed-as}
use Rattle.simd_json_stages.proofs.Machine.Bounds.{node-left, name-token, next-ahead, string-ahead, two-advances}
use Rattle.simd_json_stages.proofs.Machine.BuildingSteps.{step-name}
use Rattle.simd_json_stages.proofs.Machine.Following.{named-progress}
use Rattle.simd_json_stages.proofs.Machine.Rejecting.{rejects-no_name, rejects-name, rejects-name_end, rejects-no_colon, rejects-colon_end}
use Rattle.simd_json_stages.proofs.stage2.machine.Machine.read_key.Goals as goal

pub returns-then-p-ne34-clause-rejected : goal.returns-then-p-ne34-clause-rejected
returns-then-p-ne34-clause-rejected g c =
    subst (IsFault g.K.Original.bytes c.args.route) (sym c.fault.ensures)
    (rejects-no_name c.args.kind c.requires.name c.requires.progress.read.first c.if-p-ne34.true)

pub push_string-requires : goal.push_string-requires
push_string-requires g c =
    let given = c.requires in
    record {
      on_route = given.on_route;
      read = given.progress.read;
      token = name-token given.on_route.positions given.name;
      opening = c.if-p-ne34.false;
      input = given.progress.input;
      room = node-left given.progress given.depth given.capacities;
    }

pub returns-in_err-push_string-clause-rejected : goal.returns-in_err-push_string-clause-rejected
returns-in_err-push_string-clause-rejected g c =
    passed-on c.from_residual.result _ (IsFault g.K.Original.bytes c.args.route) c.from_residual.ensures.1
    (rejects-name c.requires.name c.requires.progress.read.first c.if-p-ne34.false _ c.in_err-push_string.ensures.rejected)

pub next_token-requires : goal.next_token-requires
next_token-requires g c =
    let given = c.requires in
    let e = given.on_route.positions in
    let r = given.progress in
    record {
      on_route = given.on_route;
      read = r.read;
      input = string-ahead e (g.met.B.Builder.later g.K.Original.bytes c.push_string.new.builder) r.read (name-token e given.name)
          c.if-p-ne34.false c.in_ok-push_string.ensures.put;
    }

pub returns-in_err-colon-clause-rejected : goal.returns-in_err-colon-clause-rejected
returns-in_err-colon-clause-rejected g c =
    let none = c.in_err-colon.ensures.none in
    passed-as (IsFault g.K.Original.bytes c.args.route) c.from_residual-in_err-colon.result c.from_residual-in_err-colon.ensures.1 none.1
    (rejects-name_end c.requires.name c.requires.progress.read.first c.if-p-ne34.false c.in_ok-push_string.ensures.put none.0)

pub returns-then-colon-ne58-clause-rejected : goal.returns-then-colon-ne58-clause-rejected
returns-then-colon-ne58-clause-rejected g c =
    subst (IsFault g.K.Original.bytes c.args.route) (sym c.fault-then-colon-ne58.ensures)
    (rejects-no_colon c.requires.name c.requires.progress.read.first c.if-p-ne34.false c.in_ok-push_string.ensures.put
    c.in_ok-colon.ensures.next c.if-colon-ne58.true)

pub next_token-requires-2 : goal.next_token-requires-2
next_token-requires-2 g c =
    let given = c.requires in
    let e = given.on_route.positions in
    let r = given.progress in
    let next = c.in_ok-colon.ensures.next in
    let kept = g.met.B.Builder.later g.K.Original.bytes c.push_string.new.builder in
    record {
      on_route = given.on_route;
      read = next.read;
      input = next-ahead e kept next
          (string-ahead e kept r.read (name-token e given.name) c.if-p-ne34.false c.in_ok-push_string.ensures.put next.more);
    }

pub returns-in_err-value-clause-rejected : goal.returns-in_err-value-clause-rejected
returns-in_err-value-clause-rejected g c =
    let none = c.in_err-value.ensures.none in
    passed-as (IsFault g.K.Original.bytes c.args.route) c.from_residual-in_err-value.result c.from_residual-in_err-value.ensures.1 none.1
    (rejects-colon_end c.requires.name c.requires.progress.read.first c.if-p-ne34.false c.in_ok-push_string.ensures.put
    c.in_ok-colon.ensures.next c.if-colon-ne58.false none.0)

pub returns-clause-advances : goal.returns-clause-advances
returns-clause-advances g c = two-advances c.in_ok-colon.ensures.next c.in_ok-value.ensures.next

pub returns-clause-value : goal.returns-clause-value
returns-clause-value g c =
    let given = c.requires in
    let e = given.on_route.positions in
    let r = given.progress in
    let put = c.in_ok-push_string.ensures.put in
    let n = c.in_ok-colon.ensures.next in
    let m = c.in_ok-value.ensures.next in
    let kept = g.met.B.Builder.later g.K.Original.bytes c.push_string.new.builder in
    record {
      on_route = given.on_route;
      capacities = subst (HasCapacity _ _ _) (sym c.in_ok-push_string.ensures.sink.0) given.capacities;
      progress = named-progress e kept _ _ _ put.put r (string-ahead e kept r.read (name-token e given.name) c.if-p-ne34.false put n.more)
          n m;
      depth = omega (arith, (two-advances n m).1, given.depth);
      value = step-name given.name r.read.first c.if-p-ne34.false put n c.if-colon-ne58.false m;
    }
