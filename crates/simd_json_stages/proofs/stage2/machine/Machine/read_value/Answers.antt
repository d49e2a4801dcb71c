use Rattle.std.proofs.Common.{sym, subst}
use Rattle.simd_json_stages.specs.Members.{HasCapacity, IsFault}
use Rattle.simd_json_stages.proofs.Exits.{passed-on}
use Rattle.simd_json_stages.proofs.Machine.Bounds.{node-left, last-inside, value-token, string-ahead, scalar-ahead, after-value}
use Rattle.simd_json_stages.proofs.Machine.BuildingSteps.{step-scalar, step-string}
use Rattle.simd_json_stages.proofs.Machine.Rejecting.{rejects-scalar, rejects-string}
use Rattle.simd_json_stages.proofs.stage2.machine.Machine.read_value.Goals.{then-p-eq34+in_ok-push_string, else-p-eq34+in_ok-push_scalar}
use Rattle.simd_json_stages.proofs.stage2.machine.Machine.read_value.Goals as goal

pub push_string-requires : goal.push_string-requires
push_string-requires g c =
    let given = c.requires in
    record {
      on_route = given.on_route;
      read = given.progress.read;
      token = value-token given.on_route.positions given.value;
      opening = c.if-p-eq34.true;
      input = given.progress.input;
      room = node-left given.progress given.depth given.capacities;
    }

pub returns-in_err-push_string-clause-rejected : goal.returns-in_err-push_string-clause-rejected
returns-in_err-push_string-clause-rejected g c =
    passed-on c.from_residual.result _ (IsFault g.K.Original.bytes c.args.route) c.from_residual.ensures.1
    (rejects-string _ c.requires.value c.requires.progress.read.first c.if-p-eq34.true c.in_err-push_string.ensures.rejected)

pub push_scalar-requires : goal.push_scalar-requires
push_scalar-requires g c =
    let given = c.requires in
    record {
      at = record {
        input = given.progress.input;
        within = last-inside _ _ given.on_route.positions c.args.p given.progress.read;
        first = given.progress.read.first;
        room = node-left given.progress given.depth given.capacities;
      };
      no_string = c.if-p-eq34.false;
      no_array = c.if-p-eq91.false;
      no_object = c.if-p-eq123.false;
    }

pub returns-in_err-push_scalar-clause-rejected : goal.returns-in_err-push_scalar-clause-rejected
returns-in_err-push_scalar-clause-rejected g c =
    passed-on c.from_residual-in_err-push_scalar.result _ (IsFault g.K.Original.bytes c.args.route)
    c.from_residual-in_err-push_scalar.ensures.1 (rejects-scalar _ c.requires.value c.in_err-push_scalar.ensures.rejected)

pub returns-clause-came : goal.returns-clause-came
returns-clause-came g c =
    let given = c.requires in
    let r = given.progress in
    let e = given.on_route.positions in
    let t = value-token e given.value in
    elim c.if-p-eq34.branch [
      | then-p-eq34+in_ok-push_string w ↦
          let put = w.in_ok-push_string.ensures.put in
          rw w.builder-is record {
            on_route = given.on_route;
            capacities = subst (HasCapacity _ _ _) (sym w.in_ok-push_string.ensures.sink.0) given.capacities;
            progress = after-value e _ _ _ put.put r
                (string-ahead e (g.met.B.Builder.later g.K.Original.bytes w.push_string.new.builder) r.read t w.if-p-eq34.true put);
            depth = given.depth;
            after = step-string given.value r.read.first w.if-p-eq34.true put;
          }
      | else-p-eq34+in_ok-push_scalar w ↦
          let put = w.in_ok-push_scalar.ensures.put in
          rw w.builder-is record {
            on_route = given.on_route;
            capacities = subst (HasCapacity _ _ _) (sym w.in_ok-push_scalar.ensures.sink.0) given.capacities;
            progress = after-value e _ _ _ put.put r
                (scalar-ahead e (g.met.B.Builder.later g.K.Original.bytes w.push_scalar.new.builder) r.read t put);
            depth = given.depth;
            after = step-scalar given.value put;
          }
    ]
