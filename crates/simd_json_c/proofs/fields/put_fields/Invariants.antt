use Rattle.std.proofs.Common.{◌≡◌, ◌-◌, ◌≤◌, length}
use Rattle.simd_json_c.specs.Fields.{AreFieldsFrom}
use Rattle.simd_json_c.proofs.fields.put_fields.Given as goal

abbrev pub invariant-loop-done : goal.invariant-loop-done
invariant-loop-done l = record {
  bound : l.done ≤ l.count;
  put : AreFieldsFrom l.root l.wanted 0 l.done l.fn.fields l.fields;
}

abbrev pub decreases-loop-done : goal.decreases-loop-done
decreases-loop-done l = l.count - l.done
