use Rattle.std.proofs.Common.{◌+◌}
use Rattle.simd_json_c.specs.Fields.{AreFieldsFrom}
use Rattle.simd_json_c.proofs.fields.put_some.Given as goal

abbrev pub invariant-loop-k : goal.invariant-loop-k
invariant-loop-k l = AreFieldsFrom l.root l.wanted l.from (l.from + l.k) l.fn.fields l.fields
