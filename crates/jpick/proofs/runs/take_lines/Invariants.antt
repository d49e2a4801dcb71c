use Rattle.std.proofs.Common.{◌≡◌, false, List, ℕ, Option}
use Rattle.simd_json_print.specs.Texts.{TargetState}
use Rattle.jpick.specs.Picked.{no_line}
use Rattle.jpick.specs.Putting.{Shows}
use Rattle.jpick.specs.declared.fields.Wanted.{Wanted}
use Rattle.jpick.proofs.Picking.{IsAt}
use Rattle.jpick.proofs.runs.take_lines.Given as goal

abbrev pub invariant-loop : goal.invariant-loop
invariant-loop g l = record {
  reader : l.reader.failed ≡ false;
  rejections : l.rejections.failed ≡ false;
  same_target : l.rows.target.ghost_name ≡ l.fn.rows.target.ghost_name;
  at : (start : TargetState) (named : Option (List ℕ)) (w : Wanted) (file : List ℕ)
      → Shows g.T.Target.state start l.fn.picker l.fn.rows named (g.E.Write.contents l.fn.rejections.inner) w file no_line
      → IsAt g.T.Target.state start w file l.picker l.rows l.lines l.line.items (g.R.Read.remaining l.fn.reader.inner)
      (g.R.Read.remaining l.reader.inner) named (g.E.Write.contents l.rejections.inner);
}
