use Rattle.std.proofs.Common.{◌≡◌, flat_map, length, take}
use Rattle.std.specs.Prelude.{option_map}
use Rattle.programs.specs.Cells.{after_mark}
use Rattle.simd_json.specs.Viewed.{doc}
use Rattle.simd_json_print.specs.Texts.{Adds}
use Rattle.jpick.specs.Rows.{cell_at, mark_of}
use Rattle.jpick.proofs.rows.put_others.Given as goal

abbrev pub invariant-loop-query : goal.invariant-loop-query
invariant-loop-query g l = record {
  frames : length l.frames ≡ length l.fn.frames;
  put : Adds g.T.Target.state l.fn.text l.text
      (flat_map (after_mark (mark_of l.wanted.layout) (cell_at l.wanted (option_map doc l.value))) (take l.query-index l.queries));
}
