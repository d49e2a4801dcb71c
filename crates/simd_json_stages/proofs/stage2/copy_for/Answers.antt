use Rattle.std.proofs.Common.{◌-◌, ◌∙◌, length, sym, inl, inr, arith}
use Rattle.std.specs.Prelude.{slice_index}
use Rattle.std.proofs.lemmas.Bool.{eqb-true}
use Rattle.std.proofs.lemmas.List.{get_or_default}
use Rattle.simd_json_stages.proofs.Machine.Bounds.{inside}
use Rattle.simd_json_stages.proofs.Machine.InputLaws.{no-blocks}
use Rattle.simd_json_stages.proofs.Scan.WholeFaults.{some-listed}
use Rattle.simd_json_stages.proofs.stage2.copy_for.Goals as goal
use Rattle.simd_json_stages.proofs.stage2.copy_for.Goals.{else-last-ne93-via-then-last-ne93+else-last-ne125}
use Rattle.simd_json_stages.proofs.stage2.copy_for.Goals.{else-last-ne93-via-else-last-ne93}

pub overflow_sub-last : goal.overflow_sub-last
overflow_sub-last c = omega (arith, some-listed _ _ c.requires.positions c.requires.whole)

pub bounds-indexes-indexes : goal.bounds-indexes-indexes
bounds-indexes-indexes c = omega (arith, some-listed _ _ c.requires.positions c.requires.whole)

pub bounds-input-indexes : goal.bounds-input-indexes
bounds-input-indexes c =
    inside _ _ c.requires.positions _ (omega (arith, some-listed _ _ c.requires.positions c.requires.whole))

pub returns-then-is_empty : goal.returns-then-is_empty
returns-then-is_empty c =
    let b = c.args.input.now in
    let i = slice_index c.args.scanned.structural_indexes.now (length c.args.scanned.structural_indexes.now - 1) in
    let byte = get_or_default b i 0 32
    (inside _ _ c.requires.positions _ (omega (arith, some-listed _ _ c.requires.positions c.requires.whole))) in
    record {
      positions = c.requires.positions;
      whole = c.requires.whole;
      closes = λ _. elim c.else-last-ne93.branch [
        | else-last-ne93-via-then-last-ne93+else-last-ne125 w ↦ inr (sym byte ∙ w.if-last-ne125.false)
        | else-last-ne93-via-else-last-ne93 w ↦ inl (sym byte ∙ w.if-last-ne93.false)
      ];
      plain = λ _. no-blocks b c.args.scanned.escape_blocks.now c.requires.escapes
          (eqb-true _ 0 (sym c.is_empty.ensures ∙ c.if-is_empty.true));
    }
