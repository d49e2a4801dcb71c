use Rattle.std.proofs.Common.{length, drop, ap, eqb-true, arith}
use Rattle.std.proofs.lemmas.Str.{IsUtf8-nil}
use Rattle.simd_json_stages.proofs.Scan.ScanLaws.{IsScanned-none, IsScanned-longer, IsScanned-back, AreBlocks-chunks, length-back}
use Rattle.simd_json_stages.proofs.Scan.BlockScanLaws.{scanned, CanList-after}
use Rattle.simd_json_stages.proofs.stage1.scan.scan_blocks.Goals as goal

pub loop-first-init : goal.loop-first-init
loop-first-init g c =
    record {
      to = omega arith;
      scanned = IsScanned-none c.args.input.now _ _;
      checked = (omega arith, IsUtf8-nil);
      longer = omega arith;
      blocks_longer = omega arith;
    }

pub scan_window-done-requires : goal.scan_window-done-requires
scan_window-done-requires g c = record {
  order = omega arith;
  within = omega arith;
  short = omega arith;
  capacity = omega (arith, c.in_ok-checked.ensures.capacity, ap length c.as_mut_slice.ensures.value);
  block_capacity = CanList-after _ _ _ _ _ _ _ _ c.in_ok-checked.ensures.block_capacity (omega arith) (omega arith) (omega arith)
      (omega (arith, ap length c.as_mut_slice-in-loop-first.ensures.value));
}

pub check_window-requires-clause-ascii : goal.check_window-requires-clause-ascii
check_window-requires-clause-ascii g c = λ zero.
    let b = c.args.input.now in
    let before = IsScanned-longer c.loop-first.invariant.scanned c.capacity_for.ensures.kept c.capacity_for.ensures.longer
    c.as_mut_slice.ensures.value c.as_mut_slice-in-loop-first.ensures.value in
    let chunks = AreBlocks-chunks b c.args.blocks.now c.requires.blocks c.requires.len in
    (c.scan_window-done.ensures.classifies.ascii b chunks before.classified (eqb-true _ _ zero)).1

pub loop-first-preserved : goal.loop-first-preserved
loop-first-preserved g c =
    let b = c.args.input.now in
    let w = c.scan_window-done in
    let before = IsScanned-longer c.loop-first.invariant.scanned c.capacity_for.ensures.kept c.capacity_for.ensures.longer
    c.as_mut_slice.ensures.value c.as_mut_slice-in-loop-first.ensures.value in
    let chunks = AreBlocks-chunks b c.args.blocks.now c.requires.blocks c.requires.len in
    let a = c.capacity_for.new.structural_indexes in
    let z = c.capacity_for.new.escape_blocks in
    let first = ap length c.as_mut_slice.ensures.value in
    let second = ap length c.as_mut_slice-in-loop-first.ensures.value in
    record {
      to = omega arith;
      scanned = IsScanned-back _ _ _ _ (omega arith) (omega arith) (scanned w.ensures b chunks before);
      checked = c.in_ok-checked-2.ensures.utf8;
      longer = omega (arith, length-back w.new.structural_indexes (drop (length w.new.structural_indexes) a.items) a.len);
      blocks_longer = omega (arith, length-back w.new.escape_blocks (drop (length w.new.escape_blocks) z.items) z.len);
    }
