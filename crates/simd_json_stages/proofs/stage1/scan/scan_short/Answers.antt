use Rattle.std.proofs.Common.{[], length, ap, eqb-true, arith}
use Rattle.simd_json_stages.proofs.Scan.ScanLaws.{IsScanned-none, IsScanned-same, IsScanned-back, AreBlocks-chunks}
use Rattle.simd_json_stages.proofs.Scan.BlockScanLaws.{scanned, CanList-after}
use Rattle.simd_json_stages.proofs.stage1.scan.scan_short.Goals as goal

pub scan_few-done-requires : goal.scan_few-done-requires
scan_few-done-requires g c = record {
  order = omega arith;
  within = omega arith;
  short = omega arith;
  capacity = omega (arith, c.in_ok-checked.ensures.capacity, ap length c.as_mut_slice.ensures.value);
  block_capacity = CanList-after _ _ _ _ _ _ _ _ c.in_ok-checked.ensures.block_capacity (omega arith) (omega arith) (omega arith)
      (omega (arith, ap length c.as_mut_slice-2.ensures.value));
}

pub check_window-requires-clause-ascii : goal.check_window-requires-clause-ascii
check_window-requires-clause-ascii g c = λ zero.
    let b = c.args.input.now in
    let chunks = AreBlocks-chunks b c.args.blocks.now c.requires.blocks c.requires.len in
    (c.scan_few-done.ensures.classifies.ascii b chunks (IsScanned-none b [] _).classified (eqb-true _ _ zero)).1

pub returns-clause-scanned : goal.returns-clause-scanned
returns-clause-scanned g c =
    let b = c.args.input.now in
    let chunks = AreBlocks-chunks b c.args.blocks.now c.requires.blocks c.requires.len in
    IsScanned-same c.requires.len (IsScanned-back _ _ _ _ (omega arith) (omega arith)
    (scanned c.scan_few-done.ensures b chunks (IsScanned-none b _ _)))
