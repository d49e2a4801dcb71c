use Rattle.std.proofs.Common.{◌≡◌, ◌+◌, ◌*◌, ◌≤◌, ◌<◌, ◌++◌, length, take, drop, subst, refl, sym, ap, ◌∙◌, true, false, eqb-true, inr}
use Rattle.std.proofs.Common.{arith}
use Rattle.std.proofs.lemmas.List.{length-set}
use lib.Count.{ones}
use Rattle.simd_json_stages.specs.EscapeBlocks.{backslash_blocks}
use Rattle.simd_json_stages.specs.Words.{set_bits}
use Rattle.simd_json_stages.proofs.Scan.EncodingLaws.{utf8-reached}
use Rattle.simd_json_stages.proofs.Scan.RestLaws.{whole, rest-bad, rest-positions, rest-few, rest-listed, rest-blocks}
use Rattle.simd_json_stages.proofs.Scan.ScanLaws.{written-back, prefix, stored-next}
use Rattle.simd_json_stages.proofs.stage1.scan.scan_rest.Goals as goal
use Rattle.simd_json_stages.proofs.stage1.scan.scan_rest.Goals.{then-classified+in_ok-grow-2, else-classified}
use Rattle.simd_json_stages.proofs.Exits.{passed-on}

pub check_window-requires-clause-ascii : goal.check_window-requires-clause-ascii
check_window-requires-clause-ascii g c = λ zero i from end.
    c.classify_rest-classified.ensures.ascii (eqb-true _ _ zero) i from (omega arith)

pub grow-requires : goal.grow-requires
grow-requires g c =
    let b = c.args.input.now in
    let s = c.requires.scanned in
    let classified = c.classify_rest-classified.ensures in
    let placed = c.find_starts-placed.ensures b _ (c.find_parts-parts.ensures b _ classified.classes) classified.classes.control
    s.placed.carried in
    rest-few b c.args.done.placing _ c.find_starts-placed.result s.placed placed

pub grow-requires-then-classified : goal.grow-requires-then-classified
grow-requires-then-classified g c =
    let m = c.classify_rest-classified in
    omega (
      arith,
      rest-listed c.args.input.now c.args.done.classifying _ m.result c.requires.scanned.classified m.ensures c.if-classified.true,
      c.div_ceil-max_blocks.ensures,
    )

pub returns-clause-found : goal.returns-clause-found
returns-clause-found g c =
    let b = c.args.input.now in
    let s = c.requires.scanned in
    let t = c.classify_rest-classified.result in
    let m = c.find_starts-placed.result in
    let classified = c.classify_rest-classified.ensures in
    let placed = c.find_starts-placed.ensures b _ (c.find_parts-parts.ensures b _ classified.classes) classified.classes.control
    s.placed.carried in
    let a = c.grow in
    let w = c.write_exactly in
    let xs = w.new.structural_indexes in
    let d = c.args.done.classifying in
    let p = c.args.done.placing in
    let out : take a.new.list.len (xs ++ drop (length xs) a.new.list.items) ≡ xs = written-back xs _ _ (omega arith) in
    let total : w.result ≡ p.used + ones m.starts = omega arith in
    let before : take p.used c.as_mut_slice.result.now ≡ take p.used c.args.structural_indexes.now.items = ap
    (take p.used) c.as_mut_slice.ensures.value ∙ prefix p.used _ _ s.placed.within a.ensures.kept in
    let capacity : p.used + ones m.starts ≤ length xs = omega
    (arith, ap length c.as_mut_slice.ensures.value, c.in_ok-grow.ensures.capacity) in
    let utf8 = c.in_ok-check_window.ensures.utf8 in
    let end : c.in_ok-check_window.field-0 ≡ length b = c.in_ok-check_window.ensures.whole refl in
    let blocks : (c.if-classified.listed ≤ length c.if-classified.escape_blocks.items) ×
    (take c.if-classified.listed c.if-classified.escape_blocks.items ≡ backslash_blocks b) =
    elim c.if-classified.branch [
      | then-classified+in_ok-grow-2 w ↦
          let y = c.args.escape_blocks.now.items in
          let z = w.grow-then-classified.new.list.items in
          let more : d.listed < length z = omega (arith, w.in_ok-grow-2.ensures.capacity) in
          let next = stored-next d.listed (whole b) y z s.classified.within w.grow-then-classified.ensures.kept more in
          rw (w.escape_blocks-is, w.listed-is) (
            omega (arith, length-set z d.listed (whole b)),
            next ∙ rest-blocks b d _ t true s.classified classified w.if-classified.true,
          )
      | else-classified w ↦ rw (w.escape_blocks-is, w.listed-is)
          (s.classified.within, rest-blocks b d _ t false s.classified classified w.if-classified.false)
    ] in
    record {
      encoding = utf8-reached b c.in_ok-check_window.field-0 end utf8.1;
      bad = rest-bad b p _ m s.placed placed;
      within = subst (λ ys. p.used + ones m.starts ≤ length ys) (sym out) capacity;
      listed = ap (take (p.used + ones m.starts)) out ∙ ap (λ n. take n xs) (sym total) ∙ w.ensures.written
          ∙ ap (λ l. l ++ set_bits 64 (64 * whole b) m.starts) before
          ∙ rest-positions b p _ m s.placed placed;
      blocks_within = blocks.0;
      blocks_listed = blocks.1;
    }

pub returns-in_err-grow-2-clause-fault : goal.returns-in_err-grow-2-clause-fault
returns-in_err-grow-2-clause-fault g c =
    let b = c.args.input.now in
    let e = c.in_err-grow-2.ensures.fault in
    let end : c.in_ok-check_window.field-0 ≡ length b = c.in_ok-check_window.ensures.whole refl in
    passed-on c.from_residual-in_err-grow-2.result _ _ c.from_residual-in_err-grow-2.ensures.1
    (inr (
      e.0,
      c.requires.size,
      utf8-reached b c.in_ok-check_window.field-0 end c.in_ok-check_window.ensures.utf8.1,
      inr (omega
          (arith, e.1, c.div_ceil-max_blocks.ensures)),
    ))
