use Rattle.std.proofs.Common.{true, false, refl, ◌≡◌, ◌≢◌, ◌∙◌, ap, sym, Some, length, inl, eq-eqb, arith}
use Rattle.std.proofs.lemmas.Bool.{ne_eqb}
use Rattle.std.proofs.lemmas.List.{length-take-le}
use Rattle.simd_json_parts.proofs.Positions.ScannedInputs.{too_large}
use Rattle.simd_json_parts.specs.Positions.{positions}
use Rattle.simd_json_stages.proofs.Scan.WholeFaults.{fault-found, scan-fault}
use Rattle.simd_json_stages.proofs.stage1.BlockStage1ParseStage1Parse.find_structural_bits.Goals as goal
use Rattle.simd_json_stages.proofs.Exits.{passed-on}

pub returns-then-input-clause-fault : goal.returns-then-input-clause-fault
returns-then-input-clause-fault g c = inl (too_large c.args.input.now (omega arith) ∙ ap Some (sym c.generic.ensures))

pub returns-in_err-done-clause-fault : goal.returns-in_err-done-clause-fault
returns-in_err-done-clause-fault g c =
    passed-on c.from_residual.result _ _ c.from_residual.ensures.1
    (scan-fault c.args.input.now _ _ _ _ _ (omega arith) (omega arith) (omega arith) c.in_err-done.ensures.fault)

pub returns-in_err-has_bad_string-clause-fault : goal.returns-in_err-has_bad_string-clause-fault
returns-in_err-has_bad_string-clause-fault g c =
    let first = c.in_ok-done.ensures.longer in
    passed-on c.from_residual-in_err-has_bad_string.result _ _ c.from_residual-in_err-has_bad_string.ensures.1
    (scan-fault c.args.input.now _ _ _ _ _ (omega arith) first.0 first.1 c.in_err-has_bad_string.ensures.fault)

pub returns-then-has_bad_string-clause-fault : goal.returns-then-has_bad_string-clause-fault
returns-then-has_bad_string-clause-fault g c =
    let f = c.in_ok-has_bad_string.ensures.found in
    inl (fault-found c.args.input.now true _ (omega arith) f.encoding (sym f.bad ∙ c.if-has_bad_string.true) refl
    ∙ ap Some (sym c.generic-then-has_bad_string.ensures))

pub returns-then-found-eq0-clause-fault : goal.returns-then-found-eq0-clause-fault
returns-then-found-eq0-clause-fault g c =
    let b = c.args.input.now in
    let f = c.in_ok-has_bad_string.ensures.found in
    let n = c.in_ok-has_bad_string.found.positions in
    let none : length (positions b) ≡ 0 =
    omega (arith, ap length f.listed, length-take-le n c.scan_rest.new.structural_indexes.items f.within) in
    inl (fault-found b false true (omega arith) f.encoding (sym f.bad ∙ c.if-has_bad_string.false) (eq-eqb _ _ none)
    ∙ ap Some (sym c.generic-then-found-eq0.ensures))

pub returns-clause-found : goal.returns-clause-found
returns-clause-found g c =
    let b = c.args.input.now in
    let f = c.in_ok-has_bad_string.ensures.found in
    let n = c.in_ok-has_bad_string.found.positions in
    let some : length (positions b) ≢ 0 = λ none.
    omega (arith, ap length f.listed, length-take-le n c.scan_rest.new.structural_indexes.items f.within) in
    (f.within, f.listed, fault-found b false false (omega arith) f.encoding (sym f.bad ∙ c.if-has_bad_string.false) (ne_eqb _ _ some))
