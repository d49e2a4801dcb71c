use Rattle.std.proofs.Common.{refl, sym, ◌∙◌, ap, subst, length, arith}
use Rattle.std.proofs.lemmas.Bool.{eqb-true}
use Rattle.simd_json_check.specs.Whole.{AreStringsRead, IsValue}
use Rattle.simd_json_check.proofs.Along.{value-answered}
use Rattle.simd_json_check.proofs.Escaped.{strings-read}
use Rattle.simd_json_check.proofs.Scans.{some_position}
use Rattle.simd_json_check.proofs.check.is_document.Goals as goal

pub value_end-requires-clause-scanned : goal.value_end-requires-clause-scanned
value_end-requires-clause-scanned c = record { listed = c.requires.positions; whole = c.requires.whole }

pub value_end-requires-clause-at : goal.value_end-requires-clause-at
value_end-requires-clause-at c = some_position _ _ (record { listed = c.requires.positions; whole = c.requires.whole })

pub value_end-requires-clause-strings : goal.value_end-requires-clause-strings
value_end-requires-clause-strings c =
    let b = c.args.input.now in
    subst (AreStringsRead b) (sym c.requires.positions) (strings-read b (c.if-not-are_escapes_valid.ensures refl))

pub returns-in-Some : goal.returns-in-Some
returns-in-Some c all =
    let b = c.args.input.now in
    let is = c.args.scanned.structural_indexes.now in
    let end = c.in-Some.end in
    value-answered b c.min.result c.args.max_depth end c.requires.whole (omega (arith, c.min.ensures))
    (eqb-true end (length is) all ∙ ap length c.requires.positions)
    (subst (λ is. IsValue b is c.min.result 0 end) c.requires.positions c.in-Some.ensures.value)
