use Rattle.std.proofs.Common.{sym, subst, ◌≤◌, length, arith}
use Rattle.simd_json_scalars.specs.NumeralRead.{IsNumeralAt}
use Rattle.simd_json_stages.specs.Put.{IsNoScalar}
use Rattle.simd_json_stages.proofs.Exits.{passed-on}
use Rattle.simd_json_stages.proofs.Machine.ScalarPut.{decimal-asked, decimal-put, integer-asked, integer-put, offset-within}
use Rattle.simd_json_stages.proofs.Machine.ScalarPut.{number-rejected}
use Rattle.simd_json_stages.proofs.stage2.scalar.push_number.Goals as goal
use Rattle.simd_json_stages.proofs.stage2.scalar.push_number.Goals.{in-Some, in-None}

pub push_decimal-requires-clause-literal : goal.push_decimal-requires-clause-literal
push_decimal-requires-clause-literal g c =
    let b = g.K.Original.bytes in
    let after = sym (c.from-rest.ensures.bytes b c.requires.at.input) in
    decimal-asked (λ b. g.B.Builder.reads b c.args.builder.now) c.requires c.in-Decimal.len
    (subst (IsNumeralAt b c.args.p.at) c.in-Decimal.is (elim c.match-parse_short.branch [
      | in-Some w ↦ rw w.numeral-is (w.in-Some.ensures b c.args.p.at after)
      | in-None w ↦ rw w.numeral-is (w.parse_numeral-numeral.ensures b c.args.p.at after)
    ]))

pub returns-in-Decimal-clause-put : goal.returns-in-Decimal-clause-put
returns-in-Decimal-clause-put g c =
    let b = g.K.Original.bytes in
    let input = c.requires.at.input in
    let after = sym (c.from-rest.ensures.bytes b input) in
    decimal-put (λ b. g.B.Builder.reads b c.args.builder.now) c.requires c.in-Decimal.len
    (subst (IsNumeralAt b c.args.p.at) c.in-Decimal.is (elim c.match-parse_short.branch [
      | in-Some w ↦ rw w.numeral-is (w.in-Some.ensures b c.args.p.at after)
      | in-None w ↦ rw w.numeral-is (w.parse_numeral-numeral.ensures b c.args.p.at after)
    ])) (c.push_decimal.ensures.put b input) (c.push_decimal.ensures.reads b input)

pub returns-in-Invalid-clause-rejected : goal.returns-in-Invalid-clause-rejected
returns-in-Invalid-clause-rejected g c =
    let b = g.K.Original.bytes in
    let given = c.requires in
    let after = sym (c.from-rest.ensures.bytes b given.at.input) in
    let is = subst (IsNumeralAt b c.args.p.at) c.in-Invalid.is (elim c.match-parse_short.branch [
      | in-Some w ↦ rw w.numeral-is (w.in-Some.ensures b c.args.p.at after)
      | in-None w ↦ rw w.numeral-is (w.parse_numeral-numeral.ensures b c.args.p.at after)
    ]) in
    let within = subst (λ bs. c.in-Invalid.offset ≤ length bs) after
    (offset-within b c.args.p.at c.in-Invalid.offset (omega (arith, given.at.within)) is) in
    number-rejected b c.args.p.at c.in-Invalid.offset c.invalid_number.result given.form is (c.invalid_number.ensures b after within)

pub returns-in_err-node-in-Long-clause-rejected : goal.returns-in_err-node-in-Long-clause-rejected
returns-in_err-node-in-Long-clause-rejected g c =
    let b = g.K.Original.bytes in
    let given = c.requires in
    let after = sym (c.from-rest.ensures.bytes b given.at.input) in
    let read = c.in_err-node-in-Long.ensures b after (omega (arith, given.at.within)) in
    passed-on c.from_residual.result _ (IsNoScalar b c.args.p.at) c.from_residual.ensures.1
    (number-rejected b c.args.p.at read.0 _ given.form read.1 read.2)

pub push_integer-requires-clause-literal : goal.push_integer-requires-clause-literal
push_integer-requires-clause-literal g c =
    let b = g.K.Original.bytes in
    let given = c.requires in
    let after = sym (c.from-rest.ensures.bytes b given.at.input) in
    integer-asked (λ b. g.B.Builder.reads b c.args.builder.now) given c.in_ok-node-in-Long.node c.in-Long.len
    (c.in_ok-node-in-Long.ensures b after (omega (arith, given.at.within)))

pub returns-in_ok-node-in-Long-clause-put : goal.returns-in_ok-node-in-Long-clause-put
returns-in_ok-node-in-Long-clause-put g c =
    let b = g.K.Original.bytes in
    let given = c.requires in
    let after = sym (c.from-rest.ensures.bytes b given.at.input) in
    integer-put (λ b. g.B.Builder.reads b c.args.builder.now) given c.in_ok-node-in-Long.node c.in-Long.len
    (c.in_ok-node-in-Long.ensures b after (omega (arith, given.at.within)))
    c.push_integer.ensures.put (c.push_integer.ensures.reads b given.at.input)
