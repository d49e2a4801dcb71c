use Rattle.std.proofs.Common.{◌∙◌, ◌==◌, ap, sym, arith}
use Rattle.simd_json_parts.specs.Bytes.{backslash}
use Rattle.simd_json_stages.proofs.Scan.Bits.Combined.{bits-same}
use Rattle.simd_json_stages.proofs.Scan.BlockWords.{none-any, escaped-some, escaped-none, classified-found}
use Rattle.simd_json_stages.specs.Carries.{is_escaped_at}
use Rattle.simd_json_stages.proofs.stage1.words.classify.Goals as goal

pub returns-then-m-clause-classified : goal.returns-then-m-clause-classified
returns-then-m-clause-classified c = λ b i e before.
    let m = c.classes-m.ensures in
    let found = escaped-some b i c.backslashes.result _ _ (bits-same c.backslashes.ensures (λ n l. ap (λ y. y == backslash) (e.same n l)))
    (c.find_escaped-e.ensures (is_escaped_at b i) before) in
    classified-found b i c.args.bytes.now _ e c.fits-bytes m.space_or_quote m.op_or_quote m.control m.ascii m.escapes found

pub returns-else-m-clause-classified : goal.returns-else-m-clause-classified
returns-else-m-clause-classified c = λ b i e before.
    let m = c.classes-m.ensures in
    let none = none-any (λ y. y == backslash) c.args.bytes.now (sym m.escapes ∙ c.if-m.false) in
    let found = escaped-none b i c.args.before before (λ n l. ap (λ y. y == backslash) (sym (e.same n l))
    ∙ none n (omega (arith, e.len))) in
    classified-found b i c.args.bytes.now _ e c.fits-bytes m.space_or_quote m.op_or_quote m.control m.ascii m.escapes found
