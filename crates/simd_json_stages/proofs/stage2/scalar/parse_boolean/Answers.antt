use Rattle.std.proofs.Common.{sym, ◌∙◌, inl, inr, arith}
use Rattle.simd_json_stages.proofs.Tokens.Booleans.{spelt}
use Rattle.simd_json_stages.proofs.stage2.scalar.parse_boolean.Goals as goal

pub returns-then-bytes-end-ne101 : goal.returns-then-bytes-end-ne101
returns-then-bytes-end-ne101 c =
    let s = spelt c.args.bytes.now (omega arith) (λ k. (c.type_inv.bytes k).fits) c.from_le_bytes-letters.result
    c.from_le_bytes-letters.ensures c.if-letters-is_true.false in
    s.none (elim c.then-bytes-end-ne101.branch [
      | goal.then-bytes-end-ne101-via-then-bytes-end-ne101 w ↦ inl w.if-bytes-end-ne101.true
      | goal.then-bytes-end-ne101-via-else-bytes-end-ne101+then-not-is_structural_or_whitespace w ↦ inr
          (sym w.is_structural_or_whitespace.ensures ∙ w.if-not-is_structural_or_whitespace.true)
    ])

pub returns : goal.returns
returns c =
    let s = spelt c.args.bytes.now (omega arith) (λ k. (c.type_inv.bytes k).fits) c.from_le_bytes-letters.result
    c.from_le_bytes-letters.ensures c.if-letters-is_true.false in
    s.whole (c.if-bytes-end-ne101.false, sym c.is_structural_or_whitespace.ensures ∙ c.if-not-is_structural_or_whitespace.false)
