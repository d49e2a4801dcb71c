use Rattle.std.proofs.Common.{◌≡◌, ◌∙◌, sym, ap, refl, ◌==◌, ◌+◌, ◌<◌, length, arith}
use Rattle.std.specs.List.{list_any, range_with_len}
use Rattle.simd_json_parts.specs.Bytes.{backslash, is_control, byte_at}
use Rattle.simd_json_stages.specs.Classes.{is_space_or_quote, is_op_or_quote}
use Rattle.simd_json_stages.specs.Words.{HasBits, is_set}
use Rattle.simd_json_stages.proofs.Scan.Bits.Combined.{bits-same}
use Rattle.simd_json_stages.proofs.Scan.Bits.Operations.{is_set-zero}
use Rattle.simd_json_stages.specs.Carries.{is_escaped_at}
use Rattle.simd_json_stages.proofs.Scan.BlockWords.{any-bytes, AreEscaped, escaped-some, escaped-none, classified-found}
use Rattle.simd_json_stages.proofs.Scan.RestLaws.{filled, filled-each, filled-bytes, bits-moved, bits-filled, any-set}
use Rattle.simd_json_stages.proofs.stage1.words.classify_last.Goals.{then-backslash-ne0, else-backslash-ne0}
use Rattle.simd_json_stages.proofs.stage1.words.classify_last.Goals as goal

pub returns : goal.returns
returns c = λ b i block before.
    let xs = c.args.bytes.now in
    let len = c.args.len in
    let long : length xs ≡ 64 = omega arith in
    let short = c.requires in
    let m = c.classes-m.ensures in
    let k = c.last_bits-backslash in
    let has : HasBits k.result (λ j. byte_at b (i + j) == backslash) = bits-same
    (bits-moved xs len long short (λ x. x == backslash) c.backslashes.result _ c.backslashes.ensures k.ensures refl)
    (λ j l. ap (λ x. x == backslash) (block.same j l)) in
    let found : AreEscaped b i c.if-backslash-ne0.escaped.escaped c.if-backslash-ne0.escaped.next = elim c.if-backslash-ne0.branch [
      | then-backslash-ne0 w ↦ rw w.escaped-is (escaped-some b i k.result _ _ has (w.find_escaped.ensures (is_escaped_at b i) before))
      | else-backslash-ne0 w ↦ rw w.escaped-is (escaped-none b i c.args.before before
          (λ j l. sym (has.bits j l) ∙ ap (λ x. is_set x j) w.if-backslash-ne0.false ∙ is_set-zero j))
    ] in
    classified-found b i (filled len xs) _ block (filled-bytes xs len long short c.fits-bytes)
    (bits-filled xs len long short is_space_or_quote _ _ m.space_or_quote c.last_bits.ensures _ c.last_bits-2.ensures refl)
    (bits-moved xs len long short is_op_or_quote _ _ m.op_or_quote c.last_bits-3.ensures refl)
    (bits-moved xs len long short is_control _ _ m.control c.last_bits-4.ensures refl)
    (λ zero. filled-each xs len long short (λ x. x < 128) (omega arith) (m.ascii zero))
    (any-set (λ j. byte_at b j == backslash) i _ has
    ∙ sym (any-bytes (λ x. x == backslash) (byte_at b) i (filled len xs) (λ j l. block.same j (omega (arith, block.len)))
    ∙ ap (λ n. list_any (λ j. byte_at b j == backslash) (range_with_len i n)) block.len))
    found
