use Rattle.std.proofs.Common.{arith}
use Rattle.std.proofs.lemmas.Bool.Decides.{nat_tests}
use Rattle.simd_json_parts.proofs.Utf8Writes.{two-written, three-written, four-written}
use Rattle.simd_json_parts.proofs.charutils.codepoint_to_utf8.Goals as goal

pub returns-then-code-lt2048-clause-written : goal.returns-then-code-lt2048-clause-written
returns-then-code-lt2048-clause-written c =
    two-written c.args.bytes.now c.args.cp (grind (arith, nat_tests)) c.if-code-lt128.false c.if-code-lt2048.true

pub returns-then-code-lt65536-clause-written : goal.returns-then-code-lt65536-clause-written
returns-then-code-lt65536-clause-written c =
    three-written c.args.bytes.now c.args.cp (grind (arith, nat_tests)) c.if-code-lt2048.false c.if-code-lt65536.true

pub returns-else-code-lt65536-clause-written : goal.returns-else-code-lt65536-clause-written
returns-else-code-lt65536-clause-written c = four-written c.args.bytes.now c.args.cp (grind (arith, nat_tests)) c.if-code-lt65536.false
