use Rattle.std.proofs.Common.{refl, arith}
use Rattle.simd_json_parts.proofs.Pointers.Keys.{escaped-first, plain-first, some-bytes}
use Rattle.simd_json_parts.proofs.pointer.key.first_byte.Goals as goal

pub returns-then-token-ne126 : goal.returns-then-token-ne126
returns-then-token-ne126 c =
    plain-first c.args.token.now (some-bytes c.args.token.now c.if-is_empty.ensures) c.if-token-ne126.true

pub returns-in-48 : goal.returns-in-48
returns-in-48 c =
    escaped-first c.args.token.now 48 126 (omega (arith, some-bytes c.args.token.now c.if-is_empty.ensures, c.if-token-eq1.false))
    c.if-token-ne126.false c.in-48.is (λ r. refl)

pub returns-in-49 : goal.returns-in-49
returns-in-49 c =
    escaped-first c.args.token.now 49 47 (omega (arith, some-bytes c.args.token.now c.if-is_empty.ensures, c.if-token-eq1.false))
    c.if-token-ne126.false c.in-49.is (λ r. refl)
