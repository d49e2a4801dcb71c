use Rattle.std.proofs.Common.{slice_index_or, refl, arith}
use Rattle.simd_json_scalars.specs.declared.stringparse.escapes.TheConstants.{ESCAPED}
use Rattle.simd_json_scalars.proofs.Strings.EscapeTable.{escapes-table, escapes-table-ascii}
use Rattle.simd_json_scalars.proofs.stringparse.escapes.escape.Goals as goal

pub returns-then-character-ne0-clause-value : goal.returns-then-character-ne0-clause-value
returns-then-character-ne0-clause-value c =
    escapes-table ESCAPED c.args.bytes.now refl (omega (arith, c.type_inv.bytes 1)) c.requires c.if-character-ne0.true

pub returns-then-character-ne0-clause-shorter : goal.returns-then-character-ne0-clause-shorter
returns-then-character-ne0-clause-shorter c =
    escapes-table-ascii ESCAPED (slice_index_or c.args.bytes.now 1 0) refl (omega (arith, c.type_inv.bytes 1))
