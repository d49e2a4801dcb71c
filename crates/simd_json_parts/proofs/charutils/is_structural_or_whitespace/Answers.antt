use Rattle.std.proofs.Common.{rules}
use Rattle.simd_json_parts.proofs.Tables.{terminators-table}
use Rattle.simd_json_parts.proofs.charutils.is_structural_or_whitespace.Goals as goal

pub returns : goal.returns
returns c = search (rules, terminators-table)
