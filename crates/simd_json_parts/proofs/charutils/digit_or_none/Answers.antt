use Rattle.std.proofs.Common.{rules}
use Rattle.simd_json_parts.proofs.HexDigits.{counted-table, counted-table-bound}
use Rattle.simd_json_parts.proofs.charutils.digit_or_none.Goals as goal

pub returns-clause-value : goal.returns-clause-value
returns-clause-value c = search (rules, counted-table)

pub returns-clause-bound : goal.returns-clause-bound
returns-clause-bound c = search (rules, counted-table-bound)
