use Rattle.std.proofs.Common.{◌<◌, ◌/◌, ◌%◌, arith, rules}
use Rattle.simd_json_print.proofs.Letters.{letters-table, digits-table, as-it-is, by-letter, by-number}
use Rattle.simd_json_print.proofs.text.Text.put_byte.Goals as goal

pub returns-then-letter-eq0 : goal.returns-then-letter-eq0
returns-then-letter-eq0 g c = as-it-is _ _ _ _ _ c.put.ensures c.if-letter-eq0.true (search (rules, letters-table))

pub returns-then-letter-eq117 : goal.returns-then-letter-eq117
returns-then-letter-eq117 g c =
    let tens : c.args.byte / 16 < 16 = omega arith in
    let ones : c.args.byte % 16 < 16 = omega arith in
    by-number _ _ _ c.args.byte _ _ _ c.put-then-letter-eq117.ensures c.if-letter-eq117.true (search (rules, letters-table))
    (search (rules, digits-table)) (search (rules, digits-table))

pub returns-else-letter-eq117 : goal.returns-else-letter-eq117
returns-else-letter-eq117 g c = by-letter _ _ _ c.args.byte _ c.put-else-letter-eq117.ensures c.if-letter-eq0.false
    c.if-letter-eq117.false (search (rules, letters-table))
