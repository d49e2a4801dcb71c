use Rattle.std.proofs.Common.{◌≡◌, ◌+◌, ◌-◌, ◌∙◌, ◌++◌, sym, subst, length, take, flat_map, arith}
use Rattle.simd_json_parts.specs.Printed.{escaped_byte}
use Rattle.simd_json_print.proofs.Stores.{stored-run}
use Rattle.simd_json_print.proofs.Unescaped.{front-within, unescaped-front, unescaped-vector, unescaped-prefix, unescaped-further}
use Rattle.simd_json_print.proofs.text.collected.store_vectors.Goals as goal

pub returns-then-escapes-ne0-clause-within : goal.returns-then-escapes-ne0-clause-within
returns-then-escapes-ne0-clause-within g c =
    let s = c.store_marked-escapes in
    omega (
      arith,
      front-within c.args.bytes.now c.loop-done.done g.row.N s.result
          (omega arith) c.requires.few.1 s.ensures.escapes c.if-escapes-ne0.true,
    )

pub returns-then-escapes-ne0-clause-stored : goal.returns-then-escapes-ne0-clause-stored
returns-then-escapes-ne0-clause-stored g c =
    let l = c.loop-done in
    let s = c.store_marked-escapes in
    let within = front-within c.args.bytes.now l.done g.row.N s.result
    (omega arith) c.requires.few.1 s.ensures.escapes c.if-escapes-ne0.true in
    stored-run c.args.all.now l.all s.new.all c.args.bytes.now c.args.at l.done l.done g.row.N _ (omega arith) within
    (omega (arith, c.requires.room)) l.invariant.stored s.ensures.stored

pub returns-then-escapes-ne0-clause-plain : goal.returns-then-escapes-ne0-clause-plain
returns-then-escapes-ne0-clause-plain g c =
    let l = c.loop-done in
    let s = c.store_marked-escapes in
    let within = front-within c.args.bytes.now l.done g.row.N s.result
    (omega arith) c.requires.few.1 s.ensures.escapes c.if-escapes-ne0.true in
    let more = unescaped-front c.args.bytes.now l.done g.row.N s.result
    (omega arith) c.requires.few.1 s.ensures.escapes c.if-escapes-ne0.true in
    unescaped-prefix c.args.bytes.now _ (omega (arith, within))
    (unescaped-further c.args.bytes.now l.done l.done _ (omega arith) l.invariant.plain more)

pub loop-done-preserved : goal.loop-done-preserved
loop-done-preserved g c =
    let l = c.loop-done in
    let s = c.store_marked-escapes in
    let more = unescaped-vector c.args.bytes.now l.done g.row.N (omega arith) (sym s.ensures.escapes ∙ c.if-escapes-ne0.false) in
    record {
      within = omega arith;
      stored = stored-run c.args.all.now l.all s.new.all c.args.bytes.now c.args.at l.done l.done g.row.N g.row.N (omega arith)
          (omega arith) (omega (arith, c.requires.room)) l.invariant.stored s.ensures.stored;
      size = s.ensures.size ∙ l.invariant.size;
      plain = unescaped-further c.args.bytes.now l.done l.done g.row.N (omega arith) l.invariant.plain more;
    }

pub returns-then-escapes-ne0-2-clause-within : goal.returns-then-escapes-ne0-2-clause-within
returns-then-escapes-ne0-2-clause-within g c =
    let s = c.store_marked-escapes-2 in
    omega (
      arith,
      front-within c.args.bytes.now (length c.args.bytes.now - g.row.N) g.row.N s.result
          (omega arith) c.requires.few.1 s.ensures.escapes c.if-escapes-ne0-2.true,
    )

pub returns-then-escapes-ne0-2-clause-stored : goal.returns-then-escapes-ne0-2-clause-stored
returns-then-escapes-ne0-2-clause-stored g c =
    let l = c.loop-done in
    let s = c.store_marked-escapes-2 in
    let last = length c.args.bytes.now - g.row.N in
    let within = front-within c.args.bytes.now last g.row.N s.result
    (omega arith) c.requires.few.1 s.ensures.escapes c.if-escapes-ne0-2.true in
    stored-run c.args.all.now l.all s.new.all c.args.bytes.now c.args.at last l.done g.row.N _ (omega arith) within
    (omega (arith, c.requires.room)) l.invariant.stored s.ensures.stored

pub returns-then-escapes-ne0-2-clause-plain : goal.returns-then-escapes-ne0-2-clause-plain
returns-then-escapes-ne0-2-clause-plain g c =
    let l = c.loop-done in
    let s = c.store_marked-escapes-2 in
    let last = length c.args.bytes.now - g.row.N in
    let within = front-within c.args.bytes.now last g.row.N s.result
    (omega arith) c.requires.few.1 s.ensures.escapes c.if-escapes-ne0-2.true in
    let more = unescaped-front c.args.bytes.now last g.row.N s.result
    (omega arith) c.requires.few.1 s.ensures.escapes c.if-escapes-ne0-2.true in
    unescaped-prefix c.args.bytes.now _ (omega (arith, within))
    (unescaped-further c.args.bytes.now last l.done _ (omega arith) l.invariant.plain more)

pub returns-clause-stored : goal.returns-clause-stored
returns-clause-stored g c =
    let l = c.loop-done in
    let s = c.store_marked-escapes-2 in
    let last = length c.args.bytes.now - g.row.N in
    let all : last + g.row.N ≡ length c.args.bytes.now = omega arith in
    subst (λ n. take (c.args.at + n) s.new.all ≡ take c.args.at c.args.all.now ++ take n c.args.bytes.now) all
    (stored-run c.args.all.now l.all s.new.all c.args.bytes.now c.args.at last l.done g.row.N g.row.N (omega arith) (omega arith)
    (omega (arith, c.requires.room)) l.invariant.stored s.ensures.stored)

pub returns-clause-plain : goal.returns-clause-plain
returns-clause-plain g c =
    let l = c.loop-done in
    let s = c.store_marked-escapes-2 in
    let last = length c.args.bytes.now - g.row.N in
    let all : last + g.row.N ≡ length c.args.bytes.now = omega arith in
    let more = unescaped-vector c.args.bytes.now last g.row.N (omega arith) (sym s.ensures.escapes ∙ c.if-escapes-ne0-2.false) in
    subst (λ n. flat_map escaped_byte (take n c.args.bytes.now) ≡ take n c.args.bytes.now) all
    (unescaped-prefix c.args.bytes.now (last + g.row.N) (omega arith)
    (unescaped-further c.args.bytes.now last l.done g.row.N (omega arith) l.invariant.plain more))
