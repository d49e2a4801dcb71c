use Rattle.std.proofs.Common.{sym, ◌∙◌, ℕ, List, arith, not, nat_eq}
use Rattle.std.proofs.lemmas.List.{get_or_default, take_rest}
use Rattle.simd_json_ondemand.proofs.Keys.{other-run, stop-closed, at-quote, escape-fits, other-escape, after-escape}
use Rattle.simd_json_ondemand.proofs.Keys.{both-empty, key-other, key-split, read-from-quote, written-is}
use Rattle.simd_json_ondemand.proofs.key.is_written.Goals as goal

pub loop-rest-init : goal.loop-rest-init
loop-rest-init g c =
    read-from-quote (not (nat_eq g.row.TOKEN 0)) c.args.bytes.now c.args.key.now c.requires.opening c.requires.closing c.requires.formed

pub returns-in_default : goal.returns-in_default
returns-in_default g c =
    let bs : List ℕ = c.args.bytes.now in
    let l = c.loop-rest in
    let i = l.invariant in
    written-is _ i.key _ _ i.is
    (other-run bs i.key l.from i.rest i.compared c.plain_end-end.result c.plain_end-end.ensures.value
    (key-other i.rest _ _ i.left_is c.in_default.ensures))

pub bounds-bytes-end : goal.bounds-bytes-end
bounds-bytes-end g c =
    let i = c.loop-rest.invariant in
    omega (
      arith,
      stop-closed c.args.bytes.now i.key c.loop-rest.from i.rest i.compared c.plain_end-end.result c.plain_end-end.ensures.value,
    )

pub returns-then-bytes-end-eq34 : goal.returns-then-bytes-end-eq34
returns-then-bytes-end-eq34 g c =
    let bs : List ℕ = c.args.bytes.now in
    let end : ℕ = c.plain_end-end.result in
    let l = c.loop-rest in
    let i = l.invariant in
    let inside = stop-closed bs i.key l.from i.rest i.compared end c.plain_end-end.ensures.value in
    let k = key-split i.rest _ _ _ i.left_is c.in-Some.ensures in
    written-is _ i.key _ _ i.is
    (c.is_empty.ensures ∙ both-empty (not (nat_eq g.row.TOKEN 0)) c.in-Some.rest.now k.0 k.1
    ∙ sym (at-quote bs i.key l.from i.rest i.compared end c.plain_end-end.ensures.value k.0 k.2
    (get_or_default bs end 32 0 (omega (arith, inside)) ∙ c.if-bytes-end-eq34.true)))

pub after_escape-requires : goal.after_escape-requires
after_escape-requires g c =
    let bs : List ℕ = c.args.bytes.now in
    let end : ℕ = c.plain_end-end.result in
    let l = c.loop-rest in
    let i = l.invariant in
    let inside = stop-closed bs i.key l.from i.rest i.compared end c.plain_end-end.ensures.value in
    let k = key-split i.rest _ _ _ i.left_is c.in-Some.ensures in
    rw take_rest (escape-fits bs i.key l.from i.rest i.compared end c.plain_end-end.ensures.value k.0 k.2
    (λ q. c.if-bytes-end-eq34.false (sym (get_or_default bs end 32 0 (omega (arith, inside))) ∙ q)))

pub returns-in_default-after_escape : goal.returns-in_default-after_escape
returns-in_default-after_escape g c =
    let bs : List ℕ = c.args.bytes.now in
    let end : ℕ = c.plain_end-end.result in
    let l = c.loop-rest in
    let i = l.invariant in
    let inside = stop-closed bs i.key l.from i.rest i.compared end c.plain_end-end.ensures.value in
    let k = key-split i.rest _ _ _ i.left_is c.in-Some.ensures in
    let never = rw take_rest at c.in_default-after_escape.ensures in
    written-is _ i.key _ _ i.is
    (other-escape bs i.key l.from i.rest i.compared end c.plain_end-end.ensures.value k.0 k.2
    (λ q. c.if-bytes-end-eq34.false (sym (get_or_default bs end 32 0 (omega (arith, inside))) ∙ q))
    (λ p more e. key-other k.0 p.0 _ k.1 (λ m. never p m e) more))

pub loop-rest-preserved : goal.loop-rest-preserved
loop-rest-preserved g c =
    let bs : List ℕ = c.args.bytes.now in
    let end : ℕ = c.plain_end-end.result in
    let l = c.loop-rest in
    let i = l.invariant in
    let inside = stop-closed bs i.key l.from i.rest i.compared end c.plain_end-end.ensures.value in
    let k = key-split i.rest _ _ _ i.left_is c.in-Some.ensures in
    let f = c.in-Some-after_escape.ensures in
    let m = key-split k.0 f.0 _ _ k.1 f.2 in
    record {
      key = i.key;
      is = i.is;
      rest = m.0;
      left_is = m.1;
      compared =
          after-escape bs i.key l.from i.rest i.compared end c.plain_end-end.ensures.value k.0 k.2
          (λ q. c.if-bytes-end-eq34.false (sym (get_or_default bs end 32 0 (omega (arith, inside))) ∙ q))
          f.0 c.in-Some-after_escape.more m.0 (rw take_rest at f.1) m.2;
    }
