use Rattle.std.proofs.Common.{◌≡◌, ◌<◌, ◌∙◌, ap, refl, arith, None, Some, length, option_map}
use Rattle.std.specs.Result.{result_ok}
use Rattle.std.proofs.lemmas.List.{drop_all, get_or_default, get_or-set_other}
use Rattle.std.proofs.lemmas.Option.{slice_get_read, slice_get_within}
use Rattle.simd_json_parts.specs.Document.{Document}
use Rattle.simd_json_parts.specs.Pointed.{pointed}
use Rattle.simd_json_ondemand.specs.Docs.{doc}
use Rattle.simd_json_ondemand.specs.Prepared.{pointer_text}
use Rattle.simd_json_ondemand.specs.Reached.{pointed_at}
use Rattle.simd_json_ondemand.specs.Sites.{site}
use Rattle.simd_json_ondemand.specs.Walks.{found}
use Rattle.simd_json_ondemand.proofs.Several.{all-document, all-walk, holds-further, holds-still, maps-agree}
use Rattle.simd_json_ondemand.proofs.value.Value.pointers.Goals.{then-not-is_walked, else-not-is_walked+else-not-pointers-k}
use Rattle.simd_json_ondemand.proofs.value.Value.pointers.Goals as goal

pub behind-requires : goal.behind-requires
behind-requires g c = λ walked keyed.
    let l = c.loop-k in
    let p = c.index-pointers-k-then-not-is_walked.result in
    let at = slice_get_read c.args.pointers.now _ l.k p refl c.loop-k-test.true c.index-pointers-k-then-not-is_walked.is in
    let fits : l.k < length l.values =
    omega (arith, c.loop-k-test.true, c.requires, l.auto.values, c.find_keys-is_walked.ensures.length) in
    ap (option_map site) (c.index-values-k.is ∙ get_or_default l.values l.k _ None fits)
    ∙ l.invariant.keys walked l.k p at keyed (omega arith)

pub loop-k-preserved : goal.loop-k-preserved
loop-k-preserved g c =
    let v = c.args.self in
    let l = c.loop-k in
    let ps = c.args.pointers.now in
    let fits : l.k < length l.values =
    omega (arith, c.loop-k-test.true, c.requires, l.auto.values, c.find_keys-is_walked.ensures.length) in
    elim c.if-not-is_walked.branch [
      | then-not-is_walked w ↦
          let p = w.index-pointers-k-then-not-is_walked.result in
          let at = slice_get_read ps _ l.k p refl c.loop-k-test.true w.index-pointers-k-then-not-is_walked.is in
          rw w.values-is (record {
            walk = holds-further (λ p o. option_map site o ≡ found (pointed_at (pointer_text p) (site v))) ps l.values
                w.behind.result None l.k p at fits l.invariant.walk w.behind.ensures.walk;
            document = λ d h.
                holds-further (λ p o. option_map doc o ≡ option_map (λ (e : Document). Some e) (result_ok (pointed (pointer_text p) d)))
                ps l.values w.behind.result None l.k p at fits (l.invariant.document d h) (w.behind.ensures.document d h);
            keys = λ walked j q there keyed later.
                ap (option_map site) (get_or-set_other l.values l.k j w.behind.result None (λ e. omega (arith, e, later)))
                ∙ l.invariant.keys walked j q there keyed (omega (arith, later));
          })
      | else-not-is_walked+else-not-pointers-k w ↦
          let p = w.index-pointers-k.result in
          let at = slice_get_read ps _ l.k p refl c.loop-k-test.true w.index-pointers-k.is in
          let alone = p.alone (ap (λ q. q.is_key) w.index-pointers-k.is ∙ w.if-not-pointers-k.false) in
          let first = l.invariant.keys w.if-not-is_walked.false l.k p at alone.0 (omega arith) in
          let ends = drop_all p.key_end (pointer_text p) (omega (arith, alone.1)) in
          rw w.values-is (record {
            walk = holds-still (λ p o. option_map site o ≡ found (pointed_at (pointer_text p) (site v))) ps l.values None l.k p at
                l.invariant.walk (all-walk (pointer_text p) p.key_end (p.keyed alone.0).at v _ None first ends);
            document = λ d h.
                holds-still (λ p o. option_map doc o ≡ option_map (λ (e : Document). Some e) (result_ok (pointed (pointer_text p) d)))
                ps l.values None l.k p at (l.invariant.document d h)
                (all-document (pointer_text p) p.key_end (p.keyed alone.0).at v _ None first ends d h);
            keys = λ walked j q there keyed later. l.invariant.keys walked j q there keyed (omega (arith, later));
          })
    ]

pub returns-clause-walk : goal.returns-clause-walk
returns-clause-walk g c =
    let v = c.args.self in
    let size : length c.loop-k.values ≡ length c.args.pointers.now =
    omega (arith, c.requires, c.loop-k.auto.values, c.find_keys-is_walked.ensures.length) in
    maps-agree (option_map site) (λ p. found (pointed_at (pointer_text p) (site v))) c.loop-k.values c.args.pointers.now None size
    (λ k p at. c.loop-k.invariant.walk k p at
    (omega (arith, slice_get_within c.args.pointers.now k p at, c.loop-k-test.false)))

pub returns-clause-document : goal.returns-clause-document
returns-clause-document g c = λ d h.
    let size : length c.loop-k.values ≡ length c.args.pointers.now =
    omega (arith, c.requires, c.loop-k.auto.values, c.find_keys-is_walked.ensures.length) in
    maps-agree (option_map doc) (λ p. option_map (λ (e : Document). Some e) (result_ok (pointed (pointer_text p) d))) c.loop-k.values
    c.args.pointers.now None size
    (λ k p at. c.loop-k.invariant.document d h k p at
    (omega (arith, slice_get_within c.args.pointers.now k p at, c.loop-k-test.false)))
