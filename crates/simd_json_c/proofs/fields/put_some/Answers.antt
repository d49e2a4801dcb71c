use Rattle.std.proofs.Common.{◌≡◌, ◌<◌, ◌≤◌, ◌+◌, ◌∙◌, ap, sym, refl, subst, arith, length, set, None, Some, option_map}
use Rattle.std.specs.List.{slice_range}
use Rattle.std.specs.Result.{result_ok}
use Rattle.std.proofs.lemmas.Option.{slice_get_read}
use Rattle.simd_json_parts.specs.Document.{Document}
use Rattle.simd_json_parts.specs.Pointed.{pointed}
use Rattle.simd_json_ondemand.specs.Docs.{doc}
use Rattle.simd_json_ondemand.specs.Prepared.{pointer_text}
use Rattle.simd_json_ondemand.specs.Reached.{pointed_at}
use Rattle.simd_json_ondemand.specs.Sites.{site}
use Rattle.simd_json_ondemand.specs.Walks.{found as reached}
use Rattle.simd_json_c.specs.Fields.{AreFieldsFrom}
use Rattle.simd_json_c.proofs.Several.{alike, at-range, field-from, fields-further, some-at}
use Rattle.simd_json_c.proofs.fields.put_some.Goals as goal

pub loop-k-preserved : goal.loop-k-preserved
loop-k-preserved c =
    let root = c.args.root in
    let ws = c.args.wanted.now in
    let from = c.args.from in
    let to = c.args.to in
    let k = c.loop-k.k in
    let few : from + k < to =
    omega (arith, c.loop-k-test.true, c.pointers.auto.values, c.split_at_mut-found.ensures.front_len, c.requires.some) in
    let p = some-at ws (from + k) (omega (arith, few, c.requires.wanted)) in
    let part = at-range ws from to k few ∙ p.1 in
    let o = c.index-found-k.result in
    let at = slice_get_read c.pointers.new.values _ k o refl c.loop-k-test.true c.index-found-k.is in
    let walk =
    alike (option_map site) (λ p. reached (pointed_at (pointer_text p) (site root))) c.pointers.new.values (slice_range ws from to) k o p.0
    c.pointers.ensures.walk at part in
    let is = field-from root (pointer_text p.0) o c.field_of.result walk
    (λ d h. alike (option_map doc) (λ p. option_map (λ (e : Document). Some e) (result_ok (pointed (pointer_text p) d)))
    c.pointers.new.values (slice_range ws from to) k o p.0 (c.pointers.ensures.document d h) at part) c.field_of.ensures in
    let next : (from + k) + 1 ≡ from + (k + 1) = omega arith in
    let fits : from + k < length c.loop-k.fields = omega (arith, few, c.requires.fields, c.loop-k.auto.fields) in
    subst (λ n. AreFieldsFrom root ws from n c.args.fields.now (set c.loop-k.fields (from + k) c.field_of.result)) next
    (fields-further root ws from (from + k) c.args.fields.now c.loop-k.fields p.0 c.field_of.result (omega arith) fits c.loop-k.invariant
    p.1 is)
