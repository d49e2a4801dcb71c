use Rattle.std.proofs.Common.{◌<◌, ◌∙◌, ap, option_map, drop, Some, arith}
use Rattle.std.specs.Result.{result_ok}
use Rattle.simd_json_parts.specs.Document.{Document}
use Rattle.simd_json_parts.specs.Pointed.{pointed}
use Rattle.simd_json_ondemand.specs.Prepared.{pointer_text}
use Rattle.simd_json_ondemand.specs.Reached.{pointed_at}
use Rattle.simd_json_ondemand.specs.Sites.{site}
use Rattle.simd_json_ondemand.specs.Walks.{found}
use Rattle.simd_json_ondemand.proofs.Several.{nowhere-document, nowhere-walk, there-document, there-walk}
use Rattle.simd_json_ondemand.proofs.value.Value.behind.Goals as goal

pub returns-in-Some-clause-walk : goal.returns-in-Some-clause-walk
returns-in-Some-clause-walk g c =
    let p = c.args.pointer.now in
    let keyed : 0 < p.key_end = omega (arith, c.if-pointer-eq0.false) in
    let rest = c.range_from.ensures.value ∙ ap (drop p.key_end) c.as_str-text.ensures.value in
    there-walk (pointer_text p) p.key_end (p.keyed keyed).at c.args.self c.args.first c.pointer-in-Some.result
    (c.requires c.if-not-is_walked.false keyed) c.in-Some.value c.in-Some.is
    (c.pointer-in-Some.ensures.walk ∙ ap (λ q. found (pointed_at q (site c.in-Some.value))) rest)

pub returns-in-Some-clause-document : goal.returns-in-Some-clause-document
returns-in-Some-clause-document g c =
    let p = c.args.pointer.now in
    let keyed : 0 < p.key_end = omega (arith, c.if-pointer-eq0.false) in
    let rest = c.range_from.ensures.value ∙ ap (drop p.key_end) c.as_str-text.ensures.value in
    there-document (pointer_text p) p.key_end (p.keyed keyed).at c.args.self c.args.first c.pointer-in-Some.result
    (c.requires c.if-not-is_walked.false keyed) c.in-Some.value c.in-Some.is
    (λ x h. c.pointer-in-Some.ensures.document x h ∙ ap (λ q. option_map (λ (e : Document). Some e) (result_ok (pointed q x))) rest)

pub returns-in-None-clause-walk : goal.returns-in-None-clause-walk
returns-in-None-clause-walk g c =
    let p = c.args.pointer.now in
    let keyed : 0 < p.key_end = omega (arith, c.if-pointer-eq0.false) in
    nowhere-walk (pointer_text p) p.key_end (p.keyed keyed).at c.args.self c.args.first c.args.first
    (c.requires c.if-not-is_walked.false keyed) c.in-None.is

pub returns-in-None-clause-document : goal.returns-in-None-clause-document
returns-in-None-clause-document g c =
    let p = c.args.pointer.now in
    let keyed : 0 < p.key_end = omega (arith, c.if-pointer-eq0.false) in
    nowhere-document (pointer_text p) p.key_end (p.keyed keyed).at c.args.self c.args.first c.args.first
    (c.requires c.if-not-is_walked.false keyed) c.in-None.is
