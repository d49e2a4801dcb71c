use Rattle.std.proofs.Common.{sym, refl, rules, w32}
use Rattle.std.proofs.lemmas.Int.{to_z-of_z}
use mir.Val.{SFits}
use Rattle.simd_json_c.proofs.Malformed.{lost, site-lost}
use Rattle.simd_json_c.proofs.Naming.{lacks, lacks-value, names, names-value}
use Rattle.simd_json_c.proofs.demand.put_named.Goals as goal

pub returns-in-Some : goal.returns-in-Some
returns-in-Some c =
    let fits : SFits w32 c.put_value.result = search rules in
    let p = c.args.pointer.now in
    let v = c.in-Some.value in
    let n = c.in-Some.ensures in
    let put = c.put_value.ensures in
    rw to_z-of_z (
      λ no. let none = n.none no in absurd (cc),
      λ bad. let none = n.unnamed bad in absurd (cc),
      λ scanned utf8. (
        names p _ _ _ (site-lost p _) _ (n.place scanned utf8) (v, refl, put.any),
        λ d limit is.
            names-value p _ _ _ (lost p d) _ (n.named scanned utf8 d limit is)
            (λ e same. (v, sym (n.place scanned utf8), same, put.document e same)),
      ),
    )

pub returns-in-None : goal.returns-in-None
returns-in-None c =
    let fits : SFits w32 c.missing.result = search rules in
    let p = c.args.pointer.now in
    let n = c.in-None.ensures in
    let why = c.missing.ensures in
    rw to_z-of_z (
      λ no. (why, refl, refl),
      λ bad. (why, refl, refl),
      λ scanned utf8. (
        lacks p _ _ _ (site-lost p _) (n.place scanned utf8) (why, refl, refl),
        λ d limit is. lacks-value p _ _ _ (lost p d) (n.named scanned utf8 d limit is) (why, refl, refl),
      ),
    )
