use Rattle.std.proofs.Common.{◌≡◌, ◌∙◌, ◌++◌, ap, map, subst, sym}
use Rattle.std.specs.Prelude.{OnOk, if◌then◌else◌}
use Rattle.simd_json.specs.Viewed.{doc}
use Rattle.simd_json_parts.specs.Nodes.{item_of}
use Rattle.simd_json_parts.specs.Printed.{compact}
use Rattle.jpick.specs.Sorted.{sorted}
use Rattle.jpick.proofs.fields.fill_compact.Goals as goal

pub returns-then-not-wanted : goal.returns-then-not-wanted
returns-then-not-wanted g c =
    let d = doc c.args.value in
    subst (λ us. OnOk c.append.result (c.append.new.out.items ≡ us))
    (ap (λ bs. bs ++ compact d) c.clear.ensures.items ∙ ap (λ b. compact (if b then sorted d else d)) (sym c.if-not-wanted.true))
    (c.append.ensures.appended d c.nodes.ensures.listed)

pub returns : goal.returns
returns g c =
    let d = doc c.args.value in
    subst (λ us. OnOk c.append-2.result (c.append-2.new.out.items ≡ us))
    (ap (λ bs. bs ++ compact (sorted d)) c.clear.ensures.items ∙ ap (λ b. compact (if b then sorted d else d)) (sym c.if-not-wanted.false))
    (c.append-2.ensures.appended (sorted d) (ap (map item_of) c.as_slice.ensures.value ∙ c.in_ok-nodes.ensures))
