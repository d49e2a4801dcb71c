use Rattle.std.proofs.Common.{◌≡◌, ◌∙◌, ap, arith, sym, subst, refl, length, flat_map, take}
use Rattle.std.proofs.Math.Seq.{take-length}
use Rattle.jpick.specs.Rows.{escaped}
use Rattle.jpick.proofs.Escapes.{one-unescaped}
use Rattle.jpick.proofs.fields.escape_in.Goals as goal

pub loop-at-init : goal.loop-at-init
loop-at-init c = refl

pub returns-then-is_some-clause-found : goal.returns-then-is_some-clause-found
returns-then-is_some-clause-found c = (search arith, c.loop-at.invariant)

pub loop-at-preserved : goal.loop-at-preserved
loop-at-preserved c =
    let bytes = c.args.bytes.now in
    one-unescaped c.args.layout bytes c.loop-at.at _ _ (search arith) c.escape_of.ensures
    (sym c.is_some.ensures ∙ c.if-is_some.false) c.loop-at.invariant

pub returns-clause-none : goal.returns-clause-none
returns-clause-none c =
    let bytes = c.args.bytes.now in
    let all : c.loop-at.at ≡ length bytes = search arith in
    subst (λ us. flat_map (escaped c.args.layout) us ≡ us) (ap (λ n. take n bytes) all ∙ take-length bytes) c.loop-at.invariant
