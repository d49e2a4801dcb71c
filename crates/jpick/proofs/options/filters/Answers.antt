use Rattle.std.proofs.Common.{◌+◌, [], ap, arith, map, subst, sym, take, ◌≡◌, ◌∙◌, Bor, List, ℕ}
use Rattle.std.proofs.Math.Seq.{take-length}
use Rattle.std.specs.List.{AllZip}
use Rattle.jpick.specs.Asked.{IsFilterOf}
use Rattle.jpick.proofs.Zipped.{zip-more}
use Rattle.jpick.proofs.options.filters.Goals as goal

abbrev written : Bor (List ℕ) → List ℕ
written text = text.now

pub loop-text-preserved : goal.loop-text-preserved
loop-text-preserved c =
    let none : Bor (List ℕ) = record { ref_ptr = (0, 0); now = [] } in
    let texts = c.args.texts.now in
    let i = c.loop-text.text-index in
    subst (λ items. AllZip IsFilterOf items (map written (take (i + 1) texts))) (sym c.in_ok-push.ensures.items)
    (zip-more IsFilterOf written [] c.loop-text.filters.items texts i none _ c.loop-text-test.true
    c.loop-text.invariant c.in_ok-filter_named.ensures)

pub returns : goal.returns
returns c =
    let texts = c.args.texts.now in
    let i = c.loop-text.text-index in
    let whole : take i texts ≡ texts = ap (λ n. take n texts) (omega arith) ∙ take-length texts in
    subst (λ ts. AllZip IsFilterOf c.loop-text.filters.items (map written ts)) whole c.loop-text.invariant
