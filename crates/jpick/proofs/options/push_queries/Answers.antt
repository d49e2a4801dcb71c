use Rattle.std.proofs.Common.{◌++◌, ◌+◌, [], ap, append-nil, arith, map, subst, sym, take, ◌≡◌, ◌∙◌, Bor, List, ℕ}
use Rattle.std.proofs.Math.Seq.{take-length}
use Rattle.std.specs.List.{AllZip}
use Rattle.jpick.specs.Asked.{IsQueryOf}
use Rattle.jpick.proofs.Zipped.{zip-more}
use Rattle.jpick.proofs.options.push_queries.Goals as goal

abbrev written : Bor (List ℕ) → List ℕ
written text = text.now

pub loop-text-init : goal.loop-text-init
loop-text-init c = λ old all. subst (AllZip IsQueryOf c.args.queries.now.items) (sym (append-nil old)) all

pub loop-text-preserved : goal.loop-text-preserved
loop-text-preserved c = λ old all.
    let none : Bor (List ℕ) = record { ref_ptr = (0, 0); now = [] } in
    let texts = c.args.texts.now in
    let i = c.loop-text.text-index in
    subst (λ items. AllZip IsQueryOf items (old ++ map written (take (i + 1) texts))) (sym c.in_ok-push.ensures.items)
    (zip-more IsQueryOf written old c.loop-text.queries.items texts i none _ c.loop-text-test.true
    (c.loop-text.invariant old all) c.in_ok-query_named.ensures)

pub returns : goal.returns
returns c = λ old all.
    let texts = c.args.texts.now in
    let i = c.loop-text.text-index in
    let whole : take i texts ≡ texts = ap (λ n. take n texts) (omega arith) ∙ take-length texts in
    subst (λ ts. AllZip IsQueryOf c.loop-text.queries.items (old ++ map written ts)) whole (c.loop-text.invariant old all)
