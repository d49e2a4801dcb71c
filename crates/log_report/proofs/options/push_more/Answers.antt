use Rattle.std.proofs.Common.{◌∙◌, ◌++◌, ◌∷◌, ◌+◌, ◌<◌, ◌&&◌, [], ap, arith, get_or, length, refl, subst, sym, take, Bor, List, ℕ}
use Rattle.std.proofs.lemmas.Bool.{eq-eqb, false≢true}
use Rattle.std.proofs.lemmas.List.Folds.{list_all-append}
use Rattle.std.specs.List.{list_all}
use Rattle.log_report.specs.Asked.{AreOf, is_selector}
use Rattle.log_report.specs.declared.rows.Selector.TheVariants.{Key}
use Rattle.log_report.proofs.Named.{key-last, take-written, written}
use Rattle.log_report.proofs.options.push_more.Goals as goal
use Rattle.log_report.proofs.options.push_more.Goals.{then-taken_keys-keys-2, else-taken_keys-keys-2+then-taken-words-2, else-taken_keys-keys-2+else-taken-words-2}

pub loop-taken-preserved : goal.loop-taken-preserved
loop-taken-preserved c =
    let none : Bor (List ℕ) = record { ref_ptr = (0, 0); now = [] } in
    let keys : List (Bor (List ℕ)) = c.texts-keys.result.now in
    let i = c.loop-taken.taken_keys in
    let old = c.loop-taken.selectors.items in
    let within : i < length keys = elim c.if-taken_keys-keys-2.branch [
      | then-taken_keys-keys-2 w ↦ absurd
          (false≢true (sym c.if-lt.false ∙ w.value-is ∙ eq-eqb i (length keys) w.if-taken_keys-keys-2.true))
      | else-taken_keys-keys-2+then-taken-words-2 w ↦ omega (arith, w.if-taken_keys-keys-2.false, c.loop-taken.invariant.within_keys)
      | else-taken_keys-keys-2+else-taken-words-2 w ↦ omega (arith, w.if-taken_keys-keys-2.false, c.loop-taken.invariant.within_keys)
    ] in
    let key = get_or keys i none in
    record {
      each = λ first are.
          let words = first ++ written (take c.loop-taken.taken c.texts-words.result.now) in
          subst (AreOf words (written (take (i + 1) keys))) (sym c.in_ok-push.ensures.items)
          (subst (λ ks. AreOf words ks (old ++ Key key ∷ [])) (sym (take-written keys i none within))
          (key-last words (written (take i keys)) old key.now (Key key) (c.loop-taken.invariant.each first are) (key, refl, refl)));
      well_formed = λ all.
          ap (list_all is_selector) c.in_ok-push.ensures.items ∙ list_all-append is_selector old (Key key ∷ [])
          ∙ ap (λ b. b && list_all is_selector (Key key ∷ [])) (c.loop-taken.invariant.well_formed all);
      within = c.loop-taken.invariant.within;
      within_keys = omega (arith, within);
    }
