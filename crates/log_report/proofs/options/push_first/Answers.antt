use Rattle.std.proofs.Common.{◌≡◌, ◌∙◌, [], ◌∷◌, ap, cond, false, option_map, refl, sym, subst, Bool, List, ℕ, Option, Some}
use Rattle.std.specs.Prelude.{OnOk}
use Rattle.clap.specs.Matches.{found_of}
use Rattle.log_report.specs.Asked.{AreOf, first_words, optional}
use Rattle.log_report.proofs.options.push_first.Goals as goal

first-is : (b : Bool) (o : Option (List ℕ)) (text : List ℕ) → b ≡ false → o ≡ Some text
    → text ∷ [] ≡ cond {A = List (List ℕ)} b [] (optional o)
first-is b o text not given = sym (ap (λ b. cond {A = List (List ℕ)} b [] (optional o)) not ∙ ap optional given)

pub returns-in-Some-clause-each : goal.returns-in-Some-clause-each
returns-in-Some-clause-each c = λ none.
    let first : c.in-Some.word.now ∷ [] ≡ first_words (found_of c.args.matches.now) = first-is _ _ c.in-Some.word.now
    (sym c.begins_with_key.ensures ∙ c.if-not-begins_with_key.true)
    (sym c.get_str.ensures ∙ ap (option_map (λ text. text.now)) c.in-Some.is) in
    subst (λ ws. OnOk c.push_word.result (AreOf ws [] c.push_word.new.selectors.items)) first
    (c.push_word.ensures.each [] [] (subst (AreOf [] []) (sym none) (refl, refl)))
