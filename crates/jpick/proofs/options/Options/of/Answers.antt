use Rattle.std.proofs.Common.{◌++◌, ◌∙◌, [], ap, map, rules, subst, sym, List, ℕ}
use Rattle.std.specs.List.{AllZip}
use Rattle.std.specs.Prelude.{codes}
use Rattle.clap.specs.Matches.{found_of}
use Rattle.jpick.specs.Asked.{IsFilterOf, IsQueryOf, first_query, texts_of}
use Rattle.jpick.proofs.options.Options.of.Goals as goal

pub returns : goal.returns
returns c =
    let found = found_of c.args.matches.now in
    let query = first_query found in
    let and = texts_of found (codes "and") in
    let more : List (List ℕ) = map (λ text. text.now) c.texts.result.now in
    let start : AllZip IsQueryOf c.new-queries.result.items [] =
    subst (λ qs. AllZip IsQueryOf qs []) (sym c.new-queries.ensures.items) tt in
    let both = c.in_ok-push_queries-2.ensures _ (c.in_ok-push_queries.ensures [] start) in
    record {
      each = c.in_ok-each.ensures;
      queries = subst (λ qs. AllZip IsQueryOf qs (query ++ and)) (sym (c.in_ok-try_alloc_slice_copy.ensures ∙ c.deref.ensures.value))
          (subst (AllZip IsQueryOf c.push_queries-2.new.queries.items)
          (ap (λ ts. ts ++ more) c.first_query.ensures ∙ ap (λ ts. query ++ ts) c.texts.ensures) both);
      filters = subst (λ fs. AllZip IsFilterOf fs (texts_of found (codes "where")))
          (sym (c.in_ok-try_alloc_slice_copy-2.ensures ∙ c.deref-2.ensures.value))
          (subst (AllZip IsFilterOf c.in_ok-filters.filters.items) c.texts-2.ensures c.in_ok-filters.ensures);
      flags = search rules;
      header = search rules;
      rows = search rules;
      files = c.in_ok-files.ensures;
    }
