use Rattle.std.proofs.Common.{◌∙◌, ◌++◌, ap, sym}
use Rattle.std.specs.Str.{chars}
use Rattle.std.proofs.lemmas.Iterator.{YieldsList-from_chars}
use Rattle.std.proofs.lemmas.Iterator.Consumers.{YieldsList-end}
use Rattle.std.proofs.lemmas.List.{map-id}
use Rattle.jcheck.proofs.Shown.{visible-push}
use Rattle.jcheck.proofs.excerpt.shown.Goals as goal
use Rattle.jcheck.specs.Excerpts.{visible, visible_text}

pub loop-c-preserved : goal.loop-c-preserved
loop-c-preserved c =
    c.in_ok-push_visible.ensures ∙ ap (λ t. t ++ visible c.in-Some.c) c.loop-c.invariant ∙ sym (visible-push c.loop-c.yielded c.in-Some.c)

pub returns : goal.returns
returns c =
    let all =
    YieldsList-end (YieldsList-from_chars c.as_str.result.now c.as_str.utf8 cc) c.loop-c.yielded _ c.loop-c.yielded_by _ _
    c.in-None.is c.next.ensures.steps in
    c.loop-c.invariant ∙ ap visible_text (sym (map-id c.loop-c.yielded) ∙ all.0
    ∙ ap chars (c.as_str.ensures.value ∙ c.in_ok-lossy.ensures.lossy))
