use Rattle.std.proofs.Common.{◌≡◌, ◌∙◌, ◌++◌, ◌∷◌, [], ap, append-nil, sym, List, ℕ}
use Rattle.std.specs.Prelude.{encode_utf8, flat_map}
use Rattle.std.specs.Str.{chars}
use Rattle.std.proofs.lemmas.Iterator.{YieldsList-from_chars}
use Rattle.std.proofs.lemmas.Iterator.Consumers.{YieldsList-end}
use Rattle.std.proofs.lemmas.List.{map-id}
use Rattle.std.proofs.lemmas.List.Concat.{flat_map-append}
use Rattle.programs.proofs.escapes.shown.Goals as goal
use Rattle.programs.specs.Shown.{shown, shown_characters}

push : (cs : List ℕ) (c : ℕ) → shown_characters (cs ++ c ∷ []) ≡ shown_characters cs ++ flat_map encode_utf8 (shown c)
push cs c =
    ap (flat_map encode_utf8) (flat_map-append shown cs (c ∷ []) ∙ ap (λ t. flat_map shown cs ++ t) (append-nil (shown c)))
    ∙ flat_map-append encode_utf8 (flat_map shown cs) (shown c)

pub loop-c-preserved : goal.loop-c-preserved
loop-c-preserved c =
    c.in_ok-push_shown.ensures ∙ ap (λ t. t ++ flat_map encode_utf8 (shown c.in-Some.c)) c.loop-c.invariant
    ∙ sym (push c.loop-c.yielded c.in-Some.c)

pub returns : goal.returns
returns c =
    let all =
    YieldsList-end (YieldsList-from_chars c.args.text.now c.utf8.text cc) c.loop-c.yielded _ c.loop-c.yielded_by _ _
    c.in-None.is c.next.ensures.steps in
    c.loop-c.invariant ∙ ap shown_characters (sym (map-id c.loop-c.yielded) ∙ all.0)
