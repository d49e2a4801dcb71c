-- The arrays and objects that are left to an iterator over them, a node at a time.
use Rattle.std.proofs.Common.{◌≡◌, ◌∙◌, ap, sym, refl, true, false, List, ◌∷◌, ◌++◌, append_assoc, filter, append-nil}
use Rattle.std.proofs.lemmas.List.Elements.{filter-append}
use Rattle.simd_json_parts.specs.Descent.{is_container}
use Rattle.simd_json_parts.specs.Document.{Document, array, object, Elements, no_elements, element, Members, no_members, member}
use Rattle.simd_json.specs.Beneath.{among_elements, among_members, containers, descendants}
use Rattle.simd_json.specs.Descending.{elements_joined, flat, unpacked}

abbrev kept : List Document → List Document
kept ds = filter is_container ds

among-joined : (ds es : Elements) → among_elements (elements_joined ds es) ≡ among_elements ds ++ among_elements es
among-joined no_elements es = refl
among-joined (element d ds) es =
    ap (λ xs. descendants d ++ xs) (among-joined ds es)
    ∙ sym (append_assoc (descendants d) (among_elements ds) (among_elements es))

kept-flat : (ms : Members) (es : Elements) → kept (among_elements (flat ms es)) ≡ kept (among_members ms ++ among_elements es)
kept-flat no_members es = refl
kept-flat (member k d ms) es =
    filter-append is_container (descendants d) (among_elements (flat ms es))
    ∙ ap (λ xs. kept (descendants d) ++ xs) (kept-flat ms es)
    ∙ sym (filter-append is_container (descendants d) (among_members ms ++ among_elements es))
    ∙ ap kept (sym (append_assoc (descendants d) (among_members ms) (among_elements es)))

container-begun : (d : Document) (ds : Elements) → is_container d ≡ true
    → kept (among_elements (element d ds)) ≡ d ∷ kept (among_elements (unpacked (element d ds)))
container-begun (array es) ds is = ap (λ xs. array es ∷ kept xs) (sym (among-joined es ds))
container-begun (object ms) ds is = ap (λ xs. object ms ∷ xs) (sym (kept-flat ms ds))
container-begun _ ds is = cc

scalar-passed : (d : Document) (ds : Elements) → is_container d ≡ false
    → kept (among_elements (element d ds)) ≡ kept (among_elements (unpacked (element d ds)))
scalar-passed (array es) ds is = cc
scalar-passed (object ms) ds is = cc
scalar-passed _ ds is = refl

-- ---- a step over a row, to the row after its first node

pub container-left : (row next ds : Elements) (d : Document) → row ≡ element d ds → next ≡ unpacked row → is_container d ≡ true
    → kept (among_elements row) ≡ d ∷ kept (among_elements next)
container-left row next ds d is after holds =
    ap (λ es. kept (among_elements es)) is
    ∙ container-begun d ds holds
    ∙ ap (λ es. d ∷ kept (among_elements es)) (sym (after ∙ ap unpacked is))

pub scalar-left : (row next ds : Elements) (d : Document) → row ≡ element d ds → next ≡ unpacked row → is_container d ≡ false
    → kept (among_elements next) ≡ kept (among_elements row)
scalar-left row next ds d is after fails =
    ap (λ es. kept (among_elements es)) (after ∙ ap unpacked is)
    ∙ sym (scalar-passed d ds fails)
    ∙ sym (ap (λ es. kept (among_elements es)) is)

pub containers-alone : (d : Document) (ds : Elements) → ds ≡ element d no_elements → kept (among_elements ds) ≡ containers d
containers-alone d ds is = ap (λ es. kept (among_elements es)) is ∙ ap kept (append-nil (descendants d))
