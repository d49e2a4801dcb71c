-- What segments select, by the nodes of the first one in turn.
use Rattle.std.proofs.Common.{◌≡◌, ◌∙◌, ap, sym, refl, List, [], ◌∷◌, ◌++◌, append_assoc, append-nil, Option, Some, None}
use Rattle.std.specs.Prelude.{slice_get}
use Rattle.simd_json_parts.specs.Document.{Document}
use Rattle.std.specs.Option.{option_to_list}
use Rattle.simd_json_path.specs.Nodes.{at_steps, nodes}
use Rattle.simd_json_path.specs.Paths.{selected, selected_by}
use Rattle.simd_json_path.specs.declared.path.Path.{Path}
use Rattle.simd_json_query.specs.declared.query.Segment.{Segment}
use Rattle.simd_json_path.proofs.Segments.{nodes-append, nodes-none}

first-found : (xs ys : List Document) (d : Document) → slice_get xs 0 ≡ Some d → slice_get (xs ++ ys) 0 ≡ Some d
first-found [] ys d is = cc
first-found (x ∷ xs) ys d is = is

first-left : (xs ys : List Document) → slice_get xs 0 ≡ None → slice_get (xs ++ ys) 0 ≡ slice_get ys 0
first-left [] ys none = refl
first-left (x ∷ xs) ys none = cc

module _ {S : Type 0} (by : S → Document → List Document) (ss : List (Segment S)) (now : List Document) where
  -- of the next node, then of those after it
  of-next : (d : Document) (rest : List Document) → now ≡ d ∷ rest → nodes by ss now ≡ nodes by ss (d ∷ []) ++ nodes by ss rest
  of-next d rest is = ap (nodes by ss) is ∙ nodes-append by ss (d ∷ []) rest

  pub of-end : now ≡ [] → nodes by ss now ≡ []
  of-end none = ap (nodes by ss) none ∙ nodes-none by ss

  module _ (d : Document) (rest : List Document) (is : now ≡ d ∷ rest) where
    pub first-here : (first : Document) → Some first ≡ slice_get (nodes by ss (d ∷ [])) 0 → Some first ≡ slice_get (nodes by ss now) 0
    first-here first found =
        sym (first-found (nodes by ss (d ∷ [])) (nodes by ss rest) first (sym found)) ∙ ap (λ xs. slice_get xs 0) (sym (of-next d rest is))

    pub first-after : None ≡ slice_get (nodes by ss (d ∷ [])) 0 → slice_get (nodes by ss rest) 0 ≡ slice_get (nodes by ss now) 0
    first-after none =
        sym (first-left (nodes by ss (d ∷ [])) (nodes by ss rest) (sym none)) ∙ ap (λ xs. slice_get xs 0) (sym (of-next d rest is))

    -- appended after what there was
    pub added : (old new : List Document) → new ≡ old ++ nodes by ss (d ∷ []) → new ++ nodes by ss rest ≡ old ++ nodes by ss now
    added old new more =
        ap (λ xs. xs ++ nodes by ss rest) more
        ∙ append_assoc old (nodes by ss (d ∷ [])) (nodes by ss rest)
        ∙ ap (λ xs. old ++ xs) (sym (of-next d rest is))

-- by where the first steps lead
pub selected-from : (path : Path) (d : Document) (start : Option Document) → start ≡ at_steps path.steps.now d
    → selected path d ≡ nodes (selected_by d) path.segments.now (option_to_list start)
selected-from path d start is =
    ap (nodes (selected_by d) path.segments.now) (append-nil (option_to_list (at_steps path.steps.now d))
    ∙ ap option_to_list (sym is))
