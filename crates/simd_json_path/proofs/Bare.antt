-- Selectors select nothing of a scalar, so a descendant segment selects of arrays and objects alone.
use Rattle.std.proofs.Common.{◌≡◌, ◌∙◌, ap, sym, refl, List, [], ◌∷◌, ◌++◌, Bool, true, false, cond, filter, flat_map, append-nil}
use Rattle.simd_json_parts.specs.Document.{Document, array, object}
use Rattle.simd_json_parts.specs.Descent.{is_container}
use Rattle.simd_json.specs.Beneath.{containers, descendants}
use Rattle.simd_json_path.specs.Nodes.{by_all, chosen_by, followed, selected_of, visited}
use Rattle.simd_json_path.specs.Paths.{selected_by}
use Rattle.simd_json_query.specs.declared.query.Choice.{Choice}
use Rattle.simd_json_query.specs.declared.query.Choice.TheVariants as choice
use Rattle.simd_json_query.specs.declared.query.Segment.{Segment}
use Rattle.simd_json_query.specs.declared.query.Selector.{Selector}
use Rattle.simd_json_query.specs.declared.query.Selector.TheVariants as selector

pub scalar-chosen : (c : Choice) (d : Document) → is_container d ≡ false → chosen_by c d ≡ []
scalar-chosen c (array ds) scalar = cc
scalar-chosen c (object ms) scalar = cc
scalar-chosen (choice.Name name) _ scalar = refl
scalar-chosen choice.Wildcard _ scalar = refl
scalar-chosen (choice.Index i) _ scalar = refl
scalar-chosen (choice.Slice s) _ scalar = refl

pub scalar-selected : (root : Document) (s : Selector) (d : Document) → is_container d ≡ false → selected_by root s d ≡ []
scalar-selected root (selector.Choice c) d scalar = scalar-chosen c d scalar
scalar-selected root (selector.Filter test) (array ds) scalar = cc
scalar-selected root (selector.Filter test) (object ms) scalar = cc
scalar-selected root (selector.Filter test) _ scalar = refl

-- ---- what is nothing of each scalar is of the arrays and objects

module _ {A : Type 0} (f : Document → List A) (none : (d : Document) → is_container d ≡ false → f d ≡ []) where
  kept-one : (b : Bool) (d : Document) (ds : List Document) → is_container d ≡ b
      → flat_map f (cond b (d ∷ ds) ds) ≡ f d ++ flat_map f ds
  kept-one true d ds is = refl
  kept-one false d ds is = ap (λ xs. xs ++ flat_map f ds) (sym (none d is))

  of-containers : (ds : List Document) → flat_map f (filter is_container ds) ≡ flat_map f ds
  of-containers [] = refl
  of-containers (d ∷ ds) = kept-one (is_container d) d (filter is_container ds) refl ∙ ap (λ xs. f d ++ xs) (of-containers ds)

-- ---- segments, where this is what one selector selects

module _ {S : Type 0} (by : S → Document → List Document)
    (scalar : (s : S) (d : Document) → is_container d ≡ false → by s d ≡ [])
  where
    scalar-all : (ss : List S) (d : Document) → is_container d ≡ false → by_all by ss d ≡ []
    scalar-all [] d is = refl
    scalar-all (s ∷ ss) d is = ap (λ xs. xs ++ by_all by ss d) (scalar s d is) ∙ scalar-all ss d is

    pub selected-descendants : (s : Segment S) (d : Document) → s.is_descendant ≡ true
        → selected_of by s d ≡ followed s.steps.now (flat_map (by_all by s.selectors.now) (containers d))
    selected-descendants s d is =
        let all = by_all by s.selectors.now in
        ap (λ b. followed s.steps.now (flat_map all (visited b d))) is
        ∙ ap (followed s.steps.now) (sym (of-containers all (scalar-all s.selectors.now) (descendants d)))

    pub selected-child : (s : Segment S) (d : Document) → s.is_descendant ≡ false
        → selected_of by s d ≡ followed s.steps.now (by_all by s.selectors.now d)
    selected-child s d is =
        let all = by_all by s.selectors.now in
        ap (λ b. followed s.steps.now (flat_map all (visited b d))) is ∙ ap (followed s.steps.now) (append-nil (all d))
