-- Segments after how they begin.
use Rattle.std.proofs.Common.{◌≡◌, inl, inr, subst, List, [], ◌∷◌, ℕ, Bool, true, false}
use Rattle.std.specs.Prelude.{Option, Some, None}
use Rattle.simd_json_parts.specs.Bytes.{left_bracket}
use Rattle.simd_json_query.specs.Segments.{Opening, SegmentText, Selection}
use Rattle.simd_json_query.specs.Spans.{Mark}
use Rattle.simd_json_query.specs.declared.query.Choice.{Choice}

named : {S : Type 0} (Text : S → List ℕ → List ℕ → Type 0) (of : Choice → S) (is_descendant : Bool) (c : Choice)
    (text rest : List ℕ) (ss : List S) → ss ≡ of c ∷ [] → Opening is_descendant (Some c) text rest
    → SegmentText Text of is_descendant ss text rest
named Text of false c text rest ss is (others, mark, name) = inr (others, mark, (c, is, name))
named Text of true c text rest ss is (others, mark, (below, again, name)) = (others, mark, (below, again, inr (c, is, name)))

pub opened-member : {S : Type 0} (Text : S → List ℕ → List ℕ → Type 0) (of : Choice → S) (is_descendant : Bool) (member : Option Choice)
    (c : Choice) (text rest : List ℕ) (ss : List S) → member ≡ Some c → ss ≡ of c ∷ [] → Opening is_descendant member text rest
    → SegmentText Text of is_descendant ss text rest
opened-member Text of is_descendant member c text rest ss some is opening =
    named Text of is_descendant c text rest ss is (subst (λ m. Opening is_descendant m text rest) some opening)

bracketed : {S : Type 0} (Text : S → List ℕ → List ℕ → Type 0) (of : Choice → S) (is_descendant : Bool)
    (text begin rest : List ℕ) (ss : List S) → Opening is_descendant None text begin
    → ((at : List ℕ) → Mark left_bracket at begin → Selection Text ss at rest) → SegmentText Text of is_descendant ss text rest
bracketed Text of false text begin rest ss mark selection = inl (selection text mark)
bracketed Text of true text begin rest ss (others, mark, (below, again, bracket)) selection =
    (others, mark, (below, again, inl (selection below bracket)))

pub opened-brackets : {S : Type 0} (Text : S → List ℕ → List ℕ → Type 0) (of : Choice → S) (is_descendant : Bool) (member : Option Choice)
    (text begin rest : List ℕ) (ss : List S) → member ≡ None → Opening is_descendant member text begin
    → ((at : List ℕ) → Mark left_bracket at begin → Selection Text ss at rest) → SegmentText Text of is_descendant ss text rest
opened-brackets Text of is_descendant member text begin rest ss none opening selection =
    bracketed Text of is_descendant text begin rest ss (subst (λ m. Opening is_descendant m text begin) none opening) selection
