-- A document is printed as it is with no sign on a zero; so equal documents are printed alike.
use Rattle.std.proofs.Common.{◌≡◌, refl, sym, ◌∙◌, ap, ap₂, ℕ, zero, suc, List, [], ◌∷◌, ◌++◌, Bool, true, false, not, ◌&&◌, ◌==◌, arith}
use Rattle.std.specs.Fmt.{signed_decimal}
use Rattle.std.proofs.lemmas.Bool.{ne_eqb}
use Rattle.simd_json_parts.specs.Bytes.{comma, left_bracket, right_bracket, left_brace, right_brace}
use Rattle.simd_json_parts.specs.Document.{Document, integer, array, object, Elements, no_elements, element, Members, no_members, member}
use Rattle.simd_json_parts.specs.Equality.{equal}
use Rattle.simd_json_theorems.specs.Normalized.{normalized, normalized_elements, normalized_members}
use Rattle.simd_json_parts.specs.Integers.{number_of}
use Rattle.simd_json_parts.specs.Printed.{quoted, line, after_name, text, elements_text, members_text, compact, pretty}
use Rattle.simd_json_theorems.proofs.Documents.Equality.{Decides-equal}

integer-alike : (minus : Bool) (n : ℕ) → signed_decimal (number_of (minus && not (n == 0)) n) ≡ signed_decimal (number_of minus n)
integer-alike false n = refl
integer-alike true zero = refl
integer-alike true (suc n) = ap (λ t. signed_decimal (number_of (not t) (suc n))) (ne_eqb (suc n) 0 (λ e. omega arith))

module _ (p : Bool) where
  mutual
    text-alike : (d : Document) (n : ℕ) → text p (normalized d) n ≡ text p d n
    text-alike (integer minus m) n = integer-alike minus m
    text-alike (array no_elements) n = refl
    text-alike (array (element d ds)) n =
        ap (λ us. us ++ (line p n ++ right_bracket ∷ [])) (elements-alike left_bracket (element d ds) (suc n))
    text-alike (object no_members) n = refl
    text-alike (object (member k d ms)) n =
        ap (λ us. us ++ (line p n ++ right_brace ∷ [])) (members-alike left_brace (member k d ms) (suc n))
    text-alike _ n = refl

    elements-alike : (before : ℕ) (ds : Elements) (n : ℕ) → elements_text p before (normalized_elements ds) n ≡ elements_text p before ds n
    elements-alike before no_elements n = refl
    elements-alike before (element d ds) n = ap₂ (λ us vs. before ∷ (line p n ++ (us ++ vs))) (text-alike d n) (elements-alike comma ds n)

    members-alike : (before : ℕ) (ms : Members) (n : ℕ) → members_text p before (normalized_members ms) n ≡ members_text p before ms n
    members-alike before no_members n = refl
    members-alike before (member k d ms) n =
        ap₂ (λ us vs. before ∷ (line p n ++ ((quoted k ++ after_name p) ++ (us ++ vs)))) (text-alike d n) (members-alike comma ms n)

-- Equal documents are printed alike.
equal-alike : (print : Document → List ℕ) → ((d : Document) → print (normalized d) ≡ print d)
    → (d e : Document) → equal d e ≡ true → print d ≡ print e
equal-alike print alike d e same = sym (alike d) ∙ ap print ((Decides-equal d e).0 same) ∙ alike e

pub compact-equal : (d e : Document) → equal d e ≡ true → compact d ≡ compact e
compact-equal = equal-alike compact (λ d. text-alike false d 0)

pub pretty-equal : (d e : Document) → equal d e ≡ true → pretty d ≡ pretty e
pretty-equal = equal-alike pretty (λ d. text-alike true d 0)
