-- A document with no sign on a zero is equal to the document, nests as deep, and its integers fit too.
use Rattle.std.proofs.Common.{◌≡◌, refl, ap, ap₂, ℕ, suc, ◌≤◌, max, Bool, true, false, not, ◌&&◌, ◌==◌, arith}
use Rattle.std.proofs.lemmas.Bool.{eqb-true}
use Rattle.simd_json_parts.specs.Document.{Document, integer, array, object, Elements, no_elements, element, Members, no_members, member}
use Rattle.simd_json_parts.specs.Equality.{equal}
use Rattle.simd_json_theorems.specs.Normalized.{normalized, normalized_elements, normalized_members}
use Rattle.simd_json_parts.specs.Integers.{max_magnitude}
use Rattle.simd_json_parts.specs.Limits.{depth, elements_depth, members_depth, IntegersFit, ElementsFit, MembersFit}
use Rattle.simd_json_theorems.proofs.Documents.Equality.{Decides-equal}

mutual
  pub depth-normalized : (d : Document) → depth (normalized d) ≡ depth d
  depth-normalized (array ds) = ap suc (depth-elements ds)
  depth-normalized (object ms) = ap suc (depth-members ms)
  depth-normalized _ = refl

  depth-elements : (ds : Elements) → elements_depth (normalized_elements ds) ≡ elements_depth ds
  depth-elements no_elements = refl
  depth-elements (element d ds) = ap₂ max (depth-normalized d) (depth-elements ds)

  depth-members : (ms : Members) → members_depth (normalized_members ms) ≡ members_depth ms
  depth-members no_members = refl
  depth-members (member k d ms) = ap₂ max (depth-normalized d) (depth-members ms)

integer-fits : (minus : Bool) (n : ℕ) → n ≤ max_magnitude minus → n ≤ max_magnitude (minus && not (n == 0))
integer-fits false n fits = fits
integer-fits true n fits = by_sign (n == 0) refl
  where
    by_sign : (t : Bool) → (n == 0) ≡ t → n ≤ max_magnitude (not t)
    by_sign true is = omega (arith, eqb-true n 0 is)
    by_sign false is = fits

mutual
  pub IntegersFit-normalized : (d : Document) → IntegersFit d → IntegersFit (normalized d)
  IntegersFit-normalized (integer minus n) fits = integer-fits minus n fits
  IntegersFit-normalized (array ds) fits = ElementsFit-normalized ds fits
  IntegersFit-normalized (object ms) fits = MembersFit-normalized ms fits
  IntegersFit-normalized _ fits = tt

  ElementsFit-normalized : (ds : Elements) → ElementsFit ds → ElementsFit (normalized_elements ds)
  ElementsFit-normalized no_elements fits = tt
  ElementsFit-normalized (element d ds) fits = (IntegersFit-normalized d fits.0, ElementsFit-normalized ds fits.1)

  MembersFit-normalized : (ms : Members) → MembersFit ms → MembersFit (normalized_members ms)
  MembersFit-normalized no_members fits = tt
  MembersFit-normalized (member k d ms) fits = (IntegersFit-normalized d fits.0, MembersFit-normalized ms fits.1)

-- ---- twice is once

sign-twice : (minus t : Bool) → (minus && t && t) ≡ (minus && t)
sign-twice false t = refl
sign-twice true false = refl
sign-twice true true = refl

mutual
  normalized-twice : (d : Document) → normalized (normalized d) ≡ normalized d
  normalized-twice (integer minus n) = ap (λ t. integer t n) (sign-twice minus (not (n == 0)))
  normalized-twice (array ds) = ap array (elements-twice ds)
  normalized-twice (object ms) = ap object (members-twice ms)
  normalized-twice _ = refl

  elements-twice : (ds : Elements) → normalized_elements (normalized_elements ds) ≡ normalized_elements ds
  elements-twice no_elements = refl
  elements-twice (element d ds) = ap₂ element (normalized-twice d) (elements-twice ds)

  members-twice : (ms : Members) → normalized_members (normalized_members ms) ≡ normalized_members ms
  members-twice no_members = refl
  members-twice (member k d ms) = ap₂ (member k) (normalized-twice d) (members-twice ms)

-- So a document is equal to itself without the sign of a zero.
pub equal-normalized : (d : Document) → equal (normalized d) d ≡ true
equal-normalized d = (Decides-equal (normalized d) d).1 (normalized-twice d)
