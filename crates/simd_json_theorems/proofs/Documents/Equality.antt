-- Laws of the equality of documents.
use Rattle.std.proofs.Common.{◌≡◌, refl, sym, ◌∙◌, ℕ, Bool, true, false, Decides, arith}
use Rattle.std.specs.Cmp.{IsEquivalence, booleans_Decides}
use Rattle.std.proofs.lemmas.Bool.Decides.{Decides-and, Decides-like, same_from_decides}
use Rattle.std.proofs.lemmas.Slice.Eq.{bytes_eq-Decides}
use Rattle.simd_json_parts.specs.Document.{Document, null, boolean, integer, decimal, string, array, object, Elements, no_elements}
use Rattle.simd_json_parts.specs.Document.{element, Members, no_members, member}
use Rattle.simd_json_parts.specs.Equality.{same_number, equal, equal_elements, equal_members}
use Rattle.simd_json_theorems.specs.Normalized.{normalized, normalized_elements, normalized_members}

-- Two integers are the same number exactly if they are the same but for the sign of a zero.
Decides-same_number : (minus minus' : Bool) (m n : ℕ)
    → Decides (same_number minus m minus' n) (normalized (integer minus m) ≡ normalized (integer minus' n))
Decides-same_number true true m n = (λ h. grind arith, λ h. grind arith)
Decides-same_number true false m n = (λ h. grind arith, λ h. grind arith)
Decides-same_number false true m n = (λ h. grind arith, λ h. grind arith)
Decides-same_number false false m n = (λ h. grind arith, λ h. grind arith)

mutual
  -- Documents are equal exactly if they are the same but for the sign of a zero.
  pub Decides-equal : (d e : Document) → Decides (equal d e) (normalized d ≡ normalized e)
  Decides-equal null null = (λ h. refl, λ h. refl)
  Decides-equal (boolean a) (boolean b) = Decides-like _ (λ h. cc) (λ h. cc) (booleans_Decides a b)
  Decides-equal (integer minus m) (integer minus' n) = Decides-same_number minus minus' m n
  Decides-equal (decimal a) (decimal b) = Decides-like _ (λ h. cc) (λ h. cc) (bytes_eq-Decides a b)
  Decides-equal (string a) (string b) = Decides-like _ (λ h. cc) (λ h. cc) (bytes_eq-Decides a b)
  Decides-equal (array ds) (array es) = Decides-like _ (λ h. cc) (λ h. cc) (Decides-equal_elements ds es)
  Decides-equal (object ms) (object ns) = Decides-like _ (λ h. cc) (λ h. cc) (Decides-equal_members ms ns)
  Decides-equal _ _ = (λ h. cc, λ h. cc)

  Decides-equal_elements : (ds es : Elements) → Decides (equal_elements ds es) (normalized_elements ds ≡ normalized_elements es)
  Decides-equal_elements no_elements no_elements = (λ h. refl, λ h. refl)
  Decides-equal_elements (element d ds) (element e es) =
      Decides-like _ (λ h. cc) (λ h. (cc, cc)) (Decides-and _ _ (Decides-equal d e) (Decides-equal_elements ds es))
  Decides-equal_elements _ _ = (λ h. cc, λ h. cc)

  Decides-equal_members : (ms ns : Members) → Decides (equal_members ms ns) (normalized_members ms ≡ normalized_members ns)
  Decides-equal_members no_members no_members = (λ h. refl, λ h. refl)
  Decides-equal_members (member k d ms) (member l e ns) =
      Decides-like _ (λ h. cc) (λ h. ((cc, cc), cc))
      (Decides-and _ _ (Decides-and _ _ (bytes_eq-Decides k l) (Decides-equal d e)) (Decides-equal_members ms ns))
  Decides-equal_members _ _ = (λ h. cc, λ h. cc)

-- So equality is an equivalence.
pub IsEquivalence-equal : IsEquivalence equal
IsEquivalence-equal = record {
  refl = λ d. (Decides-equal d d).1 refl;
  symm = λ d e. same_from_decides _ _ (Decides-equal d e) (Decides-like _ sym sym (Decides-equal e d));
  congr = λ d e f h.
      let same : normalized d ≡ normalized e = (Decides-equal d e).0 h in
      same_from_decides _ _ (Decides-equal d f) (Decides-like _ (λ k. same ∙ k) (λ k. sym same ∙ k) (Decides-equal e f));
}
