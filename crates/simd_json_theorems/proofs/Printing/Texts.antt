-- A printed text denotes its document, with no sign on a zero.
use Rattle.std.proofs.Common.{◌≡◌, refl, sym, ◌∙◌, ap, subst, ℕ, suc, ◌*◌, ◌⊎◌, inl, inr, List, [], ◌∷◌, ◌++◌, append_assoc, Bool}
use Rattle.std.proofs.Common.{true, false, codes, IsUtf8}
use Rattle.simd_json_parts.specs.Bytes.{comma, colon, left_bracket, right_bracket, left_brace, right_brace}
use Rattle.simd_json_parts.specs.Document.{Document, null, boolean, integer, decimal, string, array, object, Elements, no_elements}
use Rattle.simd_json_parts.specs.Document.{element, Members, no_members, member}
use Rattle.simd_json_parts.specs.Grammar.{IsWhitespace, Spaced, Joined, After, IsValue, AreElements, AreMoreElements, AreMembers}
use Rattle.simd_json_parts.specs.Grammar.{AreMoreMembers, Denotes}
use Rattle.simd_json_parts.specs.Limits.{IntegersFit, ElementsFit, MembersFit}
use Rattle.simd_json_parts.specs.Printed.{quoted, truth_text, line, after_name, text, elements_text, members_text, compact, pretty}
use Rattle.simd_json_parts.specs.Strings.{IsStringLiteral}
use Rattle.simd_json_theorems.specs.Normalized.{normalized, normalized_elements, normalized_members}
use Rattle.simd_json_theorems.specs.Spellable.{IsSpellable, ElementsSpellable, MembersSpellable}
use Rattle.simd_json_theorems.proofs.Printing.Integers.{value-integer}
use Rattle.simd_json_theorems.proofs.Printing.Strings.{literal-quoted}
use Rattle.simd_json_theorems.proofs.Printing.Parts.{spaces, alone, spaced_before, listed}

value-truth : (b : Bool) → IsValue (boolean b) (truth_text b)
value-truth true = refl
value-truth false = refl

line-space : (p : Bool) (n : ℕ) → IsWhitespace (line p n)
line-space true n = spaces (2 * n)
line-space false n = refl

-- what is after the colon of a name
abbrev gap : Bool → List ℕ
gap true = codes " "
gap false = []

gap-space : (p : Bool) → IsWhitespace (gap p)
gap-space true = refl
gap-space false = refl

after_name-colon : (p : Bool) → after_name p ≡ colon ∷ gap p
after_name-colon true = refl
after_name-colon false = refl

-- a value, and what follows it up to whitespace at the end
value-listed : (P Q : List ℕ → Type 0) (before value more end : List ℕ) → IsWhitespace before → P value
    → IsWhitespace end → ((more ≡ []) × Q []) ⊎ Q (more ++ end) → Joined (Spaced P) Q ((before ++ (value ++ more)) ++ end)
value-listed P Q before value more end space h end_space after =
    subst (λ bs. Joined (Spaced P) Q (bs ++ end)) (append_assoc before value more)
    (listed P Q before value more end space h end_space after)

regrouped : (before name sign rest end : List ℕ) → (before ++ ((name ++ sign) ++ rest)) ++ end ≡ (before ++ name) ++ ((sign ++ rest) ++ end)
regrouped before name sign rest end =
    ap (λ us. (before ++ us) ++ end) (append_assoc name sign rest)
    ∙ ap (λ us. us ++ end) (sym (append_assoc before name (sign ++ rest))) ∙ append_assoc (before ++ name) (sign ++ rest) end

-- a member, and what follows it
member-listed : (p : Bool) (k : List ℕ) (P Q : List ℕ → Type 0) (before value more end : List ℕ) → IsWhitespace before
    → IsUtf8 k → P value → IsWhitespace end → ((more ≡ []) × Q []) ⊎ Q (more ++ end)
    → Joined (Spaced (λ name. IsStringLiteral name k)) (After colon (Joined (Spaced P) Q))
    ((before ++ ((quoted k ++ after_name p) ++ (value ++ more))) ++ end)
member-listed p k P Q before value more end space utf8 h end_space after =
    record {
      left = before ++ quoted k;
      right = (after_name p ++ (value ++ more)) ++ end;
      whole = regrouped before (quoted k) (after_name p) (value ++ more) end;
      left_holds = spaced_before (λ name. IsStringLiteral name k) before (quoted k) space (literal-quoted k utf8);
      right_holds = (
        (gap p ++ (value ++ more)) ++ end,
        ap (λ us. (us ++ (value ++ more)) ++ end) (after_name-colon p),
        value-listed P Q (gap p) value more end (gap-space p) h end_space after,
      );
    }

-- between brackets
closed : (first last : ℕ) (inner end : List ℕ) → first ∷ (inner ++ (end ++ last ∷ [])) ≡ first ∷ ((inner ++ end) ++ last ∷ [])
closed first last inner end = ap (λ us. first ∷ us) (sym (append_assoc inner end (last ∷ [])))

module _ (p : Bool) where
  -- ---- what is between brackets, up to whitespace at the end

  abbrev element_lines : Elements → ℕ → List ℕ → List ℕ
  element_lines no_elements n end = []
  element_lines (element d ds) n end = (line p n ++ (text p d n ++ elements_text p comma ds n)) ++ end

  abbrev member_lines : Members → ℕ → List ℕ → List ℕ
  member_lines no_members n end = []
  member_lines (member k d ms) n end = (line p n ++ ((quoted k ++ after_name p) ++ (text p d n ++ members_text p comma ms n))) ++ end

  -- What is after an element: nothing, or a comma and the next ones.
  after_element : (ds : Elements) (n : ℕ) (end : List ℕ) → AreElements (normalized_elements ds) (element_lines ds n end)
      → ((elements_text p comma ds n ≡ []) × AreMoreElements (normalized_elements ds) [])
      ⊎ AreMoreElements (normalized_elements ds) (elements_text p comma ds n ++ end)
  after_element no_elements n end h = inl (refl, refl)
  after_element (element d ds) n end h = inr (element_lines (element d ds) n end, refl, h)

  -- The same after a member.
  after_member : (ms : Members) (n : ℕ) (end : List ℕ) → AreMembers (normalized_members ms) (member_lines ms n end)
      → ((members_text p comma ms n ≡ []) × AreMoreMembers (normalized_members ms) [])
      ⊎ AreMoreMembers (normalized_members ms) (members_text p comma ms n ++ end)
  after_member no_members n end h = inl (refl, refl)
  after_member (member k d ms) n end h = inr (member_lines (member k d ms) n end, refl, h)

  array-printed : (ds : Elements) (n : ℕ) → AreElements (normalized_elements ds) (element_lines ds (suc n) (line p n))
      → IsValue (normalized (array ds)) (text p (array ds) n)
  array-printed no_elements n h = ([], refl, refl)
  array-printed (element d ds) n h =
      let lines : List ℕ = line p (suc n) ++ (text p d (suc n) ++ elements_text p comma ds (suc n)) in
      (lines ++ line p n, closed left_bracket right_bracket lines (line p n), h)

  object-printed : (ms : Members) (n : ℕ) → AreMembers (normalized_members ms) (member_lines ms (suc n) (line p n))
      → IsValue (normalized (object ms)) (text p (object ms) n)
  object-printed no_members n h = ([], refl, refl)
  object-printed (member k d ms) n h =
      let lines : List ℕ = line p (suc n) ++ ((quoted k ++ after_name p) ++ (text p d (suc n) ++ members_text p comma ms (suc n))) in
      (lines ++ line p n, closed left_brace right_brace lines (line p n), h)

  -- ---- documents

  mutual
    value-printed : (d : Document) (n : ℕ) → IsSpellable d → IntegersFit d → IsValue (normalized d) (text p d n)
    value-printed null n spelled fits = refl
    value-printed (boolean b) n spelled fits = value-truth b
    value-printed (integer minus m) n spelled fits = value-integer minus m fits
    value-printed (decimal literal) n spelled fits = (spelled, refl)
    value-printed (string t) n spelled fits = literal-quoted t spelled
    value-printed (array ds) n spelled fits = array-printed ds n (elements-printed ds (suc n) (line p n) (line-space p n) spelled fits)
    value-printed (object ms) n spelled fits = object-printed ms n (members-printed ms (suc n) (line p n) (line-space p n) spelled fits)

    elements-printed : (ds : Elements) (n : ℕ) (end : List ℕ) → IsWhitespace end → ElementsSpellable ds → ElementsFit ds
        → AreElements (normalized_elements ds) (element_lines ds n end)
    elements-printed no_elements n end space spelled fits = refl
    elements-printed (element d ds) n end space spelled fits =
        value-listed (IsValue (normalized d)) (AreMoreElements (normalized_elements ds)) (line p n) (text p d n)
        (elements_text p comma ds n) end (line-space p n) (value-printed d n spelled.0 fits.0) space
        (after_element ds n end (elements-printed ds n end space spelled.1 fits.1))

    members-printed : (ms : Members) (n : ℕ) (end : List ℕ) → IsWhitespace end → MembersSpellable ms → MembersFit ms
        → AreMembers (normalized_members ms) (member_lines ms n end)
    members-printed no_members n end space spelled fits = refl
    members-printed (member k d ms) n end space spelled fits =
        member-listed p k (IsValue (normalized d)) (AreMoreMembers (normalized_members ms)) (line p n) (text p d n)
        (members_text p comma ms n) end (line-space p n) spelled.0 (value-printed d n spelled.1 fits.0) space
        (after_member ms n end (members-printed ms n end space spelled.2 fits.1))

-- Compact text denotes its document.
pub Denotes-compact : (d : Document) → IsSpellable d → IntegersFit d → Denotes (compact d) (normalized d)
Denotes-compact d spelled fits = alone (IsValue (normalized d)) (compact d) (value-printed false d 0 spelled fits)

-- Pretty text denotes its document.
pub Denotes-pretty : (d : Document) → IsSpellable d → IntegersFit d → Denotes (pretty d) (normalized d)
Denotes-pretty d spelled fits = alone (IsValue (normalized d)) (pretty d) (value-printed true d 0 spelled fits)
