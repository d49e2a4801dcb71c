-- Compact text is the shortest: no text that denotes the document is shorter.
use Rattle.std.proofs.Common.{ap, ℕ, suc, ◌+◌, ◌≤◌, List, [], ◌∷◌, ◌++◌, length, length-append, true, false, codes, arith}
use Rattle.simd_json_parts.specs.Bytes.{comma, colon, right_bracket, right_brace}
use Rattle.simd_json_parts.specs.Document.{Document, null, boolean, integer, decimal, string, array, object, Elements, no_elements}
use Rattle.simd_json_parts.specs.Document.{element, Members, no_members, member}
use Rattle.simd_json_parts.specs.Grammar.{Spaced, Joined, After, IsValue, AreElements, AreMoreElements, AreMembers, AreMoreMembers, Denotes}
use Rattle.simd_json_parts.specs.Limits.{IntegersFit, ElementsFit, MembersFit}
use Rattle.simd_json_parts.specs.Printed.{quoted, text, elements_text, members_text, compact}
use Rattle.simd_json_parts.specs.Strings.{IsStringLiteral}
use Rattle.simd_json_theorems.proofs.Printing.Lengths.{integer-length, quoted-length}

-- what stands between whitespace
spaced-length : (P : List ℕ → Type 0) (bs : List ℕ) (s : Spaced P bs) → length s.inner ≤ length bs
spaced-length P bs s = omega (arith, ap length s.whole, length-append (s.before ++ s.inner) s.after, length-append s.before s.inner)

-- two parts
both-lengths : (P Q : List ℕ → Type 0) (xs ys bs : List ℕ) → (j : Joined (Spaced P) Q bs)
    → length xs ≤ length j.left_holds.inner → length ys ≤ length j.right → length (xs ++ ys) ≤ length bs
both-lengths P Q xs ys bs j first more =
    omega (arith, length-append xs ys, ap length j.whole, length-append j.left j.right, spaced-length P j.left j.left_holds)

abbrev MemberOn : List ℕ → (List ℕ → Type 0) → (List ℕ → Type 0) → List ℕ → Type 0
MemberOn k P Q bs = Joined (Spaced (λ name. IsStringLiteral name k)) (After colon (Joined (Spaced P) Q)) bs

-- a member and what follows it
member-length : (k : List ℕ) (P Q : List ℕ → Type 0) (xs ys bs : List ℕ) → (j : MemberOn k P Q bs)
    → length xs ≤ length j.right_holds.2.left_holds.inner → length ys ≤ length j.right_holds.2.right
    → length (quoted k ++ colon ∷ (xs ++ ys)) ≤ length bs
member-length k P Q xs ys bs j first more =
    let value : length (xs ++ ys) ≤ length j.right_holds.0 = both-lengths P Q xs ys j.right_holds.0 j.right_holds.2 first more in
    both-lengths (λ name. IsStringLiteral name k) (After colon (Joined (Spaced P) Q)) (quoted k) (colon ∷ (xs ++ ys)) bs j
    (quoted-length j.left_holds.inner k j.left_holds.holds) (omega (arith, ap length j.right_holds.1, value))

-- ---- what is between brackets

abbrev elements_within : Elements → ℕ → List ℕ
elements_within no_elements n = []
elements_within (element d ds) n = text false d n ++ elements_text false comma ds n

abbrev members_within : Members → ℕ → List ℕ
members_within no_members n = []
members_within (member k d ms) n = (quoted k ++ codes ":") ++ (text false d n ++ members_text false comma ms n)

-- after a comma, as after the bracket
more_elements-length : (ds : Elements) (n : ℕ) (bs : List ℕ)
    → ((xs : List ℕ) → AreElements ds xs → length (elements_within ds n) ≤ length xs)
    → AreMoreElements ds bs → length (elements_text false comma ds n) ≤ length bs
more_elements-length no_elements n bs within h = omega arith
more_elements-length (element d ds) n bs within (rest, e, j) = omega (arith, ap length e, within rest j)

more_members-length : (ms : Members) (n : ℕ) (bs : List ℕ)
    → ((xs : List ℕ) → AreMembers ms xs → length (members_within ms n) ≤ length xs)
    → AreMoreMembers ms bs → length (members_text false comma ms n) ≤ length bs
more_members-length no_members n bs within h = omega arith
more_members-length (member k d ms) n bs within (rest, e, j) = omega (arith, ap length e, within rest j)

array-length : (ds : Elements) (n : ℕ) (inner : List ℕ) → length (elements_within ds (suc n)) ≤ length inner
    → length (text false (array ds) n) ≤ 2 + length inner
array-length no_elements n inner h = omega arith
array-length (element d ds) n inner h = omega (arith, length-append (elements_within (element d ds) (suc n)) (right_bracket ∷ []), h)

object-length : (ms : Members) (n : ℕ) (inner : List ℕ) → length (members_within ms (suc n)) ≤ length inner
    → length (text false (object ms) n) ≤ 2 + length inner
object-length no_members n inner h = omega arith
object-length (member k d ms) n inner h = omega (arith, length-append (members_within (member k d ms) (suc n)) (right_brace ∷ []), h)

-- ---- documents

mutual
  value-length : (d : Document) (n : ℕ) (bs : List ℕ) → IsValue d bs → IntegersFit d → length (text false d n) ≤ length bs
  value-length null n bs h fits = omega (arith, ap length h)
  value-length (boolean true) n bs h fits = omega (arith, ap length h)
  value-length (boolean false) n bs h fits = omega (arith, ap length h)
  value-length (integer minus m) n bs h fits = integer-length minus m bs h fits
  value-length (decimal literal) n bs (m, e) fits = omega (arith, ap length e)
  value-length (string t) n bs h fits = quoted-length bs t h
  value-length (array ds) n bs (inner, e, h) fits =
      omega (
        arith,
        ap length e,
        length-append inner (right_bracket ∷ []),
        array-length ds n inner (elements-length ds (suc n) inner h fits),
      )
  value-length (object ms) n bs (inner, e, h) fits =
      omega (arith, ap length e, length-append inner (right_brace ∷ []), object-length ms n inner (members-length ms (suc n) inner h fits))

  elements-length : (ds : Elements) (n : ℕ) (bs : List ℕ) → AreElements ds bs → ElementsFit ds → length (elements_within ds n) ≤ length bs
  elements-length no_elements n bs h fits = omega arith
  elements-length (element d ds) n bs j fits =
      both-lengths (IsValue d) (AreMoreElements ds) (text false d n) (elements_text false comma ds n) bs j
      (value-length d n j.left_holds.inner j.left_holds.holds fits.0)
      (more_elements-length ds n j.right (λ xs h. elements-length ds n xs h fits.1) j.right_holds)

  members-length : (ms : Members) (n : ℕ) (bs : List ℕ) → AreMembers ms bs → MembersFit ms → length (members_within ms n) ≤ length bs
  members-length no_members n bs h fits = omega arith
  members-length (member k d ms) n bs j fits =
      let value = j.right_holds.2 in
      omega (
        arith,
        length-append (quoted k ++ codes ":") (text false d n ++ members_text false comma ms n),
        length-append (quoted k) (codes ":"),
        length-append (quoted k) (colon ∷ (text false d n ++ members_text false comma ms n)),
        member-length k (IsValue d) (AreMoreMembers ms) (text false d n) (members_text false comma ms n) bs j
            (value-length d n value.left_holds.inner value.left_holds.holds fits.0)
            (more_members-length ms n value.right (λ xs h. members-length ms n xs h fits.1) value.right_holds),
      )

-- No text that denotes a document is shorter than its compact text.
pub compact-shortest : (b : List ℕ) (d : Document) → Denotes b d → IntegersFit d → length (compact d) ≤ length b
compact-shortest b d h fits = omega (arith, spaced-length (IsValue d) b h, value-length d 0 h.inner h.holds fits)
