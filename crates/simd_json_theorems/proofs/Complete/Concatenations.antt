-- What holds of the parts of a document, and of concatenations, holds of all bytes that denote a document.
use Rattle.std.proofs.Common.{◌≡◌, refl, sym, subst, ℕ, arith, List, [], ◌∷◌, ◌++◌, Bool, true, false, not, ◌&&◌, ◌==◌, nat_lt, IsTrue}
use Rattle.std.specs.List.{list_all}
use Rattle.std.proofs.lemmas.Bool.{and_parts, not-false}
use Rattle.std.proofs.lemmas.Bool.Decides.{nat_tests}
use Rattle.std.proofs.lemmas.List.Sums.{list_all-from_AllPass}
use Rattle.simd_json_parts.specs.Bytes.{quote, backslash, is_whitespace, comma, colon, left_bracket, right_bracket, left_brace, right_brace}
use Rattle.simd_json_parts.specs.Document.{Document, null, boolean, integer, decimal, string, array, object, Elements, no_elements}
use Rattle.simd_json_parts.specs.Document.{element, Members, no_members, member}
use Rattle.simd_json_parts.specs.Grammar.{IsWhitespace, Spaced, Joined, After, IsValue, AreElements, AreMoreElements, AreMembers}
use Rattle.simd_json_parts.specs.Grammar.{AreMoreMembers, Denotes}
use Rattle.simd_json_parts.specs.Numbers.{number_literal}
use Rattle.simd_json_parts.specs.Patterns.{Matches}
use Rattle.simd_json_parts.specs.Strings.{IsStringLiteral}
use Rattle.simd_json_scalars.proofs.Numbers.Literals.{integer-number, decimal-number}
use Rattle.simd_json_parts.proofs.Patterns.Bytes.{All-Matches}

-- the set has the empty list, and concatenations of its lists
pub record IsClosed (P : List ℕ → Type 0) : Type 0 where
  pub nil : P []
  pub append : (xs ys : List ℕ) → P xs → P ys → P (xs ++ ys)

-- ASCII, but no quote and no backslash: so is each byte that is not in a string
abbrev pub is_unquoted : ℕ → Bool
is_unquoted c = nat_lt c 128 && not (c == quote) && not (c == backslash)

is_unquoted-space : (c : ℕ) → is_whitespace c ≡ true → is_unquoted c ≡ true
is_unquoted-space c h = grind (arith, nat_tests)

module _ (P : List ℕ → Type 0) (closed : IsClosed P) where
  -- What holds of each byte that passes a test holds of lists of such bytes.
  pub of_bytes : (test : ℕ → Bool) → ((c : ℕ) → test c ≡ true → P (c ∷ [])) → (xs : List ℕ) → IsTrue (list_all test xs) → P xs
  of_bytes test each [] h = closed.nil
  of_bytes test each (x ∷ xs) h =
      let both : (test x ≡ true) × IsTrue (list_all test xs) = and_parts _ _ h in
      closed.append (x ∷ []) xs (each x both.0) (of_bytes test each xs both.1)

  module _ (plain : (c : ℕ) → is_unquoted c ≡ true → P (c ∷ [])) (strings : (xs t : List ℕ) → IsStringLiteral xs t → P xs) where
    -- whitespace and numbers
    of_space : (xs : List ℕ) → IsWhitespace xs → P xs
    of_space = of_bytes is_whitespace (λ c h. plain c (is_unquoted-space c h))

    of_number : (xs : List ℕ) → Matches number_literal xs → P xs
    of_number xs m =
        of_bytes is_unquoted plain xs
        (list_all-from_AllPass is_unquoted xs
        (λ i c l. not-false _ (All-Matches (λ x. not (is_unquoted x)) number_literal xs refl m i c l)))

    -- concatenations, and what stands after or between structural characters
    of_spaced : (Q : List ℕ → Type 0) → ((xs : List ℕ) → Q xs → P xs) → (xs : List ℕ) → Spaced Q xs → P xs
    of_spaced Q of xs s =
        subst P (sym s.whole) (closed.append (s.before ++ s.inner) s.after (closed.append s.before s.inner
        (of_space s.before s.before_space) (of s.inner s.holds)) (of_space s.after s.after_space))

    of_joined : (Q R : List ℕ → Type 0) → ((xs : List ℕ) → Q xs → P xs) → ((xs : List ℕ) → R xs → P xs)
        → (xs : List ℕ) → Joined Q R xs → P xs
    of_joined Q R of more xs j = subst P (sym j.whole) (closed.append j.left j.right (of j.left j.left_holds) (more j.right j.right_holds))

    of_after : (c : ℕ) → is_unquoted c ≡ true → (xs ys : List ℕ) → xs ≡ c ∷ ys → P ys → P xs
    of_after c is xs ys e h = subst P (sym e) (closed.append (c ∷ []) ys (plain c is) h)

    of_between : (first last : ℕ) → is_unquoted first ≡ true → is_unquoted last ≡ true → (xs ys : List ℕ)
        → xs ≡ first ∷ (ys ++ last ∷ []) → P ys → P xs
    of_between first last is is' xs ys e h = of_after first is xs (ys ++ last ∷ []) e (closed.append ys (last ∷ []) h (plain last is'))

    -- a member and what follows it
    of_member : (k : List ℕ) (Q R : List ℕ → Type 0) → ((xs : List ℕ) → Q xs → P xs) → ((xs : List ℕ) → R xs → P xs)
        → (xs : List ℕ) → Joined (Spaced (λ name. IsStringLiteral name k)) (After colon (Joined Q R)) xs → P xs
    of_member k Q R of more =
        of_joined (Spaced (λ name. IsStringLiteral name k)) (After colon (Joined Q R))
        (of_spaced (λ name. IsStringLiteral name k) (λ name. strings name k))
        (λ xs h. of_after colon refl xs h.0 h.1 (of_joined Q R of more h.0 h.2))

    -- documents, and their elements and members
    mutual
      of_value : (d : Document) (xs : List ℕ) → IsValue d xs → P xs
      of_value null xs h = of_bytes is_unquoted plain xs (subst (λ us. IsTrue (list_all is_unquoted us)) (sym h) refl)
      of_value (boolean true) xs h = of_bytes is_unquoted plain xs (subst (λ us. IsTrue (list_all is_unquoted us)) (sym h) refl)
      of_value (boolean false) xs h = of_bytes is_unquoted plain xs (subst (λ us. IsTrue (list_all is_unquoted us)) (sym h) refl)
      of_value (integer minus n) xs h = of_number xs (integer-number xs h.0)
      of_value (decimal literal) xs h = of_number xs (decimal-number xs h.0)
      of_value (string t) xs h = strings xs t h
      of_value (array ds) xs (inner, e, h) = of_between left_bracket right_bracket refl refl xs inner e (of_elements ds inner h)
      of_value (object ms) xs (inner, e, h) = of_between left_brace right_brace refl refl xs inner e (of_members ms inner h)

      of_elements : (ds : Elements) (xs : List ℕ) → AreElements ds xs → P xs
      of_elements no_elements xs h = of_space xs h
      of_elements (element d ds) xs h =
          of_joined (Spaced (IsValue d)) (AreMoreElements ds) (of_spaced (IsValue d) (of_value d)) (of_more_elements ds) xs h

      of_more_elements : (ds : Elements) (xs : List ℕ) → AreMoreElements ds xs → P xs
      of_more_elements no_elements xs h = subst P (sym h) closed.nil
      of_more_elements (element d ds) xs (ys, e, h) =
          of_after comma refl xs ys e
          (of_joined (Spaced (IsValue d)) (AreMoreElements ds) (of_spaced (IsValue d) (of_value d)) (of_more_elements ds) ys h)

      of_members : (ms : Members) (xs : List ℕ) → AreMembers ms xs → P xs
      of_members no_members xs h = of_space xs h
      of_members (member k d ms) xs h =
          of_member k (Spaced (IsValue d)) (AreMoreMembers ms) (of_spaced (IsValue d) (of_value d)) (of_more_members ms) xs h

      of_more_members : (ms : Members) (xs : List ℕ) → AreMoreMembers ms xs → P xs
      of_more_members no_members xs h = subst P (sym h) closed.nil
      of_more_members (member k d ms) xs (ys, e, h) =
          of_after comma refl xs ys e
          (of_member k (Spaced (IsValue d)) (AreMoreMembers ms) (of_spaced (IsValue d) (of_value d)) (of_more_members ms) ys h)

    -- It holds of bytes that denote a document.
    pub of_denoted : (b : List ℕ) (d : Document) → Denotes b d → P b
    of_denoted b d = of_spaced (IsValue d) (of_value d) b
