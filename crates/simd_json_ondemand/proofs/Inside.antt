-- A cursor that goes on inside a container stays there, and the container's end is where it was.
use Rattle.std.proofs.Common.{◌≡◌, ◌≢◌, refl, sym, ◌∙◌, ap, subst, ℕ, suc, ◌+◌, ◌<◌, List, ◌∷◌, length, drop, get_or, true, cond, arith}
use Rattle.std.specs.Prelude.{Some, Result, Ok, Err}
use Rattle.std.proofs.lemmas.List.{length-drop, drop_more, get_or-drop, drop-drop}
use Rattle.simd_json_parts.specs.Bytes.{byte_at, is_opening}
use Rattle.simd_json_parts.specs.Document as parts
use Rattle.simd_json_parts.specs.Tokens.{Token}
use Rattle.simd_json_parts.specs.TokensAlong.{tokens_along}
use Rattle.simd_json_parts.specs.declared.error.Error.{Error}
use Rattle.simd_json_ondemand.specs.Docs.{text, places}
use Rattle.simd_json_ondemand.specs.Closing.{closed_at, first_bytes, open_after, span}
use Rattle.simd_json_ondemand.specs.Remaining.{value_at_first, elements_inside, elements_behind, elements_past}
use Rattle.simd_json_ondemand.specs.Remaining.{members_inside, members_behind, members_past}
use Rattle.simd_json_ondemand.specs.Viewed.{first_read, read_along}
use Rattle.simd_json_ondemand.specs.Within.{IsItemAt, after_at, elements_at, members_at}
use Rattle.simd_json_ondemand.specs.declared.array.Position.{Position}
use Rattle.simd_json_ondemand.specs.declared.array.Position.TheVariants.{First, AtValue, AfterValue}
use Rattle.simd_json_ondemand.specs.declared.value.Document.{Document}
use Rattle.simd_json_ondemand.proofs.Counting.{closed_at-step}
use Rattle.simd_json_ondemand.proofs.Sequence.Arrays as arrays
use Rattle.simd_json_ondemand.proofs.Sequence.Objects as objects
use Rattle.simd_json_ondemand.proofs.Sequence.Reading.{spans}

module _ (b is : List ℕ) where
  abbrev count : ℕ → ℕ
  count at = closed_at 1 (first_bytes b (drop at is))

  abbrev past : ℕ → ℕ
  past at = at + span b (drop at is)

  -- ---- what the count passes

  -- a value that is read
  value-counted : (at : ℕ) (d : parts.Document) → read_along b (drop at is) ≡ Some d → at + count at ≡ past at + count (past at)
  value-counted at d h = go (value_at_first b (tokens_along b (drop at is))) refl h
    where
      n : ℕ
      n = span b (drop at is)

      go : (r : Result (parts.Document × List Token) Error) → value_at_first b (tokens_along b (drop at is)) ≡ r → first_read r ≡ Some d
          → at + count at ≡ past at + count (past at)
      go (Ok x) e f =
          let s = spans b (drop at is) x.0 x.1 e in
          let counted : closed_at 1 (first_bytes b (drop at is)) ≡ n + closed_at 1 (first_bytes b (drop n (drop at is))) =
          subst (λ k. closed_at 1 (first_bytes b (drop at is)) ≡ k + closed_at 1 (first_bytes b (drop k (drop at is)))) s.whole
          (s.passed.counted 0) in
          let there : closed_at 1 (first_bytes b (drop n (drop at is))) ≡ closed_at 1 (first_bytes b (drop (at + n) is)) =
          ap (λ js. closed_at 1 (first_bytes b js)) (drop-drop n at is) in
          omega arith
      go (Err e) f g = cc

  -- a token that is no bracket
  token-counted : (at c : ℕ) → at < length is → byte_at b (get_or is at 0) ≡ c → open_after 0 c ≡ 1 → count at ≡ suc (count (at + 1))
  token-counted at c l e same =
      closed_at-step b is at 1 l (omega arith)
      ∙ ap (λ n. suc (closed_at n (first_bytes b (drop (at + 1) is)))) (ap (open_after 0) e ∙ same)

  -- a container ends where the count from the token after its opening bracket does
  pub open-ends : (at c : ℕ) → at < length is → byte_at b (get_or is at 0) ≡ c → is_opening c ≡ true
      → at + 1 + closed_at 1 (first_bytes b (drop (at + 1) is)) ≡ at + span b (drop at is)
  open-ends at c l e o =
      let whole : span b (drop at is) ≡ suc (count (at + 1)) =
      ap (span b) (drop_more is at 0 l) ∙ ap (λ t. cond t (suc (count (at + 1))) 1) (ap is_opening e ∙ o) in
      omega arith

  -- ---- arrays

  element-inside : (at : ℕ) (ds : List parts.Document) → arrays.AtElement b (drop at is) ds
      → ((left : List parts.Document) × (elements_past b (drop at is) ≡ Some left)) × (past at + count (past at) ≡ at + count at)
  element-inside at ds a = ((a.others, a.past), sym (value-counted at a.document a.read))

  pub first-element : (at : ℕ) (ds : List parts.Document) → at < length is → byte_at b (get_or is at 0) ≢ 93
      → elements_inside b (drop at is) ≡ Some ds
      → ((left : List parts.Document) × (elements_past b (drop at is) ≡ Some left))
      × (at + span b (drop at is) + closed_at 1 (first_bytes b (drop (at + span b (drop at is)) is))
      ≡ at + closed_at 1 (first_bytes b (drop at is)))
  first-element at ds l ne h =
      let here : drop at is ≡ get_or is at 0 ∷ drop (at + 1) is = drop_more is at 0 l in
      element-inside at ds (subst (λ js. arrays.AtElement b js ds) (sym here)
      (arrays.inside-element b (get_or is at 0) (drop (at + 1) is) ds ne (ap (elements_inside b) (sym here) ∙ h)))

  pub next-element : (at : ℕ) (ds : List parts.Document) → at < length is → byte_at b (get_or is at 0) ≡ 44
      → elements_behind b (drop at is) ≡ Some ds
      → ((left : List parts.Document) × (elements_past b (drop (at + 1) is) ≡ Some left))
      × (at + 1 + span b (drop (at + 1) is) + closed_at 1 (first_bytes b (drop (at + 1 + span b (drop (at + 1) is)) is))
      ≡ at + closed_at 1 (first_bytes b (drop at is)))
  next-element at ds l e h =
      let here : drop at is ≡ get_or is at 0 ∷ drop (at + 1) is = drop_more is at 0 l in
      let a = arrays.behind-comma b (get_or is at 0) (drop (at + 1) is) ds e (ap (elements_behind b) (sym here) ∙ h) in
      let inside = element-inside (at + 1) ds a in
      let comma = token-counted at 44 l e refl in
      (inside.0, inside.1 ∙ omega arith)

  -- ---- objects

  member-inside : (at : ℕ) (ms : List (List ℕ × parts.Document)) → objects.AtMember b (drop at is) ms
      → ((left : List (List ℕ × parts.Document)) × (members_past b (drop (at + 2) is) ≡ Some left))
      × (past (at + 2) + count (past (at + 2)) ≡ at + count at)
  member-inside at ms a =
      let there : drop 2 (drop at is) ≡ drop (at + 2) is = drop-drop 2 at is in
      let fits : at + 2 < length is = omega (arith, a.fits, length-drop at is) in
      let first : byte_at b (get_or is at 0) ≡ 34 =
      ap (λ n. byte_at b (get_or is n 0)) (omega arith) ∙ ap (byte_at b) (sym (get_or-drop at is 0 0)) ∙ a.quote in
      let second : byte_at b (get_or is (at + 1) 0) ≡ 58 = ap (byte_at b) (sym (get_or-drop at is 1 0)) ∙ a.colon in
      let key = token-counted at 34 (omega arith) first refl in
      let colon = token-counted (at + 1) 58 (omega arith) second refl in
      let two : at + 1 + 1 ≡ at + 2 = omega arith in
      let value = value-counted (at + 2) a.document (ap (read_along b) (sym there) ∙ a.read) in
      ((a.others, ap (members_past b) (sym there) ∙ a.past), sym value ∙ omega (arith, key, colon, ap count two))

  pub first-member : (at : ℕ) (ms : List (List ℕ × parts.Document)) → at < length is → byte_at b (get_or is at 0) ≢ 125
      → members_inside b (drop at is) ≡ Some ms
      → ((left : List (List ℕ × parts.Document)) × (members_past b (drop (at + 2) is) ≡ Some left))
      × (at + 2 + span b (drop (at + 2) is) + closed_at 1 (first_bytes b (drop (at + 2 + span b (drop (at + 2) is)) is))
      ≡ at + closed_at 1 (first_bytes b (drop at is)))
  first-member at ms l other h =
      let here : drop at is ≡ get_or is at 0 ∷ drop (at + 1) is = drop_more is at 0 l in
      member-inside at ms (subst (λ js. objects.AtMember b js ms) (sym here)
      (objects.inside-member b (get_or is at 0) (drop (at + 1) is) ms other (ap (members_inside b) (sym here) ∙ h)))

  pub next-member : (at : ℕ) (ms : List (List ℕ × parts.Document)) → at < length is → byte_at b (get_or is at 0) ≡ 44
      → members_behind b (drop at is) ≡ Some ms
      → ((left : List (List ℕ × parts.Document)) × (members_past b (drop (at + 1 + 2) is) ≡ Some left))
      × (at + 1 + 2 + span b (drop (at + 1 + 2) is)
      + closed_at 1 (first_bytes b (drop (at + 1 + 2 + span b (drop (at + 1 + 2) is)) is))
      ≡ at + closed_at 1 (first_bytes b (drop at is)))
  next-member at ms l e h =
      let here : drop at is ≡ get_or is at 0 ∷ drop (at + 1) is = drop_more is at 0 l in
      let a = objects.behind-comma b (get_or is at 0) (drop (at + 1) is) ms e (ap (members_behind b) (sym here) ∙ h) in
      let inside = member-inside (at + 1) ms a in
      let comma = token-counted at 44 l e refl in
      (inside.0, inside.1 ∙ omega arith)

-- ---- a cursor that comes to a value at `next` is in the same container as before

abbrev pub StaysInArray : Document → ℕ → Position → ℕ → Type 0
StaysInArray d at position next = (ds : List parts.Document) → elements_at d at position ≡ Some ds
    → ((left : List parts.Document) × (elements_at d next AtValue ≡ Some left)) × (after_at d next AtValue ≡ after_at d at position)

abbrev pub StaysInObject : Document → ℕ → Position → ℕ → Type 0
StaysInObject d at position next = (ms : List (List ℕ × parts.Document)) → members_at d at position ≡ Some ms
    → ((left : List (List ℕ × parts.Document)) × (members_at d next AtValue ≡ Some left))
    × (after_at d next AtValue ≡ after_at d at position)

module _ (d : Document) (at : ℕ) (l : at < length (places d)) where
  abbrev n : ℕ
  n = span (text d) (drop at (places d))

  -- what is behind a value, from the value on
  there : {A : Type 0} (f : List ℕ → A) → f (drop n (drop at (places d))) ≡ f (drop (at + n) (places d))
  there f = ap f (drop-drop n at (places d))

  pub stays-in-array : (position : Position) (next : ℕ) → IsItemAt 93 d at position next → StaysInArray d at position next
  stays-in-array First next i ds h =
      subst (StaysInArray d at First) (sym i.1) (λ es g. first-element (text d) (places d) at es l i.0 g) ds h
  stays-in-array AtValue next i ds h =
      subst (StaysInArray d (at + n) AfterValue) (sym i.2) (λ es g. next-element (text d) (places d) (at + n) es i.0 i.1 g) ds
      (sym (there (elements_behind (text d))) ∙ h)
  stays-in-array AfterValue next i ds h =
      subst (StaysInArray d at AfterValue) (sym i.2) (λ es g. next-element (text d) (places d) at es i.0 i.1 g) ds h

  pub stays-in-object : (position : Position) (key : ℕ) → IsItemAt 125 d at position key → StaysInObject d at position (key + 2)
  stays-in-object First key i ms h =
      subst (λ k. StaysInObject d at First (k + 2)) (sym i.1) (λ es g. first-member (text d) (places d) at es l i.0 g) ms h
  stays-in-object AtValue key i ms h =
      subst (λ k. StaysInObject d (at + n) AfterValue (k + 2)) (sym i.2)
      (λ es g. next-member (text d) (places d) (at + n) es i.0 i.1 g) ms (sym (there (members_behind (text d))) ∙ h)
  stays-in-object AfterValue key i ms h =
      subst (λ k. StaysInObject d at AfterValue (k + 2)) (sym i.2) (λ es g. next-member (text d) (places d) at es i.0 i.1 g) ms h
