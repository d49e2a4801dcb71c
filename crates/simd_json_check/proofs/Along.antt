-- What is read along structural indexes, step by step: a string or a scalar, a container, an element, a member.
use Rattle.std.proofs.Common.{◌≡◌, ◌≢◌, refl, sym, ◌∙◌, ap, ℕ, zero, suc, ◌+◌, ◌<◌, List, [], ◌∷◌, drop, length, get_or, true, false}
use Rattle.std.proofs.Common.{◌≤◌, inl, arith}
use Rattle.std.specs.Prelude.{Some, None, Ok, Err}
use Rattle.std.proofs.lemmas.List.{drop_all}
use Rattle.simd_json_parts.specs.Answer.{answer}
use Rattle.simd_json_parts.specs.Bytes.{byte_at}
use Rattle.simd_json_parts.specs.Descent.{descent, last_index, root_end}
use Rattle.simd_json_parts.specs.InputFaults.{input_fault}
use Rattle.simd_json_parts.specs.Positions.{positions}
use Rattle.simd_json_parts.specs.Descent.{◌>>=◌, Reads, value_from, array_from, object_from, element_end, elements_by, first_element}
use Rattle.simd_json_parts.specs.Descent.{first_member, member_end, members_by, name_from, name_end}
use Rattle.simd_json_parts.specs.Document.{Document, string, array, object, Elements, no_elements, element, Members, no_members, member}
use Rattle.simd_json_parts.specs.Faults.{fault_at}
use Rattle.simd_json_parts.specs.StringAt.{string_at}
use Rattle.simd_json_parts.specs.Tokens.{Token, Form, begin_array, end_array, begin_object, end_object, name_separator, value_separator}
use Rattle.simd_json_parts.specs.Tokens.{string_token, scalar, form_at, tokens}
use Rattle.simd_json_parts.specs.TokensAlong.{goes_on, tokens_along}
use Rattle.simd_json_parts.specs.declared.error.Error.{Error}
use Rattle.simd_json_parts.specs.declared.error.ErrorType.{ErrorType}
use Rattle.simd_json_parts.specs.declared.error.ErrorType.TheVariants.{Syntax, ExpectedObjectKey, ExpectedObjectContent}
use Rattle.simd_json_parts.proofs.Descent.ArrayTurns.{TakesTokens, elements_by-turn, turn}
use Rattle.simd_json_parts.proofs.Descent.ObjectTurns.{members_by-turn, rest_after_name, after_colon, rest_after_value}
use Rattle.simd_json_parts.proofs.Descent.Shrinking.{value_from-leaves}
use Rattle.simd_json_stages.proofs.Machine.Steps.{is_end_array, is_end_object}
use Rattle.simd_json_stages.proofs.Tokens.TokenForms as forms
use Rattle.simd_json_parts.proofs.Positions.TokensAtPositions.{tokens-positions}
use Rattle.simd_json_check.proofs.Enough.{kept, value_from-keeps}
use Rattle.simd_json_stages.proofs.Whole.{descent-answered}
use Rattle.simd_json_check.specs.Scalars.{scalar_of}
use Rattle.simd_json_check.specs.Whole.{IsValue, IsElements, IsMembers}

module _ (b is : List ℕ) where
  abbrev pub missing : Error
  missing = fault_at b Syntax 0

  abbrev pub index : ℕ → ℕ
  index k = get_or is k 0

  abbrev pub after : ℕ → List Token
  after k = tokens_along b (drop k is)

  -- a token without a fault, and those after it
  here : (k : ℕ) (form : Form) → k < length is → form_at b (index k) ≡ form → goes_on form ≡ true
      → after k ≡ record { index = index k; form = form } ∷ after (k + 1)
  here k form l e g =
      forms.next b is k l ∙ forms.along-form b (index k) (drop (k + 1) is) form e g
      ∙ ap (λ f. record { index = index k; form = f } ∷ after (k + 1)) e

  module _ (levels : ℕ) where
    abbrev pub value : Reads Document
    value = value_from b missing levels

    takes : TakesTokens missing value
    unfolding value_from
    takes = record { none = nothing levels; some = value_from-leaves b missing levels }
      where
        nothing : (n : ℕ) → value_from b missing n [] ≡ Err missing
        nothing zero = refl
        nothing (suc n) = refl

    -- ---- a string or a scalar

    pub standing-read : (k : ℕ) (d : Document) → k < length is → scalar_of (form_at b (index k)) ≡ Some d → IsValue b is levels k (k + 1)
    unfolding value_from
    standing-read k d l h = go (form_at b (index k)) refl h
      where
        of_string : (n : ℕ) (s : List ℕ × ℕ) (ts : List Token)
            → value_from b missing n (record { index = index k; form = string_token (Ok s) } ∷ ts) ≡ Ok (string s.0, ts)
        of_string zero s ts = refl
        of_string (suc n) s ts = refl

        of_scalar : (n : ℕ) (s : Document × ℕ) (ts : List Token)
            → value_from b missing n (record { index = index k; form = scalar (Ok s) } ∷ ts) ≡ Ok (s.0, ts)
        of_scalar zero s ts = refl
        of_scalar (suc n) s ts = refl

        go : (form : Form) → form_at b (index k) ≡ form → scalar_of form ≡ Some d → IsValue b is levels k (k + 1)
        go (string_token (Ok s)) e h = (string s.0, ap value (here k (string_token (Ok s)) l e refl) ∙ of_string levels s (after (k + 1)))
        go (string_token (Err f)) e h = absurd (cc h)
        go (scalar (Ok s)) e h = (s.0, ap value (here k (scalar (Ok s)) l e refl) ∙ of_scalar levels s (after (k + 1)))
        go (scalar (Err f)) e h = absurd (cc h)
        go _ e h = absurd (cc h)

    -- ---- an array

    pub array-read : (k end : ℕ) → k < length is → byte_at b (index k) ≡ 91 → IsElements b is levels (k + 1) end
        → IsValue b is (suc levels) k end
    unfolding value_from
    array-read k end l e (es, h) = (
      array es,
      ap (value_from b missing (suc levels)) (here k begin_array l (forms.opens b (index k) e) refl)
          ∙ ap (λ r. r >>= λ inner. Ok (array inner.0, inner.1)) h,
    )

    pub array-empty : (k : ℕ) → k < length is → byte_at b (index k) ≡ 93 → IsElements b is levels k (k + 1)
    array-empty k l e = (no_elements, ap (array_from b missing value) (here k end_array l (forms.closes b (index k) e) refl))

    -- from an element on
    abbrev pub AtElement : ℕ → ℕ → Type 0
    AtElement k end = (es : Elements) × (elements_by b missing value (after k) ≡ Ok (es, after end))

    pub array-first : (k end : ℕ) → k < length is → byte_at b (index k) ≢ 93 → AtElement k end → IsElements b is levels k end
    array-first k end l ne (es, h) =
        let all : after k ≡ tokens_along b (index k ∷ drop (k + 1) is) = forms.next b is k l in (
          es,
          ap (array_from b missing value) all ∙ opened (form_at b (index k)) _ _ (forms.no_end b (index k) ne)
              ∙ ap (elements_by b missing value) (sym all) ∙ h,
        )
      where
        opened : (form : Form) (all ts : List Token) → is_end_array form ≡ false
            → first_element b missing form all ts (elements_by b missing value) ≡ elements_by b missing value all
        opened end_array all ts h = absurd (cc h)
        opened _ all ts h = refl

    module _ (k next : ℕ) (first : IsValue b is levels k next) (l : next < length is) where
      element-turn : elements_by b missing value (after k)
          ≡ (element_end b missing (after next) (elements_by b missing value) >>= λ rest. Ok (element first.0 rest.0, rest.1))
      element-turn =
          elements_by-turn b missing value takes (after k) ∙ ap (λ r. turn b missing value takes r (elements_by b missing value)) first.1

      pub array-last : byte_at b (index next) ≡ 93 → AtElement k (next + 1)
      array-last e = (
        element first.0 no_elements,
        element-turn ∙ ap (λ ts. element_end b missing ts (elements_by b missing value) >>= λ rest. Ok (element first.0 rest.0, rest.1))
            (here next end_array l (forms.closes b (index next) e) refl),
      )

      pub array-more : (end : ℕ) → byte_at b (index next) ≡ 44 → AtElement (next + 1) end → AtElement k end
      array-more end e (es, h) = (
        element first.0 es,
        element-turn ∙ ap (λ ts. element_end b missing ts (elements_by b missing value) >>= λ rest. Ok (element first.0 rest.0, rest.1))
            (here next value_separator l (forms.commas b (index next) e) refl)
            ∙ ap (λ r. r >>= λ rest. Ok (element first.0 rest.0, rest.1)) h,
      )

    -- ---- an object

    pub object-read : (k end : ℕ) → k < length is → byte_at b (index k) ≡ 123 → IsMembers b is levels (k + 1) end
        → IsValue b is (suc levels) k end
    unfolding value_from
    object-read k end l e (ms, h) = (
      object ms,
      ap (value_from b missing (suc levels)) (here k begin_object l (forms.opens_object b (index k) e) refl)
          ∙ ap (λ r. r >>= λ inner. Ok (object inner.0, inner.1)) h,
    )

    pub object-empty : (k : ℕ) → k < length is → byte_at b (index k) ≡ 125 → IsMembers b is levels k (k + 1)
    object-empty k l e = (no_members, ap (object_from b missing value) (here k end_object l (forms.closes_object b (index k) e) refl))

    -- from a name on, whatever the fault of another token is
    abbrev pub AtMember : ℕ → ℕ → Type 0
    AtMember k end = (kind : ErrorType) → (ms : Members) × (members_by b missing value kind (after k) ≡ Ok (ms, after end))

    pub object-first : (k end : ℕ) → k < length is → byte_at b (index k) ≢ 125 → AtMember k end → IsMembers b is levels k end
    object-first k end l ne h =
        let all : after k ≡ tokens_along b (index k ∷ drop (k + 1) is) = forms.next b is k l in
        let read = h ExpectedObjectContent in (
          read.0,
          ap (object_from b missing value) all ∙ opened (form_at b (index k)) _ _ (forms.no_end_object b (index k) ne)
              ∙ ap (members_by b missing value ExpectedObjectContent) (sym all) ∙ read.1,
        )
      where
        opened : (form : Form) (all ts : List Token) → is_end_object form ≡ false
            → first_member b missing form all ts (members_by b missing value ExpectedObjectContent)
            ≡ members_by b missing value ExpectedObjectContent all
        opened end_object all ts h = absurd (cc h)
        opened _ all ts h = refl

    module _ (k next : ℕ) (s : List ℕ × ℕ) (l : next < length is) (named : k + 1 < length is) (key : byte_at b (index k) ≡ 34)
        (read : string_at b (index k) ≡ Ok s) (colon : byte_at b (index (k + 1)) ≡ 58) (first : IsValue b is levels (k + 2) next) where
      abbrev others : Reads Members
      others = members_by b missing value ExpectedObjectKey

      member-turn : (kind : ErrorType) → members_by b missing value kind (after k)
          ≡ (member_end b missing (after next) others >>= λ rest. Ok (member s.0 first.0 rest.0, rest.1))
      member-turn kind =
          let two : k + 1 + 1 ≡ k + 2 = omega arith in
          members_by-turn b missing value takes kind (after k)
          ∙ ap (λ ts. name_from b missing kind ts >>= rest_after_name b missing value takes others)
          (here k (string_token (Ok s)) (omega arith) (forms.quotes b (index k) key ∙ ap string_token read) refl)
          ∙ ap (λ ts. name_end b missing ts >>= after_colon b missing value takes others s.0)
          (here (k + 1) name_separator named (forms.colons b (index (k + 1)) colon) refl)
          ∙ ap (λ j. after_colon b missing value takes others s.0 (after j)) two
          ∙ ap (λ r. r >>= rest_after_value b missing value takes others s.0) first.1

      pub object-last : byte_at b (index next) ≡ 125 → AtMember k (next + 1)
      object-last e kind = (
        member s.0 first.0 no_members,
        member-turn kind ∙ ap (λ ts. member_end b missing ts others >>= λ rest. Ok (member s.0 first.0 rest.0, rest.1))
            (here next end_object l (forms.closes_object b (index next) e) refl),
      )

      pub object-more : (end : ℕ) → byte_at b (index next) ≡ 44 → AtMember (next + 1) end → AtMember k end
      object-more end e h kind =
          let more = h ExpectedObjectKey in (
            member s.0 first.0 more.0,
            member-turn kind ∙ ap (λ ts. member_end b missing ts others >>= λ rest. Ok (member s.0 first.0 rest.0, rest.1))
                (here next value_separator l (forms.commas b (index next) e) refl)
                ∙ ap (λ r. r >>= λ rest. Ok (member s.0 first.0 rest.0, rest.1)) more.1,
          )

-- ---- the whole

-- A value that takes all of the indexes is the document that a parse answers.
pub value-answered : (b : List ℕ) (levels limit end : ℕ) → input_fault b ≡ None → levels ≤ limit → end ≡ length (positions b)
    → IsValue b (positions b) levels 0 end → (d : Document) × (answer b limit ≡ Ok d)
unfolding descent
value-answered b levels limit end none l whole (d, h) =
    let is : List ℕ = positions b in
    let us : List Token = tokens_along b is in
    let last : Error = fault_at b Syntax (last_index (tokens b)) in
    let rest : drop end is ≡ [] = drop_all end is (omega (arith, whole)) in
    let read : value_from b (fault_at b Syntax 0) levels us ≡ Ok (d, []) = h ∙ ap (λ js. Ok (d, tokens_along b js)) rest in
    let more : value_from b last limit us ≡ Ok (d, []) =
    kept (value_from b (fault_at b Syntax 0) levels us) (value_from b last limit us) (d, [])
    (value_from-keeps b (fault_at b Syntax 0) last levels limit us (inl l)) read in (
      d,
      descent-answered b limit none
          ∙ ap (λ r. r >>= root_end b (tokens b)) (ap (value_from b last limit) (tokens-positions b) ∙ more),
    )
