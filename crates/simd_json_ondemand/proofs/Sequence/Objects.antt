-- The members of an object one after another, as a cursor comes to them.
use Rattle.std.proofs.Common.{◌≡◌, ◌≢◌, refl, sym, ◌∙◌, ap, ℕ, ◌<◌, ◌≤◌, inl, inr, false, ◌==◌, cond, List, [], ◌∷◌, length, drop, get_or}
use Rattle.std.proofs.Common.{arith, Option, Some, Result, Ok, Err}
use Rattle.std.proofs.lemmas.Bool.{cases_Bool, eqb-true, false≢true}
use Rattle.simd_json_parts.specs.Bytes.{byte_at}
use Rattle.simd_json_parts.specs.Document.{Document, object, Elements, Members, members, member}
use Rattle.simd_json_parts.specs.Faults.{fault_at}
use Rattle.simd_json_parts.specs.StringAt.{string_at}
use Rattle.simd_json_parts.specs.Tokens.{Token, Form, begin_object, end_object, name_separator, value_separator, string_token, form_at}
use Rattle.simd_json_parts.specs.TokensAlong.{goes_on, tokens_along}
use Rattle.simd_json_parts.specs.Descent.{◌>>=◌, Reads, array_from, name_of, name_from, after_name, name_end, after_member, member_end}
use Rattle.simd_json_parts.specs.Descent.{members_by, first_member, object_from, value_of, value_from}
use Rattle.simd_json_parts.specs.declared.error.Error.{Error}
use Rattle.simd_json_parts.specs.declared.error.ErrorType.{ErrorType}
use Rattle.simd_json_parts.specs.declared.error.ErrorType.TheVariants.{Syntax, ExpectedObjectKey, ExpectedObjectContent}
use Rattle.simd_json_parts.proofs.Descent.ObjectTurns.{members_by-turn, rest_after_value, after_colon, rest_after_name}
use Rattle.simd_json_parts.proofs.Descent.Shrinking.{value_from-leaves}
use Rattle.simd_json_stages.proofs.Machine.Steps.{is_end_object, is_string, is_name_separator, ends_member}
use Rattle.simd_json_stages.proofs.Tokens.TokenForms as forms
use Rattle.simd_json_ondemand.specs.Viewed.{read_along, first_read}
use Rattle.simd_json_ondemand.specs.Remaining.{value_at_first, paired, members_inside, members_behind, members_past}
use Rattle.simd_json_ondemand.proofs.Sequence.Reading.{takes, enough, left}
use Rattle.simd_json_check.proofs.Enough.{kept, object_from-keeps}

module _ (b : List ℕ) where
  -- ---- a form's byte

  quote_here : (i : ℕ) (read : Result (List ℕ × ℕ) Error) → form_at b i ≡ string_token read → (byte_at b i ≡ 34) × (string_at b i ≡ read)
  quote_here i read e =
      elim (cases_Bool (byte_at b i == 34)) [
        | inl quote ↦ let byte : byte_at b i ≡ 34 = eqb-true (byte_at b i) 34 quote in
            let same : string_token (string_at b i) ≡ string_token read = sym (forms.quotes b i byte) ∙ e in (byte, cc)
        | inr other ↦ absurd (false≢true (sym (forms.no_string b i (λ h. false≢true (sym other ∙ ap (λ c. c == 34) h))) ∙ ap is_string e))
      ]

  colon_here : (i : ℕ) → form_at b i ≡ name_separator → byte_at b i ≡ 58
  colon_here i e =
      elim (cases_Bool (byte_at b i == 58)) [
        | inl colon ↦ eqb-true (byte_at b i) 58 colon
        | inr other ↦
            absurd (false≢true (sym (forms.no_colon b i (λ h. false≢true (sym other ∙ ap (λ c. c == 58) h))) ∙ ap is_name_separator e))
      ]

  -- ---- members

  -- at the key of a member: the first of those that are left; its value is two tokens further
  pub record AtMember (is : List ℕ) (ms : List (List ℕ × Document)) : Type 0 where
    pub key : List ℕ
    pub end : ℕ
    pub document : Document
    pub others : List (List ℕ × Document)
    pub all : ms ≡ (key, document) ∷ others
    pub fits : 2 < length is
    pub quote : byte_at b (get_or is 0 0) ≡ 34
    pub string : string_at b (get_or is 0 0) ≡ Ok (key, end)
    pub colon : byte_at b (get_or is 1 0) ≡ 58
    pub read : read_along b (drop 2 is) ≡ Some document
    pub past : members_past b (drop 2 is) ≡ Some others

  some_token : (is : List ℕ) (d : Document) → read_along b is ≡ Some d → 0 < length is
  unfolding value_from
  some_token [] d e = absurd (cc)
  some_token (i ∷ is) d e = omega arith

  m : Error
  m = fault_at b Syntax 0

  more : Reads Members
  more = members_by b (fault_at b Syntax 0) (value_at_first b) ExpectedObjectKey

  module _ (kind : ErrorType) (ms : List (List ℕ × Document)) (i : ℕ) where
    -- the value, and what follows
    at_value : (c : ℕ) (vs : List ℕ) (key : List ℕ) (end : ℕ) → byte_at b i ≡ 34 → string_at b i ≡ Ok (key, end) → byte_at b c ≡ 58
        → paired b (value_at_first b (tokens_along b vs) >>= rest_after_value b (fault_at b Syntax 0) (value_at_first b)
        (takes b) more key) ≡ Some ms
        → AtMember (i ∷ c ∷ vs) ms
    unfolding more
    at_value c vs key end quote string colon e = first (value_at_first b (tokens_along b vs)) refl e
      where
        rest : (d : Document) (mid : List Token) → value_at_first b (tokens_along b vs) ≡ Ok (d, mid)
            → (r : Result (Members × List Token) Error)
            → member_end b (fault_at b Syntax 0) mid more ≡ r → paired b (r >>= λ rest. Ok (member key d rest.0, rest.1)) ≡ Some ms
            → AtMember (i ∷ c ∷ vs) ms
        rest d mid v (Ok x) r e = let there : read_along b vs ≡ Some d = ap first_read v in
            let some : 0 < length vs = some_token vs d there in
            record {
              key = key;
              end = end;
              document = d;
              others = members x.0;
              all = cc;
              fits = omega arith;
              quote = quote;
              string = string;
              colon = colon;
              read = there;
              past = ap (λ ts. paired b (member_end b (fault_at b Syntax 0) ts more)) (sym (left b vs d mid v)) ∙ ap (paired b) r;
            }
        rest d mid v (Err f) r e = absurd (cc)

        first : (v : Result (Document × List Token) Error) → value_at_first b (tokens_along b vs) ≡ v
            → paired b (v >>= rest_after_value b (fault_at b Syntax 0) (value_at_first b) (takes b) more key) ≡ Some ms
            → AtMember (i ∷ c ∷ vs) ms
        first (Ok (d, mid)) v e = rest d mid v (member_end b (fault_at b Syntax 0) mid more) refl e
        first (Err f) v e = absurd (cc)

    -- the colon
    at_colon : (js : List ℕ) (key : List ℕ) (end : ℕ) → byte_at b i ≡ 34 → string_at b i ≡ Ok (key, end)
        → paired b (name_end b (fault_at b Syntax 0) (tokens_along b js)
        >>= after_colon b (fault_at b Syntax 0) (value_at_first b) (takes b) more key) ≡ Some ms → AtMember (i ∷ js) ms
    at_colon [] key end quote string e = absurd (cc)
    at_colon (c ∷ vs) key end quote string e = go (form_at b c) refl e
      where
        go : (form : Form) → form_at b c ≡ form → paired b (after_name b (fault_at b Syntax 0)
            (record { index = c; form = form_at b c }) form
            (cond (goes_on form) (tokens_along b vs) [])
            >>= after_colon b (fault_at b Syntax 0) (value_at_first b) (takes b) more key) ≡ Some ms → AtMember (i ∷ c ∷ vs) ms
        go name_separator f e = at_value c vs key end quote string (colon_here c f) e
        go _ f e = absurd (cc)

    -- the key
    at_key : (js : List ℕ) → paired b (name_from b (fault_at b Syntax 0) kind (tokens_along b (i ∷ js))
        >>= rest_after_name b (fault_at b Syntax 0) (value_at_first b) (takes b) more) ≡ Some ms → AtMember (i ∷ js) ms
    at_key js e = go (form_at b i) refl e
      where
        go : (form : Form) → form_at b i ≡ form
            → paired b ((name_of b (fault_at b Syntax 0) kind (record { index = i; form = form_at b i }) form >>= λ name.
            Ok (name.0, cond (goes_on form) (tokens_along b js) []))
            >>= rest_after_name b (fault_at b Syntax 0) (value_at_first b) (takes b) more) ≡ Some ms → AtMember (i ∷ js) ms
        go (string_token (Ok s)) f e = let here = quote_here i (Ok s) f in at_colon js s.0 s.1 here.0 here.1 e
        go (string_token (Err g)) f e = absurd (cc)
        go _ f e = absurd (cc)

  at_member : (kind : ErrorType) (is : List ℕ) (ms : List (List ℕ × Document))
      → paired b (members_by b (fault_at b Syntax 0) (value_at_first b) kind (tokens_along b is)) ≡ Some ms → AtMember is ms
  unfolding more
  at_member kind is ms e =
      go is (ap (paired b) (sym (members_by-turn b (fault_at b Syntax 0) (value_at_first b) (takes b) kind (tokens_along b is))) ∙ e)
    where
      go : (is : List ℕ) → paired b (name_from b (fault_at b Syntax 0) kind (tokens_along b is)
          >>= rest_after_name b (fault_at b Syntax 0) (value_at_first b) (takes b) more) ≡ Some ms → AtMember is ms
      go [] e = absurd (cc)
      go (i ∷ js) e = at_key kind ms i js e

  -- an opening brace: its members are inside
  pub record InObject (is : List ℕ) (d : Document) : Type 0 where
    pub held : Members
    pub same : d ≡ object held
    pub inside : members_inside b is ≡ Some (members held)

  pub opened : (i : ℕ) (is : List ℕ) (d : Document) → byte_at b i ≡ 123 → read_along b (i ∷ is) ≡ Some d → InObject is d
  unfolding value_from
  opened i is d byte e = go (objects t ts) refl
      (ap (λ form. first_read (value_of b (fault_at b Syntax 0) arrays objects t form ts)) (sym (forms.opens_object b i byte))
      ∙ ap (λ us. first_read (value_from b (fault_at b Syntax 0) (length us) us))
      (sym (forms.along-form b i is begin_object (forms.opens_object b i byte) refl)) ∙ e)
    where
      n : ℕ
      n = length (tokens_along b is)

      ts : List Token
      ts = tokens_along b is

      t : Token
      t = record { index = i; form = form_at b i }

      value : Reads Document
      value = value_from b (fault_at b Syntax 0) n

      arrays : Token → Reads Elements
      arrays t = array_from b (fault_at b Syntax 0) value

      objects : Token → Reads Members
      objects t = object_from b (fault_at b Syntax 0) value

      go : (r : Result (Members × List Token) Error) → objects t ts ≡ r → first_read (r >>= λ inner. Ok (object inner.0, inner.1)) ≡ Some d
          → InObject is d
      go (Ok x) is e =
          let whole : length ts ≤ n = omega arith in
          let same : object_from b (fault_at b Syntax 0) (value_at_first b) ts ≡ Ok x =
          kept (objects t ts) (object_from b (fault_at b Syntax 0) (value_at_first b) ts) x
          (object_from-keeps b (fault_at b Syntax 0) (fault_at b Syntax 0) n value (value_at_first b)
          (value_from-leaves b (fault_at b Syntax 0) n) (enough b n) ts whole) is in
          record { held = x.0; same = cc; inside = ap (paired b) same }
      go (Err f) is e = absurd (cc)

  -- after it: a closing brace, or a member
  pub inside-end : (i : ℕ) (is : List ℕ) → byte_at b i ≡ 125 → members_inside b (i ∷ is) ≡ Some []
  inside-end i is byte = ap (λ form. paired b (first_member b (fault_at b Syntax 0) form (tokens_along b (i ∷ is))
      (cond (goes_on form) (tokens_along b is) []) (members_by b (fault_at b Syntax 0) (value_at_first b) ExpectedObjectContent)))
      (forms.closes_object b i byte)

  pub inside-none : (ms : List (List ℕ × Document)) → members_inside b [] ≡ Some ms → ⊥
  inside-none ms e = cc

  pub inside-member : (i : ℕ) (is : List ℕ) (ms : List (List ℕ × Document)) → byte_at b i ≢ 125 → members_inside b (i ∷ is) ≡ Some ms
      → AtMember (i ∷ is) ms
  inside-member i is ms byte e = go (form_at b i) (forms.no_end_object b i byte) e
    where
      go : (form : Form) → is_end_object form ≡ false → paired b (first_member b (fault_at b Syntax 0) form (tokens_along b (i ∷ is))
          (cond (goes_on form) (tokens_along b is) []) (members_by b (fault_at b Syntax 0) (value_at_first b) ExpectedObjectContent))
          ≡ Some ms
          → AtMember (i ∷ is) ms
      go end_object f e = absurd (false≢true (sym f))
      go _ f e = at_member ExpectedObjectContent (i ∷ is) ms e

  -- after a member: a comma and a member, or a closing brace
  pub behind-comma : (i : ℕ) (is : List ℕ) (ms : List (List ℕ × Document)) → byte_at b i ≡ 44 → members_behind b (i ∷ is) ≡ Some ms
      → AtMember is ms
  behind-comma i is ms byte e = at_member ExpectedObjectKey is ms (ap (λ form. paired b (after_member b (fault_at b Syntax 0)
      (record { index = i; form = form_at b i }) form (cond (goes_on form) (tokens_along b is) [])
      (members_by b (fault_at b Syntax 0) (value_at_first b) ExpectedObjectKey))) (sym (forms.commas b i byte)) ∙ e)

  pub behind-end : (i : ℕ) (is : List ℕ) (ms : List (List ℕ × Document)) → byte_at b i ≢ 44 → members_behind b (i ∷ is) ≡ Some ms → ms ≡ []
  behind-end i is ms byte e =
      elim (cases_Bool (byte_at b i == 125)) [
        | inl closing ↦ ended (form_at b i) (forms.closes_object b i (eqb-true (byte_at b i) 125 closing)) e
        | inr other ↦ none (form_at b i) (forms.no_member_ending b i (λ h. false≢true (sym other ∙ ap (λ c. c == 125) h)) byte) e
      ]
    where
      behind : Form → Option (List (List ℕ × Document))
      behind form = paired b (after_member b (fault_at b Syntax 0) (record { index = i; form = form_at b i }) form
          (cond (goes_on form) (tokens_along b is) []) (members_by b (fault_at b Syntax 0) (value_at_first b) ExpectedObjectKey))

      ended : (form : Form) → form ≡ end_object → behind form ≡ Some ms → ms ≡ []
      ended form f e = let h : behind end_object ≡ Some ms = ap behind (sym f) ∙ e in cc

      none : (form : Form) → ends_member form ≡ false → behind form ≡ Some ms → ms ≡ []
      none value_separator f e = absurd (false≢true (sym f))
      none end_object f e = cc
      none _ f e = absurd (cc)

  pub behind-none : (ms : List (List ℕ × Document)) → members_behind b [] ≡ Some ms → ⊥
  behind-none ms e = cc
