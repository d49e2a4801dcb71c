-- The string at a structural index: it is closed, and its literal alone is read as it is.
use Rattle.std.proofs.Common.{◌≡◌, refl, sym, ◌∙◌, ap, subst, ℕ, zero, suc, ◌+◌, ◌<◌, ◌≤◌, inl, inr, List, [], ◌∷◌, length, take}
use Rattle.std.proofs.Common.{drop, get_or, Bool, true, false, cond, not, ◌||◌, ◌==◌, nat_eq, Contains, arith}
use Rattle.std.specs.Prelude.{Ok, Err, Some, None, IsUtf8, slice_range, option_and_then}
use Rattle.std.specs.List.{prefix_len}
use Rattle.std.proofs.lemmas.Bool.{cases_Bool, eqb-true, false≢true}
use Rattle.std.proofs.lemmas.List.{length-drop, drop-drop, drop-take, get_or-drop, get_or_default, get_or-take, length-take-le}
use Rattle.std.proofs.lemmas.List.Sums.{prefix_len_is, prefix_len_stops}
use Rattle.std.proofs.lemmas.Str.{IsUtf8-take, IsCharBoundary-after_ascii}
use Rattle.simd_json_parts.specs.Bytes.{quote, backslash, byte_at}
use Rattle.simd_json_parts.specs.Positions.{positions}
use Rattle.simd_json_parts.specs.StringAt.{closing_quote, read_pieces, string_read, string_at}
use Rattle.simd_json_scalars.specs.StringContent.{content_from, content, is_plain}
use Rattle.simd_json_scalars.proofs.Strings.Content.{content-escape, closing_quote-content, string_at-content}
use Rattle.simd_json_scalars.proofs.Strings.Decoding.{Backslash, backslash-first, run-decoded}
use Rattle.simd_json_scalars.proofs.Strings.Reader.{content-closed, opened, decoded-string, string_at-shared}
use Rattle.simd_json_scalars.proofs.Strings.Steps.{PassesPieces, plain-passes}
use Rattle.simd_json_scalars.proofs.Strings.Standalone.{closing_quote-further, string_at-further}
use Rattle.simd_json_stages.proofs.Tokens.Places.{string-closed, string-utf8}
use Rattle.simd_json_stages.proofs.Tokens.TokenForms.{quotes}
use Rattle.simd_json_parts.specs.Faults.{error_of}
use Rattle.simd_json_parts.specs.Tokens.{string_token, form_at}
use Rattle.simd_json_parts.specs.Views.{as_str}
use Rattle.simd_json_parts.specs.declared.error.Error.{Error}
use Rattle.simd_json_scalars.specs.StringDecoded.{IsDecoded}
use Rattle.simd_json_scalars.specs.StringRead.{further}
use Rattle.simd_json_ondemand.specs.Docs.{text, places, index_of, HasEscape, string_len}
use Rattle.simd_json_check.specs.Scanned.{IsWholeScan}
use Rattle.simd_json_check.specs.Scalars.{scalar_of}
use Rattle.simd_json_ondemand.specs.declared.value.Value.{Value}
use Rattle.simd_json_check.proofs.Scans.{within}

-- ---- a string is closed

-- the bytes begin with a string, and are UTF-8
pub record IsQuoted (bs : List ℕ) : Type 0 where
  pub opening : byte_at bs 0 ≡ quote
  pub closing : closing_quote bs 0 < length bs
  pub utf8 : IsUtf8 bs

pub quoted : (b is : List ℕ) → IsWholeScan b is → (k : ℕ) → k < length is → byte_at b (get_or is k 0) ≡ quote
    → IsQuoted (drop (get_or is k 0) b)
quoted b is s k l e =
    let i : ℕ = get_or is k 0 in
    let same : i + 0 ≡ i = omega arith in
    let there : Contains (positions b) i =
    (k, subst (λ ks. k < length ks) s.listed l, ap (λ ks. get_or ks k i) (sym s.listed) ∙ get_or_default is k i 0 l) in
    let inside : i < length b = within b is s k l in
    let closed : closing_quote b i < length b = string-closed b i there e s.whole in
    record {
      opening = get_or-drop i b 0 32 ∙ ap (byte_at b) same ∙ e;
      closing = omega (arith, closed, closing_quote-further b i e, length-drop i b);
      utf8 = string-utf8 b i inside e s.whole;
    }

-- ---- where it is closed

-- a search for the closing quote has come to this index, where a quote or a backslash stands
pub record IsAhead (bs : List ℕ) (end : ℕ) : Type 0 where
  pub closed : end + length (content (drop end bs)) ≡ closing_quote bs 0
  pub stops : is_plain (byte_at bs end) ≡ false
  pub inside : end < length bs

-- after a run of plain bytes
pub plain-ahead : (bs : List ℕ) (k n : ℕ) → k + length (content (drop k bs)) ≡ closing_quote bs 0 → closing_quote bs 0 < length bs
    → n ≡ prefix_len is_plain (drop k bs) → IsAhead bs (k + n)
plain-ahead bs k n ahead closing is =
    let p : PassesPieces (drop k bs) (prefix_len is_plain (drop k bs)) (take (prefix_len is_plain (drop k bs)) (drop k bs)) =
    plain-passes (drop k bs) in
    let m : ℕ = prefix_len is_plain (drop k bs) in
    let rest : drop m (drop k bs) ≡ drop (k + n) bs = drop-drop m k bs ∙ ap (λ j. drop (k + j) bs) (sym is) in
    let size : length (content (drop k bs)) ≡ m + length (content (drop (k + n) bs)) = p.size ∙ ap (λ us. m + length (content us)) rest in
    let short : m < length (drop k bs) = omega (arith, ahead, closing, size, length-drop k bs) in
    record {
      closed = omega (arith, ahead, size, is);
      stops = ap (λ j. is_plain (byte_at bs (k + j))) is ∙ ap is_plain (sym (get_or-drop k bs m 32))
          ∙ prefix_len_stops is_plain (drop k bs) 32 short;
      inside = omega (arith, short, is, length-drop k bs);
    }

-- at the front
pub opening-ahead : (bs : List ℕ) → byte_at bs 0 ≡ quote → 1 + length (content (drop 1 bs)) ≡ closing_quote bs 0
opening-ahead bs e = sym (closing_quote-content bs 0 e)

-- after an escape
pub record IsEscaped (bs : List ℕ) (end : ℕ) : Type 0 where
  pub ahead : (end + 2) + length (content (drop (end + 2) bs)) ≡ closing_quote bs 0
  pub within : end + 2 ≤ closing_quote bs 0

pub escape-ahead : (bs : List ℕ) (end : ℕ) → IsAhead bs end → closing_quote bs 0 < length bs → byte_at bs end ≡ backslash → IsEscaped bs end
escape-ahead bs end h closing e =
    let same : end + 0 ≡ end = omega arith in
    let here : byte_at (drop end bs) 0 ≡ 92 = get_or-drop end bs 0 32 ∙ ap (byte_at bs) same ∙ e in
    let short : length (content (drop end bs)) < length (drop end bs) = omega (arith, h.closed, closing, h.inside, length-drop end bs) in
    let x : Backslash (drop end bs) = backslash-first (drop end bs) short here in
    let rest : x.rest ≡ drop (end + 2) bs = ap (drop 2) (sym x.is) ∙ drop-drop 2 end bs in
    let size : length (content (drop end bs)) ≡ 2 + length (content (drop (end + 2) bs)) =
    omega (arith, ap (λ us. length (content us)) x.is, ap length (content-escape x.letter x.rest), ap (λ us. length (content us)) rest) in
    record { ahead = omega (arith, h.closed, size); within = omega (arith, h.closed, size) }

-- what is not plain is a quote, or a backslash
stop-is : (c : ℕ) → is_plain c ≡ false → (c ≡ backslash → ⊥) → c ≡ quote
stop-is c h other =
    elim (cases_Bool (nat_eq c 34)) [
      | inl e ↦ eqb-true c 34 e
      | inr e ↦ elim (cases_Bool (nat_eq c 92)) [
        | inl f ↦ absurd (other (eqb-true c 92 f))
        | inr f ↦ absurd (false≢true (sym h ∙ ap (λ t. not (t || nat_eq c 92)) e ∙ ap not f))
      ]
    ]

pub stop-other : (c : ℕ) → is_plain c ≡ false → (c ≡ quote → ⊥) → c ≡ backslash
stop-other c h other =
    elim (cases_Bool (nat_eq c 92)) [
      | inl e ↦ eqb-true c 92 e
      | inr e ↦ elim (cases_Bool (nat_eq c 34)) [
        | inl f ↦ absurd (other (eqb-true c 34 f))
        | inr f ↦ absurd (false≢true (sym h ∙ ap (λ t. not (t || nat_eq c 92)) f ∙ ap not e))
      ]
    ]

-- at the closing quote
pub closing-found : (bs : List ℕ) (end : ℕ) → IsAhead bs end → (byte_at bs end ≡ backslash → ⊥)
    → (end ≡ closing_quote bs 0) × (byte_at bs end ≡ quote)
closing-found bs end h other =
    let is : byte_at bs end ≡ quote = stop-is (byte_at bs end) h.stops other in
    let same : end + 0 ≡ end = omega arith in
    let none : content (drop end bs) ≡ [] = content-closed (drop end bs) (omega (arith, h.inside, length-drop end bs))
    (get_or-drop end bs 0 32 ∙ ap (byte_at bs) same ∙ is) in
    (omega (arith, h.closed, ap length none), is)

-- ---- the literal alone

content_from-take : (escaped : Bool) (n : ℕ) (us : List ℕ) → length (content_from escaped us) < n
    → content_from escaped (take n us) ≡ content_from escaped us
unfolding content_from
content_from-take escaped zero us l = absurd (omega arith)
content_from-take escaped (suc n) [] l = refl
content_from-take true (suc n) (x ∷ us) l = ap (λ vs. x ∷ vs) (content_from-take false n us (omega arith))
content_from-take false (suc n) (x ∷ us) l = go (x == quote) (content_from-take (x == backslash) n us) l
  where
    go : (t : Bool) → (length (content_from (x == backslash) us) < n
        → content_from (x == backslash) (take n us) ≡ content_from (x == backslash) us)
        → length (cond t [] (x ∷ content_from (x == backslash) us)) < suc n
        → cond t [] (x ∷ content_from (x == backslash) (take n us)) ≡ cond t [] (x ∷ content_from (x == backslash) us)
    go true more k = refl
    go false more k = ap (λ vs. x ∷ vs) (more (omega arith))

module _ (bs : List ℕ) (q : IsQuoted bs) (end : ℕ) (is : end ≡ closing_quote bs 0) (at : byte_at bs end ≡ quote) where
  ends : end ≡ 1 + length (content (drop 1 bs))
  ends = is ∙ closing_quote-content bs 0 q.opening

  pub literal-opening : byte_at (take (end + 1) bs) 0 ≡ quote
  literal-opening = get_or-take (end + 1) bs 0 32 (omega arith) ∙ q.opening

  same-content : content (drop 1 (take (end + 1) bs)) ≡ content (drop 1 bs)
  same-content =
      let split : end + 1 ≡ 1 + end = omega arith in
      ap (λ n. content (drop 1 (take n bs))) split ∙ ap content (drop-take 1 end bs)
      ∙ content_from-take false end (drop 1 bs) (omega (arith, ends))

  pub literal-closing : closing_quote (take (end + 1) bs) 0 < length (take (end + 1) bs)
  literal-closing = omega (
    arith,
    closing_quote-content (take (end + 1) bs) 0 literal-opening,
    ap length same-content,
    ends,
    length-take-le (end + 1) bs (omega (arith, is, q.closing)),
  )

  pub literal-utf8 : IsUtf8 (take (end + 1) bs)
  literal-utf8 =
      let inside : end < length bs = omega (arith, is, q.closing) in
      let ascii : get_or bs end 0 < 128 = omega (arith, get_or_default bs end 0 32 inside, at) in
      IsUtf8-take bs (end + 1) q.utf8 (IsCharBoundary-after_ascii bs end q.utf8 inside ascii)

  pub literal-string : string_at (take (end + 1) bs) 0 ≡ string_at bs 0
  literal-string =
      string_at-content (take (end + 1) bs) 0 literal-opening
      ∙ ap (λ us. string_read (read_pieces 0 us) (1 + length us)) same-content
      ∙ sym (string_at-content bs 0 q.opening)

-- ---- at a value

pub quoted-value : (v : Value) → byte_at (text v.document) (index_of v) ≡ quote → (bs : List ℕ)
    → bs ≡ drop (index_of v) (text v.document) → IsQuoted bs
quoted-value v e bs is = subst IsQuoted (sym is) (quoted (text v.document) (places v.document) v.document.scanned v.at v.inside e)

-- the first quote or backslash after the opening quote
pub first-stop : (bs : List ℕ) → IsQuoted bs → (end : ℕ) → end ≡ 1 + prefix_len is_plain (drop 1 bs) → IsAhead bs end
first-stop bs q end e =
    subst (IsAhead bs) (sym e) (plain-ahead bs 1 (prefix_len is_plain (drop 1 bs)) (opening-ahead bs q.opening) q.closing refl)

-- it is a backslash where it is no quote
pub has-escape : (v : Value) (bs : List ℕ) → bs ≡ drop (index_of v) (text v.document) → byte_at (text v.document) (index_of v) ≡ quote
    → (end : ℕ) → end ≡ 1 + prefix_len is_plain (drop 1 bs) → (byte_at bs end ≡ quote → ⊥) → HasEscape v
has-escape v bs is first end e other =
    let b : List ℕ = text v.document in
    let i : ℕ = index_of v in
    let q : IsQuoted bs = quoted-value v first bs is in
    let h : IsAhead bs end = first-stop bs q end e in
    let escape : byte_at bs end ≡ backslash = stop-other (byte_at bs end) h.stops other in
    let before : IsEscaped bs end = escape-ahead bs end h q.closing escape in
    let closing : closing_quote b i ≡ i + closing_quote bs 0 =
    closing_quote-further b i first ∙ ap (λ us. i + closing_quote us 0) (sym is) in (
      i + end,
      omega (arith, e),
      omega (arith, before.within, closing),
      sym (get_or-drop i b end 32) ∙ ap (λ us. byte_at us end) (sym is) ∙ escape,
    )

-- how long it is
pub written-len : (v : Value) → byte_at (text v.document) (index_of v) ≡ quote → (bs : List ℕ)
    → bs ≡ drop (index_of v) (text v.document) → (end : ℕ) → end ≡ closing_quote bs 0 → length (take (end + 1) bs) ≡ string_len v
written-len v first bs is end closing =
    let b : List ℕ = text v.document in
    let i : ℕ = index_of v in
    let q : IsQuoted bs = quoted-value v first bs is in
    omega (
      arith,
      length-take-le (end + 1) bs (omega (arith, closing, q.closing)),
      closing,
      closing_quote-further b i first ∙ ap (λ us. i + closing_quote us 0) (sym is),
    )

first-decoded : (bs : List ℕ) → IsQuoted bs → (end : ℕ) → end ≡ 1 + prefix_len is_plain (drop 1 bs) → IsDecoded bs 1 1 bs end end
first-decoded bs q end e = run-decoded bs 1 end (opened bs q.opening q.closing q.utf8) e

pub plain-utf8 : (bs : List ℕ) → IsQuoted bs → (end : ℕ) → end ≡ 1 + prefix_len is_plain (drop 1 bs) → IsUtf8 (slice_range bs 1 end)
plain-utf8 bs q end e = decoded-string bs bs end end (first-decoded bs q end e)

module _ (b : List ℕ) (i : ℕ) (first : byte_at b i ≡ quote) where
  -- the string that is read
  pub standing-string : (t : List ℕ) (end : ℕ) → string_at b i ≡ Ok (t, end) → option_and_then as_str (scalar_of (form_at b i)) ≡ Some t
  standing-string t end h = ap (λ form. option_and_then as_str (scalar_of form)) (quotes b i first ∙ ap string_token h)

  pub no-standing : (e : Error) → string_at b i ≡ Err e → option_and_then as_str (scalar_of (form_at b i)) ≡ None
  no-standing e h = ap (λ form. option_and_then as_str (scalar_of form)) (quotes b i first ∙ ap string_token h)

  module _ (bs : List ℕ) (is : bs ≡ drop i b) where
    -- without an escape
    pub plain-string : IsQuoted bs → (end : ℕ) → end ≡ 1 + prefix_len is_plain (drop 1 bs) → byte_at bs end ≡ quote
        → option_and_then as_str (scalar_of (form_at b i)) ≡ Some (slice_range bs 1 end)
    plain-string q end e at =
        standing-string (slice_range bs 1 end) (i + (end + 1))
        (string_at-shared b bs bs (slice_range bs 1 end) (drop (end + 1) bs) i end end (end + 1) (sym is) q.opening
        (first-decoded bs q end e) at refl refl refl).0

    -- as its bytes alone are read
    pub alone-string : (t : List ℕ) (end : ℕ) → string_at bs 0 ≡ Ok (t, end) → option_and_then as_str (scalar_of (form_at b i)) ≡ Some t
    alone-string t end h =
        standing-string t (i + end) (string_at-further b i first ∙ ap (λ us. further i (string_at us 0)) (sym is) ∙ ap (further i) h)

    pub alone-none : (e : Error) → string_at bs 0 ≡ Err e → option_and_then as_str (scalar_of (form_at b i)) ≡ None
    alone-none e h =
        no-standing (error_of (i + e.index) e.character e.error)
        (string_at-further b i first ∙ ap (λ us. further i (string_at us 0)) (sym is) ∙ ap (further i) h)

-- ---- no byte that is passed over is a quote or a backslash

pub plain-from : (c : ℕ) → (((c == 34) || (c == 92)) ≡ true → ⊥) → is_plain c ≡ true
plain-from c h = elim (cases_Bool ((c == 34) || (c == 92))) [ inl e ↦ absurd (h e) | inr e ↦ ap not e ]

pub plain-run : (bs : List ℕ) (n : ℕ) → n ≤ length bs → ((k : ℕ) → k < n → ((get_or bs k 0 == 34) || (get_or bs k 0 == 92)) ≡ true → ⊥)
    → (n < length bs → ((get_or bs n 0 == 34) || (get_or bs n 0 == 92)) ≡ true) → n ≡ prefix_len is_plain bs
plain-run bs n l before at = sym (prefix_len_is is_plain bs n 0 l (λ k h. plain-from (get_or bs k 0) (before k h)) (λ h. ap not (at h)))
