-- Which token is at a byte, and the tokens along positions.
use Rattle.std.proofs.Common.{◌≡◌, ◌≢◌, refl, sym, ◌∙◌, ap, ℕ, ◌+◌, ◌<◌, List, [], ◌∷◌, ◌++◌, true, false, length, get_or, drop, cond, ◌||◌}
use Rattle.std.proofs.Common.{◌&&◌, ◌==◌, nat_le}
use Rattle.std.specs.Prelude.{Result, if◌then◌else◌}
use Rattle.std.proofs.lemmas.Bool.{cond_both, eqb-true, ne_eqb, or_from}
use Rattle.std.proofs.lemmas.List.{drop_more}
use Rattle.simd_json_parts.specs.Bytes.{byte_at, is_closing}
use Rattle.simd_json_parts.specs.Document.{Document}
use Rattle.simd_json_parts.specs.Tokens.{Token, Form, begin_array, end_array, begin_object, end_object, name_separator, value_separator}
use Rattle.simd_json_parts.specs.Tokens.{string_token, scalar, stray, form_of, form_at}
use Rattle.simd_json_parts.specs.Descent.{last_index}
use Rattle.simd_json_parts.specs.StringAt.{string_at}
use Rattle.simd_json_parts.specs.TokensAlong.{goes_on, tokens_along}
use Rattle.simd_json_parts.specs.declared.error.Error.{Error}
use Rattle.simd_json_stages.specs.Put.{begins_value}
use Rattle.simd_json_stages.proofs.Tokens.Places.{token}
use Rattle.simd_json_stages.proofs.Tokens.ScalarLaws.{is_no_scalar}
use Rattle.simd_json_stages.proofs.Machine.Steps.{is_end_array, is_end_object, is_string, is_name_separator, ends_element, ends_member}

pub last_index-append : (ts : List Token) (t : Token) → last_index (ts ++ t ∷ []) ≡ t.index
last_index-append [] t = refl
last_index-append (u ∷ []) t = refl
last_index-append (u ∷ v ∷ ts) t = last_index-append (v ∷ ts) t

-- the byte that a form asks for, if it asks for one
abbrev IsFormOf : Form → ℕ → Type 0
IsFormOf begin_array c = c ≡ 91
IsFormOf end_array c = c ≡ 93
IsFormOf begin_object c = c ≡ 123
IsFormOf end_object c = c ≡ 125
IsFormOf name_separator c = c ≡ 58
IsFormOf value_separator c = c ≡ 44
IsFormOf (string_token read) c = c ≡ 34
IsFormOf (scalar read) c = Unit {0}
IsFormOf stray c = Unit {0}

-- so a form that asks for another byte is not the one
no_end_of : (form : Form) (c : ℕ) → IsFormOf form c → c ≢ 93 → is_end_array form ≡ false
no_end_of end_array c e ne = absurd (ne e)
no_end_of _ c e ne = refl

no_end_object_of : (form : Form) (c : ℕ) → IsFormOf form c → c ≢ 125 → is_end_object form ≡ false
no_end_object_of end_object c e ne = absurd (ne e)
no_end_object_of _ c e ne = refl

no_string_of : (form : Form) (c : ℕ) → IsFormOf form c → c ≢ 34 → is_string form ≡ false
no_string_of (string_token read) c e ne = absurd (ne e)
no_string_of _ c e ne = refl

no_colon_of : (form : Form) (c : ℕ) → IsFormOf form c → c ≢ 58 → is_name_separator form ≡ false
no_colon_of name_separator c e ne = absurd (ne e)
no_colon_of _ c e ne = refl

no_ending_of : (form : Form) (c : ℕ) → IsFormOf form c → c ≢ 93 → c ≢ 44 → ends_element form ≡ false
no_ending_of end_array c e ne nc = absurd (ne e)
no_ending_of value_separator c e ne nc = absurd (nc e)
no_ending_of _ c e ne nc = refl

no_member_ending_of : (form : Form) (c : ℕ) → IsFormOf form c → c ≢ 125 → c ≢ 44 → ends_member form ≡ false
no_member_ending_of end_object c e ne nc = absurd (ne e)
no_member_ending_of value_separator c e ne nc = absurd (nc e)
no_member_ending_of _ c e ne nc = refl

no_value_of : (form : Form) (c : ℕ) → IsFormOf form c → is_no_scalar form ≡ true → c ≢ 34 → c ≢ 91 → c ≢ 123 → begins_value form ≡ false
no_value_of (string_token read) c e h nq na nb = absurd (nq e)
no_value_of (scalar read) c e h nq na nb = cc h
no_value_of begin_array c e h nq na nb = absurd (na e)
no_value_of begin_object c e h nq na nb = absurd (nb e)
no_value_of _ c e h nq na nb = refl

module _ (b : List ℕ) where
  pub along : (i : ℕ) (rest : List ℕ) → goes_on (form_at b i) ≡ true → tokens_along b (i ∷ rest) ≡ token b i ∷ tokens_along b rest
  along i rest h = ap (λ t. token b i ∷ cond t (tokens_along b rest) []) h

  pub along-form : (i : ℕ) (rest : List ℕ) (form : Form) → form_at b i ≡ form → goes_on form ≡ true
      → tokens_along b (i ∷ rest) ≡ token b i ∷ tokens_along b rest
  along-form i rest form is h = along i rest (ap goes_on is ∙ h)

  pub next : (ps : List ℕ) (k : ℕ) → k < length ps → tokens_along b (drop k ps) ≡ tokens_along b (get_or ps k 0 ∷ drop (k + 1) ps)
  next ps k l = ap (tokens_along b) (drop_more ps k 0 l)

  -- ---- a byte tells the form

  form-here : (i c : ℕ) (form : Form) → byte_at b i ≡ c → form_of b i c ≡ form → form_at b i ≡ form
  unfolding form_at
  form-here i c form e f = ap (form_of b i) e ∙ f

  pub opens : (i : ℕ) → byte_at b i ≡ 91 → form_at b i ≡ begin_array
  opens i e = form-here i 91 begin_array e refl

  pub closes : (i : ℕ) → byte_at b i ≡ 93 → form_at b i ≡ end_array
  closes i e = form-here i 93 end_array e refl

  pub opens_object : (i : ℕ) → byte_at b i ≡ 123 → form_at b i ≡ begin_object
  opens_object i e = form-here i 123 begin_object e refl

  pub closes_object : (i : ℕ) → byte_at b i ≡ 125 → form_at b i ≡ end_object
  closes_object i e = form-here i 125 end_object e refl

  pub colons : (i : ℕ) → byte_at b i ≡ 58 → form_at b i ≡ name_separator
  colons i e = form-here i 58 name_separator e refl

  pub commas : (i : ℕ) → byte_at b i ≡ 44 → form_at b i ≡ value_separator
  commas i e = form-here i 44 value_separator e refl

  pub quotes : (i : ℕ) → byte_at b i ≡ 34 → form_at b i ≡ string_token (string_at b i)
  quotes i e = form-here i 34 (string_token (string_at b i)) e refl

  -- ---- and a form its byte

  form-byte : (i : ℕ) → IsFormOf (form_at b i) (byte_at b i)
  unfolding form_at
  form-byte i =
      single 91 begin_array _ (λ e. e) (single 93 end_array _ (λ e. e) (single 123 begin_object _ (λ e. e) (single 125 end_object _ (λ e. e)
      (single 58 name_separator _ (λ e. e) (single 44 value_separator _ (λ e. e) (single 34 (string_token (string_at b i)) _ (λ e. e)
      (cond_both ((x == 116) || (x == 102) || (x == 110)) _ _ (λ form. IsFormOf form x) (λ _. tt)
      (λ _. cond_both ((x == 45) || (nat_le 48 x && nat_le x 57)) _ _ (λ form. IsFormOf form x) (λ _. tt) (λ _. tt)))))))))
    where
      x : ℕ
      x = byte_at b i

      single : (c : ℕ) (form other : Form) → (x ≡ c → IsFormOf form x) → IsFormOf other x → IsFormOf (if x == c then form else other) x
      single c form other is after = cond_both (x == c) form other (λ f. IsFormOf f x) (λ e. is (eqb-true x c e)) (λ _. after)

  pub no_end : (i : ℕ) → byte_at b i ≢ 93 → is_end_array (form_at b i) ≡ false
  no_end i ne = no_end_of (form_at b i) (byte_at b i) (form-byte i) ne

  pub no_end_object : (i : ℕ) → byte_at b i ≢ 125 → is_end_object (form_at b i) ≡ false
  no_end_object i ne = no_end_object_of (form_at b i) (byte_at b i) (form-byte i) ne

  pub no_string : (i : ℕ) → byte_at b i ≢ 34 → is_string (form_at b i) ≡ false
  no_string i ne = no_string_of (form_at b i) (byte_at b i) (form-byte i) ne

  pub no_colon : (i : ℕ) → byte_at b i ≢ 58 → is_name_separator (form_at b i) ≡ false
  no_colon i ne = no_colon_of (form_at b i) (byte_at b i) (form-byte i) ne

  pub no_ending : (i : ℕ) → byte_at b i ≢ 93 → byte_at b i ≢ 44 → ends_element (form_at b i) ≡ false
  no_ending i ne nc = no_ending_of (form_at b i) (byte_at b i) (form-byte i) ne nc

  pub no_member_ending : (i : ℕ) → byte_at b i ≢ 125 → byte_at b i ≢ 44 → ends_member (form_at b i) ≡ false
  no_member_ending i ne nc = no_member_ending_of (form_at b i) (byte_at b i) (form-byte i) ne nc

  -- a scalar does not begin with a closing bracket
  pub no_closing : (i : ℕ) {read : Result (Document × ℕ) Error} → form_at b i ≡ scalar read → is_closing (byte_at b i) ≡ false
  no_closing i {read} is = or_from _ _
      (ne_eqb (byte_at b i) 93 (λ e. let clash : end_array ≡ scalar read = sym (closes i e) ∙ is in cc))
      (ne_eqb (byte_at b i) 125 (λ e. let clash : end_object ≡ scalar read = sym (closes_object i e) ∙ is in cc))

  -- what is no scalar, no string and opens nothing begins no value
  pub no_value : (i : ℕ) → is_no_scalar (form_at b i) ≡ true → byte_at b i ≢ 34 → byte_at b i ≢ 91 → byte_at b i ≢ 123
      → begins_value (form_at b i) ≡ false
  no_value i h nq na nb = no_value_of (form_at b i) (byte_at b i) (form-byte i) h nq na nb
