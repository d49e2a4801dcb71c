-- The string at a value, and members looked up by key.
use Rattle.std.proofs.Common.{◌≡◌, refl, sym, ◌∙◌, ap, ℕ, ◌+◌, List, [], ◌∷◌, length, drop, true, cond}
use Rattle.std.specs.Prelude.{Option, Some, None, Result, Ok, Err, option_and_then}
use Rattle.std.proofs.lemmas.Bool.{false≢true}
use Rattle.std.proofs.lemmas.List.{drop_more}
use Rattle.std.proofs.lemmas.Slice.Eq.{bytes_eq-Decides}
use Rattle.simd_json_parts.specs.Bytes.{byte_at, quote}
use Rattle.simd_json_parts.specs.Document.{Document, string}
use Rattle.simd_json_parts.specs.Descent.{value_of, value_from, array_from, object_from}
use Rattle.simd_json_parts.specs.Faults.{fault_at}
use Rattle.simd_json_parts.specs.StringAt.{string_at}
use Rattle.simd_json_parts.specs.Tokens.{Token, string_token, form_at}
use Rattle.simd_json_parts.specs.TokensAlong.{goes_on, tokens_along}
use Rattle.simd_json_parts.specs.Views.{as_str}
use Rattle.simd_json_parts.specs.declared.error.Error.{Error}
use Rattle.simd_json_parts.specs.declared.error.ErrorType.TheVariants.{Syntax}
use Rattle.simd_json_scalars.specs.StringRead.{further}
use Rattle.simd_json_scalars.proofs.Strings.Standalone.{string_at-further}
use Rattle.simd_json_stages.proofs.Tokens.TokenForms.{quotes}
use Rattle.simd_json_ondemand.specs.Docs.{text, places, index_of, doc}
use Rattle.simd_json_ondemand.specs.Keys.{is_key}
use Rattle.simd_json_ondemand.specs.Viewed.{first_read, read_along}
use Rattle.simd_json_ondemand.specs.WantedKey.{read_string}
use Rattle.simd_json_ondemand.specs.Within.{AreInSameObject}
use Rattle.simd_json_ondemand.specs.declared.object.Object.{Object}
use Rattle.simd_json_ondemand.specs.declared.value.Value.{Value}

-- ---- the string at a value

-- a string alone is a document
string-along : (b : List ℕ) (i : ℕ) (is : List ℕ) (r : Result (List ℕ × ℕ) Error) → form_at b i ≡ string_token r
    → option_and_then as_str (read_along b (i ∷ is)) ≡ read_string r
unfolding value_from
string-along b i is r e = ap (λ form. option_and_then as_str (first_read (value_of b missing
    (λ _. array_from b missing (value_from b missing (length rest))) (λ _. object_from b missing (value_from b missing (length rest)))
    (record { index = i; form = form_at b i }) form rest))) e ∙ go r
  where
    missing : Error
    missing = fault_at b Syntax 0

    rest : List Token
    rest = cond (goes_on (form_at b i)) (tokens_along b is) []

    go : (r : Result (List ℕ × ℕ) Error) → option_and_then as_str (first_read (value_of b missing
        (λ _. array_from b missing (value_from b missing (length rest))) (λ _. object_from b missing (value_from b missing (length rest)))
        (record { index = i; form = form_at b i }) (string_token r) rest)) ≡ read_string r
    go (Ok s) = refl
    go (Err e) = refl

read-further : (i : ℕ) (r : Result (List ℕ × ℕ) Error) → read_string (further i r) ≡ read_string r
read-further i (Ok s) = refl
read-further i (Err e) = refl

module _ (v : Value) where
  pub string-is : (bs : List ℕ) → bs ≡ drop (index_of v) (text v.document) → byte_at (text v.document) (index_of v) ≡ quote
      → option_and_then as_str (doc v) ≡ read_string (string_at bs 0)
  string-is bs is first =
      let b : List ℕ = text v.document in
      let i : ℕ = index_of v in
      ap (λ ks. option_and_then as_str (read_along b ks)) (drop_more (places v.document) v.at 0 v.inside)
      ∙ string-along b i (drop (v.at + 1) (places v.document)) (string_at b i) (quotes b i first)
      ∙ ap read_string (string_at-further b i first) ∙ read-further i (string_at (drop i b) 0)
      ∙ ap (λ us. read_string (string_at us 0)) (sym is)

-- ---- members

pub key-is : (key : List ℕ) (o : Option Document) → is_key key (option_and_then as_str o) ≡ true → o ≡ Some (string key)
key-is key None h = absurd (false≢true h)
key-is key (Some (string s)) h = ap (λ t. Some (string t)) ((bytes_eq-Decides s key).0 h)
key-is key (Some _) h = absurd (false≢true h)

pub same-object : (o p q : Object) → AreInSameObject o p → AreInSameObject p q → AreInSameObject o q
same-object o p q a b = record { document = b.document ∙ a.document; first = b.first ∙ a.first }
