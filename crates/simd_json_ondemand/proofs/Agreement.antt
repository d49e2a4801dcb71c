-- What stands at a value is what the document says that begins there.
use Rattle.std.proofs.Common.{◌≡◌, refl, sym, ◌∙◌, ap, subst, ℕ, ◌+◌, ◌<◌, List, [], ◌∷◌, length, drop, get_or, false, cond}
use Rattle.std.specs.Prelude.{Option, Some, None, Result, Ok, Err, IfSome, option_and_then}
use Rattle.std.proofs.lemmas.List.{drop_more}
use Rattle.simd_json_parts.specs.Document.{Document, array, object, string, Elements, Members}
use Rattle.simd_json_parts.specs.Descent.{◌>>=◌, Reads, value_of, value_from, array_from, object_from}
use Rattle.simd_json_parts.specs.Faults.{fault_at}
use Rattle.simd_json_parts.specs.Tokens.{Token, Form, begin_array, begin_object, string_token, scalar, form_at}
use Rattle.simd_json_parts.specs.TokensAlong.{goes_on, tokens_along}
use Rattle.simd_json_parts.specs.Views.{value_type, is_array, is_object}
use Rattle.simd_json_parts.specs.declared.error.Error.{Error}
use Rattle.simd_json_parts.specs.declared.error.ErrorType.TheVariants.{Syntax}
use Rattle.simd_json_check.specs.Scalars.{scalar_of}
use Rattle.simd_json_ondemand.specs.Standing.{kind_of, opens_array, opens_object}
use Rattle.simd_json_ondemand.specs.Viewed.{first_read, read_along}
use Rattle.simd_json_ondemand.proofs.Standing.{by_standing}

-- the document begins with a token of this form
abbrev pub Begins : Form → Document → Type 0
Begins begin_array d = (ds : Elements) × (d ≡ array ds)
Begins begin_object d = (ms : Members) × (d ≡ object ms)
Begins (string_token (Ok s)) d = d ≡ string s.0
Begins (scalar (Ok s)) d = d ≡ s.0
Begins _ d = ⊥

module _ (b : List ℕ) (missing : Error) (arrays : Token → Reads Elements) (objects : Token → Reads Members) where
  begins : (t : Token) (form : Form) (ts : List Token) (d : Document)
      → first_read (value_of b missing arrays objects t form ts) ≡ Some d → Begins form d
  begins t begin_array ts d h = inner (arrays t ts) h
    where
      inner : (r : Result (Elements × List Token) Error) → first_read (r >>= λ x. Ok (array x.0, x.1)) ≡ Some d → Begins begin_array d
      inner (Ok x) e = (x.0, cc)
      inner (Err x) e = cc
  begins t begin_object ts d h = inner (objects t ts) h
    where
      inner : (r : Result (Members × List Token) Error) → first_read (r >>= λ x. Ok (object x.0, x.1)) ≡ Some d → Begins begin_object d
      inner (Ok x) e = (x.0, cc)
      inner (Err x) e = cc
  begins t (string_token (Ok s)) ts d h = cc
  begins t (string_token (Err e)) ts d h = cc
  begins t (scalar (Ok s)) ts d h = cc
  begins t (scalar (Err e)) ts d h = cc
  begins t _ ts d h = cc

-- so the form tells the document that begins at the first of some indexes
begins-along : (b : List ℕ) (i : ℕ) (is : List ℕ) (d : Document) → read_along b (i ∷ is) ≡ Some d → Begins (form_at b i) d
unfolding value_from
begins-along b i is d h =
    let missing : Error = fault_at b Syntax 0 in
    let rest : List Token = cond (goes_on (form_at b i)) (tokens_along b is) [] in
    begins b missing (λ _. array_from b missing (value_from b missing (length rest)))
    (λ _. object_from b missing (value_from b missing (length rest))) (record { index = i; form = form_at b i }) (form_at b i) rest d h

pub begins-at : (b is : List ℕ) (k : ℕ) → k < length is → (d : Document) → read_along b (drop k is) ≡ Some d
    → Begins (form_at b (get_or is k 0)) d
begins-at b is k l d h =
    begins-along b (get_or is k 0) (drop (k + 1) is) d (subst (λ ks. read_along b ks ≡ Some d) (drop_more is k 0 l) h)

-- ---- what accessors return

module _ {A : Type 0} (f : Document → Option A) (no_array : (ds : Elements) → f (array ds) ≡ None)
    (no_object : (ms : Members) → f (object ms) ≡ None) where
  pub standing-is : (form : Form) (d : Document) → Begins form d → option_and_then f (scalar_of form) ≡ f d
  standing-is begin_array d (ds, is) = sym (ap f is ∙ no_array ds)
  standing-is begin_object d (ms, is) = sym (ap f is ∙ no_object ms)
  standing-is (string_token (Ok s)) d is = ap f (sym is)
  standing-is (scalar (Ok s)) d is = ap f (sym is)
  standing-is (string_token (Err e)) d is = absurd is
  standing-is (scalar (Err e)) d is = absurd is
  standing-is _ d is = absurd is

pub kind-is : (form : Form) (d : Document) → Begins form d → kind_of form ≡ Some (value_type d)
kind-is begin_array d (ds, is) = ap (λ e. Some (value_type e)) (sym is)
kind-is begin_object d (ms, is) = ap (λ e. Some (value_type e)) (sym is)
kind-is (string_token (Ok s)) d is = ap (λ e. Some (value_type e)) (sym is)
kind-is (scalar (Ok s)) d is = ap (λ e. Some (value_type e)) (sym is)
kind-is (string_token (Err e)) d is = absurd is
kind-is (scalar (Err e)) d is = absurd is
kind-is _ d is = absurd is

module _ (b : List ℕ) (i : ℕ) where
  pub array-is : (d : Document) → Begins (form_at b i) d → opens_array (form_at b i) ≡ is_array d
  array-is d h = go (form_at b i) h (by_standing b i (λ e. is_array e ≡ false) (λ _ _. refl) (λ _. refl) (λ _. refl) (λ _. refl)
      (λ _ _ _. refl) (λ _ _. refl))
    where
      go : (form : Form) → Begins form d → IfSome (scalar_of form) (λ e. is_array e ≡ false) → opens_array form ≡ is_array d
      go begin_array (ds, is) s = sym (ap is_array is)
      go begin_object (ms, is) s = sym (ap is_array is)
      go (string_token (Ok r)) is s = sym (ap is_array is)
      go (scalar (Ok r)) is s = sym (ap is_array is ∙ s)
      go (string_token (Err e)) is s = absurd is
      go (scalar (Err e)) is s = absurd is
      go _ is s = absurd is

  pub object-is : (d : Document) → Begins (form_at b i) d → opens_object (form_at b i) ≡ is_object d
  object-is d h = go (form_at b i) h (by_standing b i (λ e. is_object e ≡ false) (λ _ _. refl) (λ _. refl) (λ _. refl) (λ _. refl)
      (λ _ _ _. refl) (λ _ _. refl))
    where
      go : (form : Form) → Begins form d → IfSome (scalar_of form) (λ e. is_object e ≡ false) → opens_object form ≡ is_object d
      go begin_array (ds, is) s = sym (ap is_object is)
      go begin_object (ms, is) s = sym (ap is_object is)
      go (string_token (Ok r)) is s = sym (ap is_object is)
      go (scalar (Ok r)) is s = sym (ap is_object is ∙ s)
      go (string_token (Err e)) is s = absurd is
      go (scalar (Err e)) is s = absurd is
      go _ is s = absurd is
