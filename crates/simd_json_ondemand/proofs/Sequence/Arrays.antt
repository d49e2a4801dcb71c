-- The elements of an array one after another, as a cursor comes to them.
use Rattle.std.proofs.Common.{◌≡◌, ◌≢◌, refl, sym, ◌∙◌, ap, ℕ, ◌≤◌, inl, inr, false, ◌==◌, cond, List, [], ◌∷◌, length, arith}
use Rattle.std.specs.Prelude.{Option, Some, Result, Ok, Err}
use Rattle.std.proofs.lemmas.Bool.{cases_Bool, eqb-true, false≢true}
use Rattle.simd_json_parts.specs.Bytes.{byte_at}
use Rattle.simd_json_parts.specs.Document.{Document, array, Elements, elements, element, Members}
use Rattle.simd_json_parts.specs.Faults.{fault_at}
use Rattle.simd_json_parts.specs.Tokens.{Token, Form, begin_array, end_array, value_separator, form_at}
use Rattle.simd_json_parts.specs.TokensAlong.{goes_on, tokens_along}
use Rattle.simd_json_parts.specs.Descent.{◌>>=◌, Reads, after_element, element_end, elements_by, first_element, array_from, object_from}
use Rattle.simd_json_parts.specs.Descent.{value_of, value_from}
use Rattle.simd_json_parts.specs.declared.error.Error.{Error}
use Rattle.simd_json_parts.specs.declared.error.ErrorType.TheVariants.{Syntax}
use Rattle.simd_json_parts.proofs.Descent.ArrayTurns.{elements_by-turn}
use Rattle.simd_json_parts.proofs.Descent.Shrinking.{value_from-leaves}
use Rattle.simd_json_stages.proofs.Machine.Steps.{is_end_array, ends_element}
use Rattle.simd_json_stages.proofs.Tokens.TokenForms as forms
use Rattle.simd_json_ondemand.specs.Viewed.{read_along, first_read}
use Rattle.simd_json_ondemand.specs.Remaining.{value_at_first, listed, elements_inside, elements_behind, elements_past}
use Rattle.simd_json_ondemand.proofs.Sequence.Reading.{takes, enough, left}
use Rattle.simd_json_check.proofs.Enough.{kept, array_from-keeps}

module _ (b : List ℕ) where
  -- at an element: the first of those that are left
  pub record AtElement (is : List ℕ) (ds : List Document) : Type 0 where
    pub document : Document
    pub others : List Document
    pub all : ds ≡ document ∷ others
    pub read : read_along b is ≡ Some document
    pub past : elements_past b is ≡ Some others

  at_element : (is : List ℕ) (ds : List Document)
      → listed b (elements_by b (fault_at b Syntax 0) (value_at_first b) (tokens_along b is)) ≡ Some ds → AtElement is ds
  at_element is ds e =
      first (value_at_first b (tokens_along b is)) refl
      (ap (listed b) (sym (elements_by-turn b (fault_at b Syntax 0) (value_at_first b) (takes b) (tokens_along b is))) ∙ e)
    where
      more : Reads Elements
      more = elements_by b (fault_at b Syntax 0) (value_at_first b)

      rest : (d : Document) (mid : List Token) → value_at_first b (tokens_along b is) ≡ Ok (d, mid)
          → (r : Result (Elements × List Token) Error)
          → element_end b (fault_at b Syntax 0) mid more ≡ r → listed b (r >>= λ rest. Ok (element d rest.0, rest.1)) ≡ Some ds
          → AtElement is ds
      rest d mid v (Ok x) r e = record {
        document = d;
        others = elements x.0;
        all = cc;
        read = ap first_read v;
        past = ap (λ ts. listed b (element_end b (fault_at b Syntax 0) ts more)) (sym (left b is d mid v)) ∙ ap (listed b) r;
      }
      rest d mid v (Err f) r e = absurd (cc)

      first : (v : Result (Document × List Token) Error) → value_at_first b (tokens_along b is) ≡ v
          → listed b (v >>= λ first. element_end b (fault_at b Syntax 0) first.1 more >>= λ rest. Ok
          (element first.0 rest.0, rest.1)) ≡ Some ds
          → AtElement is ds
      first (Ok (d, mid)) v e = rest d mid v (element_end b (fault_at b Syntax 0) mid more) refl e
      first (Err f) v e = absurd (cc)

  -- an opening bracket: its elements are inside
  pub record InArray (is : List ℕ) (d : Document) : Type 0 where
    pub held : Elements
    pub same : d ≡ array held
    pub inside : elements_inside b is ≡ Some (elements held)

  pub opened : (i : ℕ) (is : List ℕ) (d : Document) → byte_at b i ≡ 91 → read_along b (i ∷ is) ≡ Some d → InArray is d
  unfolding value_from
  opened i is d byte e = go (arrays t ts) refl
      (ap (λ form. first_read (value_of b m arrays objects t form ts)) (sym (forms.opens b i byte))
      ∙ ap (λ us. first_read (value_from b m (length us) us)) (sym (forms.along-form b i is begin_array (forms.opens b i byte) refl)) ∙ e)
    where
      m : Error
      m = fault_at b Syntax 0

      ts : List Token
      ts = tokens_along b is

      t : Token
      t = record { index = i; form = form_at b i }

      arrays : Token → Reads Elements
      arrays t = array_from b m (value_from b m (length ts))

      objects : Token → Reads Members
      objects t = object_from b m (value_from b m (length ts))

      go : (r : Result (Elements × List Token) Error) → arrays t ts ≡ r → first_read (r >>= λ inner. Ok (array inner.0, inner.1)) ≡ Some d
          → InArray is d
      go (Ok x) is e =
          let whole : length ts ≤ length ts = omega arith in
          let same : array_from b m (value_at_first b) ts ≡ Ok x =
          kept (arrays t ts) (array_from b m (value_at_first b) ts) x
          (array_from-keeps b m m (length ts) (value_from b m (length ts)) (value_at_first b) (value_from-leaves b m (length ts))
          (enough b (length ts)) ts whole) is in
          record { held = x.0; same = cc; inside = ap (listed b) same }
      go (Err f) is e = absurd (cc)

  -- after it: a closing bracket, or an element
  pub inside-end : (i : ℕ) (is : List ℕ) → byte_at b i ≡ 93 → elements_inside b (i ∷ is) ≡ Some []
  inside-end i is byte = ap (λ form. listed b (first_element b (fault_at b Syntax 0) form (tokens_along b (i ∷ is))
      (cond (goes_on form) (tokens_along b is) []) (elements_by b (fault_at b Syntax 0) (value_at_first b)))) (forms.closes b i byte)

  pub inside-none : (ds : List Document) → elements_inside b [] ≡ Some ds → ⊥
  inside-none ds e = cc

  pub inside-element : (i : ℕ) (is : List ℕ) (ds : List Document) → byte_at b i ≢ 93 → elements_inside b (i ∷ is) ≡ Some ds
      → AtElement (i ∷ is) ds
  inside-element i is ds byte e = go (form_at b i) (forms.no_end b i byte) e
    where
      go : (form : Form) → is_end_array form ≡ false → listed b (first_element b (fault_at b Syntax 0) form (tokens_along b (i ∷ is))
          (cond (goes_on form) (tokens_along b is) []) (elements_by b (fault_at b Syntax 0) (value_at_first b))) ≡ Some ds
          → AtElement (i ∷ is) ds
      go end_array f e = absurd (false≢true (sym f))
      go _ f e = at_element (i ∷ is) ds e

  -- after an element: a comma and an element, or a closing bracket
  pub behind-comma : (i : ℕ) (is : List ℕ) (ds : List Document) → byte_at b i ≡ 44 → elements_behind b (i ∷ is) ≡ Some ds → AtElement is ds
  behind-comma i is ds byte e = at_element is ds (ap (λ form. listed b (after_element b (fault_at b Syntax 0)
      (record { index = i; form = form_at b i }) form (cond (goes_on form) (tokens_along b is) [])
      (elements_by b (fault_at b Syntax 0) (value_at_first b)))) (sym (forms.commas b i byte)) ∙ e)

  pub behind-end : (i : ℕ) (is : List ℕ) (ds : List Document) → byte_at b i ≢ 44 → elements_behind b (i ∷ is) ≡ Some ds → ds ≡ []
  behind-end i is ds byte e =
      elim (cases_Bool (byte_at b i == 93)) [
        | inl closing ↦ ended (form_at b i) (forms.closes b i (eqb-true (byte_at b i) 93 closing)) e
        | inr other ↦ none (form_at b i) (forms.no_ending b i (λ h. false≢true (sym other ∙ ap (λ c. c == 93) h)) byte) e
      ]
    where
      behind : Form → Option (List Document)
      behind form = listed b (after_element b (fault_at b Syntax 0) (record { index = i; form = form_at b i }) form
          (cond (goes_on form) (tokens_along b is) []) (elements_by b (fault_at b Syntax 0) (value_at_first b)))

      ended : (form : Form) → form ≡ end_array → behind form ≡ Some ds → ds ≡ []
      ended form f e = let h : behind end_array ≡ Some ds = ap behind (sym f) ∙ e in cc

      none : (form : Form) → ends_element form ≡ false → behind form ≡ Some ds → ds ≡ []
      none value_separator f e = absurd (false≢true (sym f))
      none end_array f e = cc
      none _ f e = absurd (cc)

  pub behind-none : (ds : List Document) → elements_behind b [] ≡ Some ds → ⊥
  behind-none ds e = cc
