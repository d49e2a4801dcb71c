-- A value that a pointer names, or why there is none.
use Rattle.std.proofs.Common.{◌≡◌, ◌∙◌, ap, refl, subst, sym, ℕ, List, Bool, true, false, cond, Option, Some, None}
use Rattle.std.specs.Prelude.{ℤ, MatchOption, MatchResult, Result, Ok, Err, option_map}
use Rattle.simd_json_parts.specs.Pointed.{is_pointer}
use Rattle.simd_json_c.specs.Statuses.{invalid_pointer, missing_status, named_by, no_value_status}

pub is-some : {A : Type 0} (P : Type 0) (Q : A → Type 0) (o : Option A) (x : A) → Some x ≡ o → Q x → MatchOption o P Q
is-some P Q None x is q = absurd (cc)
is-some P Q (Some y) x is q = let same : x ≡ y = cc in subst Q same q

module _ {A : Type 0} (pointer : List ℕ) (Q : A → Type 0) (P : ℤ → Type 0) where
  missing-by : (b : Bool) → P (cond b no_value_status invalid_pointer)
      → MatchResult (cond {A = Result A ℤ} b (Err no_value_status) (Err invalid_pointer)) Q P
  missing-by true p = p
  missing-by false p = p

  found-by : (x : A) (b : Bool) → (b ≡ false → Some x ≡ None) → Q x → MatchResult (cond b (Ok x) (Err invalid_pointer)) Q P
  found-by x true lost q = q
  found-by x false lost q = absurd (let e : Some x ≡ None = lost refl in cc)

  -- a malformed pointer leads to nothing
  module _ (o : Option A) (lost : is_pointer pointer ≡ false → o ≡ None) where
    pub names : (x : A) → Some x ≡ o → Q x → MatchResult (named_by pointer o) Q P
    names x is q = subst (λ u. MatchResult (named_by pointer u) Q P) is (found-by x (is_pointer pointer) (λ bad. is ∙ lost bad) q)

    pub lacks : None ≡ o → P (missing_status pointer) → MatchResult (named_by pointer o) Q P
    lacks is p = subst (λ u. MatchResult (named_by pointer u) Q P) is (missing-by (is_pointer pointer) p)

    -- the same by what is found of what may be a value
    pub names-value : (v : Option A) → Some v ≡ option_map (λ e. Some e) o → ((e : A) → v ≡ Some e → Q e)
        → MatchResult (named_by pointer o) Q P
    names-value v is q = by o refl
      where
        by : (u : Option A) → o ≡ u → MatchResult (named_by pointer o) Q P
        by None same = absurd (let e : Some v ≡ None = is ∙ ap (option_map (λ e. Some e)) same in cc)
        by (Some e) same = names e (sym same) (q e (let f : Some v ≡ Some (Some e) = is ∙ ap (option_map (λ e. Some e)) same in cc))

    pub lacks-value : None ≡ option_map (λ e. Some e) o → P (missing_status pointer) → MatchResult (named_by pointer o) Q P
    lacks-value is p = by o refl
      where
        by : (u : Option A) → o ≡ u → MatchResult (named_by pointer o) Q P
        by None same = lacks (sym same) p
        by (Some e) same = absurd (let f : None ≡ Some (Some e) = is ∙ ap (option_map (λ e. Some e)) same in cc)
