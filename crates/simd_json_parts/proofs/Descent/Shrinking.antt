-- Each reader of the descent takes at least one token.
use Rattle.std.proofs.Common.{refl, ℕ, zero, suc, ◌<◌, ◌≤◌, List, [], ◌∷◌, length, arith}
use Rattle.std.specs.Prelude.{Result, Ok, Err, IfOk}
use Rattle.simd_json_parts.specs.Document.{Document, Elements, Members}
use Rattle.simd_json_parts.specs.Tokens.{Token, Form, begin_array, end_array, begin_object, end_object, name_separator}
use Rattle.simd_json_parts.specs.Tokens.{value_separator, string_token, scalar}
use Rattle.simd_json_parts.specs.Descent.{◌>>=◌, Reads, after_element, element_end, elements_from, elements_by, first_element, array_from}
use Rattle.simd_json_parts.specs.Descent.{name_of, name_from, after_name, name_end, after_member, member_end, members_from, members_by}
use Rattle.simd_json_parts.specs.Descent.{first_member, object_from, value_of, value_with, too_deep, value_from}
use Rattle.simd_json_parts.specs.declared.error.Error.{Error}
use Rattle.simd_json_parts.specs.declared.error.ErrorType.{ErrorType}
use Rattle.simd_json_parts.specs.declared.error.ErrorType.TheVariants.{ExpectedObjectKey, ExpectedObjectContent}
use Rattle.simd_json_parts.proofs.Descent.ArrayTurns.{TakesTokens, Leaves}

bind-Leaves : {A B : Type 0} (r : Result A Error) (f : A → Result (B × List Token) Error) (P : A → Type 0) (n : ℕ) → IfOk r P
    → ((x : A) → P x → Leaves (f x) n) → Leaves (r >>= f) n
bind-Leaves (Ok x) f P n p step = step x p
bind-Leaves (Err e) f P n p step = tt

bind_any-Leaves : {A B : Type 0} (r : Result A Error) (f : A → Result (B × List Token) Error) (n : ℕ)
    → ((x : A) → Leaves (f x) n) → Leaves (r >>= f) n
bind_any-Leaves (Ok x) f n step = step x
bind_any-Leaves (Err e) f n step = tt

weaker : {A : Type 0} (r : Result (A × List Token) Error) (m n : ℕ) → m ≤ n → Leaves r m → Leaves r n
weaker (Ok x) m n l h = omega arith
weaker (Err e) m n l h = tt

module _ (b : List ℕ) (missing : Error) where
  module _ (value : Reads Document) (takes : (ts : List Token) → Leaves (value ts) (length ts)) where
    -- ---- arrays

    after_element-leaves : (more : Reads Elements) (n : ℕ) (t : Token) (form : Form) (ts : List Token) → length ts < n
        → Leaves (more ts) (length ts) → Leaves (after_element b missing t form ts more) n
    after_element-leaves more n t value_separator ts l m = weaker (more ts) (length ts) n (omega arith) m
    after_element-leaves more n t end_array ts l m = l
    after_element-leaves more n t _ ts l m = tt

    element_end-leaves : (more : Reads Elements) (n : ℕ) (ts : List Token) → length ts < n
        → ((us : List Token) → Leaves (more us) (length us)) → Leaves (element_end b missing ts more) n
    element_end-leaves more n [] l m = tt
    element_end-leaves more n (t ∷ ts) l m = after_element-leaves more n t t.form ts (omega arith) (m ts)

    elements_from-leaves : (turns : ℕ) (ts : List Token) → Leaves (elements_from b missing value turns ts) (length ts)
    unfolding elements_from
    elements_from-leaves zero ts = tt
    elements_from-leaves (suc turns) ts =
        bind-Leaves (value ts) _ (λ p. length p.1 < length ts) (length ts) (takes ts)
        (λ first h. bind-Leaves (element_end b missing first.1 (elements_from b missing value turns)) _
        (λ p. length p.1 < length ts) (length ts)
        (element_end-leaves (elements_from b missing value turns) (length ts) first.1 h (elements_from-leaves turns)) (λ rest k. k))

    array_from-leaves : (ts : List Token) → Leaves (array_from b missing value ts) (length ts)
    array_from-leaves [] = tt
    array_from-leaves (t ∷ ts) = go t.form
      where
        go : (form : Form) → Leaves (first_element b missing form (t ∷ ts) ts (elements_by b missing value)) (length (t ∷ ts))
        go end_array = omega arith
        go _ = elements_from-leaves (length (t ∷ ts)) (t ∷ ts)

    -- ---- objects

    pub name_from-leaves : (kind : ErrorType) (ts : List Token) → Leaves (name_from b missing kind ts) (length ts)
    name_from-leaves kind [] = tt
    name_from-leaves kind (t ∷ ts) = bind_any-Leaves (name_of b missing kind t t.form) _ (length (t ∷ ts)) (λ name. omega arith)

    pub name_end-leaves : (ts : List Token) → IfOk (name_end b missing ts) (λ us. length us < length ts)
    name_end-leaves [] = tt
    name_end-leaves (t ∷ ts) = go t.form
      where
        go : (form : Form) → IfOk (after_name b missing t form ts) (λ us. length us < length (t ∷ ts))
        go name_separator = omega arith
        go _ = tt

    after_member-leaves : (more : Reads Members) (n : ℕ) (t : Token) (form : Form) (ts : List Token) → length ts < n
        → Leaves (more ts) (length ts) → Leaves (after_member b missing t form ts more) n
    after_member-leaves more n t value_separator ts l m = weaker (more ts) (length ts) n (omega arith) m
    after_member-leaves more n t end_object ts l m = l
    after_member-leaves more n t _ ts l m = tt

    member_end-leaves : (more : Reads Members) (n : ℕ) (ts : List Token) → length ts < n
        → ((us : List Token) → Leaves (more us) (length us)) → Leaves (member_end b missing ts more) n
    member_end-leaves more n [] l m = tt
    member_end-leaves more n (t ∷ ts) l m = after_member-leaves more n t t.form ts (omega arith) (m ts)

    members_from-leaves : (turns : ℕ) (kind : ErrorType) (ts : List Token) → Leaves (members_from b missing value turns kind ts) (length ts)
    unfolding members_from
    members_from-leaves zero kind ts = tt
    members_from-leaves (suc turns) kind ts =
        let n : ℕ = length ts in
        bind-Leaves (name_from b missing kind ts) _ (λ p. length p.1 < n) n (name_from-leaves kind ts)
        (λ name h. bind-Leaves (name_end b missing name.1) _ (λ us. length us < length name.1) n (name_end-leaves name.1)
        (λ colon k. bind-Leaves (value colon) _ (λ p. length p.1 < length colon) n (takes colon)
        (λ first i. bind-Leaves (member_end b missing first.1 (members_from b missing value turns ExpectedObjectKey))
        _ (λ p. length p.1 < n) n
        (member_end-leaves (members_from b missing value turns ExpectedObjectKey) n first.1 (omega arith)
        (members_from-leaves turns ExpectedObjectKey)) (λ rest j. j))))

    object_from-leaves : (ts : List Token) → Leaves (object_from b missing value ts) (length ts)
    object_from-leaves [] = tt
    object_from-leaves (t ∷ ts) = go t.form
      where
        go : (form : Form)
            → Leaves (first_member b missing form (t ∷ ts) ts (members_by b missing value ExpectedObjectContent)) (length (t ∷ ts))
        go end_object = omega arith
        go _ = members_from-leaves (length (t ∷ ts)) ExpectedObjectContent (t ∷ ts)

  -- ---- values

  value_with-leaves : (arrays : Token → Reads Elements) (objects : Token → Reads Members)
      → ((t : Token) (ts : List Token) → Leaves (arrays t ts) (suc (length ts)))
      → ((t : Token) (ts : List Token) → Leaves (objects t ts) (suc (length ts)))
      → (ts : List Token) → Leaves (value_with b missing arrays objects ts) (length ts)
  value_with-leaves arrays objects a o [] = tt
  value_with-leaves arrays objects a o (t ∷ ts) = go t.form
    where
      go : (form : Form) → Leaves (value_of b missing arrays objects t form ts) (suc (length ts))
      go begin_array = bind-Leaves (arrays t ts) _ (λ p. length p.1 < suc (length ts)) _ (a t ts) (λ inner h. h)
      go begin_object = bind-Leaves (objects t ts) _ (λ p. length p.1 < suc (length ts)) _ (o t ts) (λ inner h. h)
      go (string_token read) = bind_any-Leaves read _ _ (λ s. omega arith)
      go (scalar read) = bind_any-Leaves read _ _ (λ s. omega arith)
      go _ = tt

  pub value_from-leaves : (levels : ℕ) (ts : List Token) → Leaves (value_from b missing levels ts) (length ts)
  unfolding value_from
  value_from-leaves zero ts = value_with-leaves (too_deep b missing) (too_deep b missing) (λ t us. tt) (λ t us. tt) ts
  value_from-leaves (suc levels) ts =
      value_with-leaves _ _
      (λ t us. weaker (array_from b missing (value_from b missing levels) us) (length us) _ (omega arith)
      (array_from-leaves (value_from b missing levels) (value_from-leaves levels) us))
      (λ t us. weaker (object_from b missing (value_from b missing levels) us) (length us) _ (omega arith)
      (object_from-leaves (value_from b missing levels) (value_from-leaves levels) us)) ts

  pub value_from-takes : (levels : ℕ) → TakesTokens missing (value_from b missing levels)
  unfolding value_from
  value_from-takes zero = record { none = refl; some = value_from-leaves zero }
  value_from-takes (suc levels) = record { none = refl; some = value_from-leaves (suc levels) }
