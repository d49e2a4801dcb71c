-- What the descent reads stays the same with more levels, and with as many as there are tokens; nor does it matter
-- which fault stands for a token that is missing.
use Rattle.std.proofs.Common.{◌≡◌, refl, ◌∙◌, ap, subst, ℕ, zero, suc, ◌<◌, ◌≤◌, ◌⊎◌, inl, inr, List, [], ◌∷◌, length, arith}
use Rattle.std.specs.Prelude.{Result, Ok, Err, IfOk}
use Rattle.simd_json_parts.specs.Document.{Document, Elements, Members}
use Rattle.simd_json_parts.specs.Tokens.{Token, Form, begin_array, end_array, begin_object, end_object, name_separator}
use Rattle.simd_json_parts.specs.Tokens.{value_separator, string_token, scalar}
use Rattle.simd_json_parts.specs.Descent.{◌>>=◌, Reads, after_element, element_end, elements_from, elements_by, first_element}
use Rattle.simd_json_parts.specs.Descent.{array_from, name_of, name_from, after_name, name_end, after_member, member_end}
use Rattle.simd_json_parts.specs.Descent.{members_from, members_by, first_member, object_from, value_of}
use Rattle.simd_json_parts.specs.Descent.{too_deep, value_from}
use Rattle.simd_json_parts.specs.declared.error.Error.{Error}
use Rattle.simd_json_parts.specs.declared.error.ErrorType.{ErrorType}
use Rattle.simd_json_parts.specs.declared.error.ErrorType.TheVariants.{ExpectedObjectKey, ExpectedObjectContent}
use Rattle.simd_json_parts.proofs.Descent.Shrinking.{value_from-leaves, name_from-leaves, name_end-leaves}
use Rattle.simd_json_parts.proofs.Descent.ArrayTurns.{Leaves}

-- what the one reads the other reads too
abbrev pub Keeps : {A : Type 0} → Result A Error → Result A Error → Type 0
Keeps r s = IfOk r (λ x. s ≡ Ok x)

pub kept : {A : Type 0} (r s : Result A Error) (x : A) → Keeps r s → r ≡ Ok x → s ≡ Ok x
kept r s x k e = subst (λ r. Keeps r s) e k

-- of P is known what the first reads, and it goes on alike
both : {A B : Type 0} (r s : Result A Error) (f g : A → Result B Error) (P : A → Type 0) → IfOk r P → Keeps r s
    → ((x : A) → P x → Keeps (f x) (g x)) → Keeps (r >>= f) (s >>= g)
both (Err e) s f g P p k step = tt
both (Ok x) s f g P p k step = moved (f x) (step x p)
  where
    moved : (r : Result _ Error) → Keeps r (g x) → Keeps r (s >>= g)
    moved (Ok y) h = ap (λ s. s >>= g) k ∙ h
    moved (Err e) h = tt

same : {A : Type 0} (r : Result A Error) → Keeps r r
same (Ok x) = refl
same (Err e) = tt

any : {A : Type 0} (r : Result A Error) → IfOk r (λ x. Unit {0})
any (Ok x) = tt
any (Err e) = tt

module _ (b : List ℕ) (m m' : Error) (n : ℕ) where
  module _ (value value' : Reads Document) (takes : (ts : List Token) → Leaves (value ts) (length ts))
      (keeps : (ts : List Token) → length ts ≤ n → Keeps (value ts) (value' ts)) where
    -- ---- arrays

    element_end-keeps : (more more' : Reads Elements) → ((ts : List Token) → length ts ≤ n → Keeps (more ts) (more' ts))
        → (ts : List Token) → length ts ≤ n → Keeps (element_end b m ts more) (element_end b m' ts more')
    element_end-keeps more more' goes [] l = tt
    element_end-keeps more more' goes (t ∷ ts) l = go t.form
      where
        go : (form : Form) → Keeps (after_element b m t form ts more) (after_element b m' t form ts more')
        go value_separator = goes ts (omega arith)
        go end_array = refl
        go _ = tt

    elements_from-keeps : (turns : ℕ) (ts : List Token) → length ts ≤ n
        → Keeps (elements_from b m value turns ts) (elements_from b m' value' turns ts)
    unfolding elements_from
    elements_from-keeps zero ts l = tt
    elements_from-keeps (suc turns) ts l =
        both (value ts) (value' ts) _ _ (λ p. length p.1 < length ts) (takes ts) (keeps ts l)
        (λ first h. both (element_end b m first.1 (elements_from b m value turns)) (element_end b m' first.1
        (elements_from b m' value' turns))
        _ _ (λ p. Unit {0}) (any (element_end b m first.1 (elements_from b m value turns)))
        (element_end-keeps (elements_from b m value turns) (elements_from b m' value' turns) (elements_from-keeps turns) first.1
        (omega arith))
        (λ rest _. refl))

    pub array_from-keeps : (ts : List Token) → length ts ≤ n → Keeps (array_from b m value ts) (array_from b m' value' ts)
    array_from-keeps [] l = tt
    array_from-keeps (t ∷ ts) l = go t.form
      where
        go : (form : Form) → Keeps (first_element b m form (t ∷ ts) ts (elements_by b m value))
            (first_element b m' form (t ∷ ts) ts (elements_by b m' value'))
        go end_array = refl
        go _ = elements_from-keeps (length (t ∷ ts)) (t ∷ ts) l

    pub behind_element-keeps : (ts : List Token) → length ts ≤ n
        → Keeps (element_end b m ts (elements_by b m value)) (element_end b m' ts (elements_by b m' value'))
    behind_element-keeps = element_end-keeps (elements_by b m value) (elements_by b m' value') (λ ts l. elements_from-keeps
        (length ts) ts l)

    -- ---- objects

    name_of-keeps : (kind kind' : ErrorType) (t : Token) (form : Form) → Keeps (name_of b m kind t form) (name_of b m' kind' t form)
    name_of-keeps kind kind' t (string_token read) = same read
    name_of-keeps kind kind' t _ = tt

    name_from-keeps : (kind kind' : ErrorType) (ts : List Token) → Keeps (name_from b m kind ts) (name_from b m' kind' ts)
    name_from-keeps kind kind' [] = tt
    name_from-keeps kind kind' (t ∷ ts) = both (name_of b m kind t t.form) (name_of b m' kind' t t.form) _ _ (λ p. Unit {0})
        (any (name_of b m kind t t.form)) (name_of-keeps kind kind' t t.form) (λ name _. refl)

    name_end-keeps : (ts : List Token) → Keeps (name_end b m ts) (name_end b m' ts)
    name_end-keeps [] = tt
    name_end-keeps (t ∷ ts) = go t.form
      where
        go : (form : Form) → Keeps (after_name b m t form ts) (after_name b m' t form ts)
        go name_separator = refl
        go _ = tt

    member_end-keeps : (more more' : Reads Members) → ((ts : List Token) → length ts ≤ n → Keeps (more ts) (more' ts))
        → (ts : List Token) → length ts ≤ n → Keeps (member_end b m ts more) (member_end b m' ts more')
    member_end-keeps more more' goes [] l = tt
    member_end-keeps more more' goes (t ∷ ts) l = go t.form
      where
        go : (form : Form) → Keeps (after_member b m t form ts more) (after_member b m' t form ts more')
        go value_separator = goes ts (omega arith)
        go end_object = refl
        go _ = tt

    members_from-keeps : (turns : ℕ) (kind kind' : ErrorType) (ts : List Token) → length ts ≤ n
        → Keeps (members_from b m value turns kind ts) (members_from b m' value' turns kind' ts)
    unfolding members_from
    members_from-keeps zero kind kind' ts l = tt
    members_from-keeps (suc turns) kind kind' ts l =
        both (name_from b m kind ts) (name_from b m' kind' ts) _ _ (λ p. length p.1 < length ts)
        (name_from-leaves b m value takes kind ts) (name_from-keeps kind kind' ts)
        (λ name h. both (name_end b m name.1) (name_end b m' name.1) _ _ (λ us. length us < length name.1)
        (name_end-leaves b m value takes name.1) (name_end-keeps name.1)
        (λ colon i. both (value colon) (value' colon) _ _ (λ p. length p.1 < length colon) (takes colon) (keeps colon (omega arith))
        (λ first j. both (member_end b m first.1 (members_from b m value turns ExpectedObjectKey))
        (member_end b m' first.1 (members_from b m' value' turns ExpectedObjectKey)) _ _ (λ p. Unit {0})
        (any (member_end b m first.1 (members_from b m value turns ExpectedObjectKey)))
        (member_end-keeps (members_from b m value turns ExpectedObjectKey) (members_from b m' value' turns ExpectedObjectKey)
        (members_from-keeps turns ExpectedObjectKey ExpectedObjectKey) first.1 (omega arith))
        (λ rest _. refl))))

    pub object_from-keeps : (ts : List Token) → length ts ≤ n → Keeps (object_from b m value ts) (object_from b m' value' ts)
    object_from-keeps [] l = tt
    object_from-keeps (t ∷ ts) l = go t.form
      where
        go : (form : Form) → Keeps (first_member b m form (t ∷ ts) ts (members_by b m value ExpectedObjectContent))
            (first_member b m' form (t ∷ ts) ts (members_by b m' value' ExpectedObjectContent))
        go end_object = refl
        go _ = members_from-keeps (length (t ∷ ts)) ExpectedObjectContent ExpectedObjectContent (t ∷ ts) l

    pub behind_member-keeps : (ts : List Token) → length ts ≤ n
        → Keeps (member_end b m ts (members_by b m value ExpectedObjectKey)) (member_end b m' ts (members_by b m' value' ExpectedObjectKey))
    behind_member-keeps = member_end-keeps (members_by b m value ExpectedObjectKey) (members_by b m' value' ExpectedObjectKey)
        (λ ts l. members_from-keeps (length ts) ExpectedObjectKey ExpectedObjectKey ts l)

-- ---- values

module _ (b : List ℕ) (m m' : Error) where
  value_of-keeps : (arrays arrays' : Token → Reads Elements) (objects objects' : Token → Reads Members) (t : Token) (ts : List Token)
      → Keeps (arrays t ts) (arrays' t ts) → Keeps (objects t ts) (objects' t ts) → (form : Form)
      → Keeps (value_of b m arrays objects t form ts) (value_of b m' arrays' objects' t form ts)
  value_of-keeps arrays arrays' objects objects' t ts a o begin_array =
      both (arrays t ts) (arrays' t ts) _ _ (λ p. Unit {0}) (any (arrays t ts)) a (λ inner _. refl)
  value_of-keeps arrays arrays' objects objects' t ts a o begin_object =
      both (objects t ts) (objects' t ts) _ _ (λ p. Unit {0}) (any (objects t ts)) o (λ inner _. refl)
  value_of-keeps arrays arrays' objects objects' t ts a o (string_token (Ok s)) = refl
  value_of-keeps arrays arrays' objects objects' t ts a o (string_token (Err e)) = tt
  value_of-keeps arrays arrays' objects objects' t ts a o (scalar (Ok s)) = refl
  value_of-keeps arrays arrays' objects objects' t ts a o (scalar (Err e)) = tt
  value_of-keeps arrays arrays' objects objects' t ts a o _ = tt

  -- Levels are enough if they are no fewer, or as many as tokens.
  abbrev pub AreEnough : ℕ → ℕ → List Token → Type 0
  AreEnough levels levels' ts = (levels ≤ levels') ⊎ (length ts ≤ levels')

  fewer : (levels levels' : ℕ) (t : Token) (ts us : List Token) → AreEnough (suc levels) (suc levels') (t ∷ ts)
      → length us ≤ length ts → AreEnough levels levels' us
  fewer levels levels' t ts us (inl h) l = inl (omega arith)
  fewer levels levels' t ts us (inr h) l = inr (omega arith)

  pub value_from-keeps : (levels levels' : ℕ) (ts : List Token) → AreEnough levels levels' ts
      → Keeps (value_from b m levels ts) (value_from b m' levels' ts)
  unfolding value_from
  value_from-keeps zero levels' [] h = tt
  value_from-keeps (suc levels) levels' [] h = tt
  value_from-keeps zero zero (t ∷ ts) h = value_of-keeps (too_deep b m) (too_deep b m') (too_deep b m) (too_deep b m') t ts tt tt t.form
  value_from-keeps zero (suc levels') (t ∷ ts) h =
      value_of-keeps (too_deep b m) (λ _. array_from b m' (value_from b m' levels')) (too_deep b m)
      (λ _. object_from b m' (value_from b m' levels')) t ts tt tt t.form
  value_from-keeps (suc levels) zero (t ∷ ts) (inl h) = absurd (omega arith)
  value_from-keeps (suc levels) zero (t ∷ ts) (inr h) = absurd (omega arith)
  value_from-keeps (suc levels) (suc levels') (t ∷ ts) h =
      let keeps = λ (us : List Token) (l : length us ≤ length ts). value_from-keeps levels levels' us (fewer levels levels' t ts us h l) in
      let whole : length ts ≤ length ts = omega arith in
      value_of-keeps (λ _. array_from b m (value_from b m levels)) (λ _. array_from b m' (value_from b m' levels'))
      (λ _. object_from b m (value_from b m levels)) (λ _. object_from b m' (value_from b m' levels')) t ts
      (array_from-keeps b m m' (length ts) (value_from b m levels) (value_from b m' levels') (value_from-leaves b m levels) keeps ts whole)
      (object_from-keeps b m m' (length ts) (value_from b m levels) (value_from b m' levels') (value_from-leaves b m levels) keeps ts whole)
      t.form
