-- No step of a stack machine changes the continued descent.
use Rattle.std.proofs.Common.{◌≡◌, refl, sym, ◌∙◌, ap, ℕ, zero, suc, Bool, true, false, ◌-◌, ◌<◌, ◌≤◌, List, [], ◌∷◌, ◌++◌, length, arith}
use Rattle.std.specs.Prelude.{Result, Ok, Err}
use Rattle.simd_json_parts.specs.Document.{Document, string, array, object, Elements, no_elements, element, Members, no_members, member}
use Rattle.simd_json_parts.specs.Tokens.{Token, Form, begin_array, end_array, begin_object, end_object, name_separator, value_separator}
use Rattle.simd_json_parts.specs.Tokens.{string_token, scalar}
use Rattle.simd_json_parts.specs.Descent.{◌>>=◌, Reads, after_element, element_end, elements_by, first_element, array_from, name_of}
use Rattle.simd_json_parts.specs.Descent.{name_from, after_name, name_end, after_member, member_end, members_by, first_member, object_from}
use Rattle.simd_json_parts.specs.Descent.{too_deep, value_of, value_from}
use Rattle.simd_json_parts.specs.Faults.{fault_at}
use Rattle.simd_json_parts.specs.declared.error.ErrorType.TheVariants.{DepthLimitExceeded, ExpectedArrayContent, ExpectedObjectContent}
use Rattle.simd_json_parts.specs.declared.error.ErrorType.TheVariants.{ExpectedObjectKey, ExpectedObjectColon, InternalError}
use Rattle.simd_json_parts.specs.declared.error.ErrorType.{ErrorType}
use Rattle.simd_json_stages.specs.Building.{closed_with}
use Rattle.simd_json_stages.specs.Put.{begins_value}
use Rattle.simd_json_stages.specs.Continued.{Open, in_array, in_object, elements_onto, members_onto, after_value, at_value, at_array}
use Rattle.simd_json_stages.specs.Continued.{at_object, at_name}
use Rattle.simd_json_parts.specs.declared.error.Error.{Error}
use Rattle.simd_json_stages.specs.declared.stage2.stack.Container.{Container}
use Rattle.simd_json_stages.specs.declared.stage2.stack.Container.TheVariants.{Array, Object}
use Rattle.simd_json_parts.proofs.Descent.ArrayTurns.{elements_by-turn}
use Rattle.simd_json_parts.proofs.Descent.ObjectTurns.{members_by-turn}
use Rattle.simd_json_parts.proofs.Descent.Shrinking.{value_from-takes}

bind-bind : {A B C : Type 0} (r : Result A Error) (f : A → Result B Error) (g : B → Result C Error)
    → ((r >>= f) >>= g) ≡ (r >>= λ x. f x >>= g)
bind-bind (Ok x) f g = refl
bind-bind (Err e) f g = refl

bind-Ok : {A : Type 0} (r : Result (A × List Token) Error) → (r >>= λ x. Ok (x.0, x.1)) ≡ r
bind-Ok (Ok x) = refl
bind-Ok (Err e) = refl

bind_same : {A B : Type 0} (r : Result A Error) (f g : A → Result B Error) → ((x : A) → f x ≡ g x) → (r >>= f) ≡ (r >>= g)
bind_same (Ok x) f g same = same x
bind_same (Err e) f g same = refl

onto-append : (ds : List Document) (d : Document) (rest : Elements) → elements_onto (ds ++ d ∷ []) rest ≡ elements_onto ds (element d rest)
onto-append [] d rest = refl
onto-append (x ∷ ds) d rest = ap (λ r. element x r) (onto-append ds d rest)

members_onto-append : (ms : List (List ℕ × Document)) (m : List ℕ × Document) (rest : Members)
    → members_onto (ms ++ m ∷ []) rest ≡ members_onto ms (member m.0 m.1 rest)
members_onto-append [] m rest = refl
members_onto-append (x ∷ ms) m rest = ap (λ r. member x.0 x.1 r) (members_onto-append ms m rest)

-- what may follow an element of an array
abbrev pub ends_element : Form → Bool
ends_element value_separator = true
ends_element end_array = true
ends_element _ = false

abbrev pub is_end_array : Form → Bool
is_end_array end_array = true
is_end_array _ = false

-- the same of an object
abbrev pub ends_member : Form → Bool
ends_member value_separator = true
ends_member end_object = true
ends_member _ = false

abbrev pub is_end_object : Form → Bool
is_end_object end_object = true
is_end_object _ = false

abbrev pub is_string : Form → Bool
is_string (string_token read) = true
is_string _ = false

abbrev pub is_name_separator : Form → Bool
is_name_separator name_separator = true
is_name_separator _ = false

abbrev pub opening_form : Container → Form
opening_form Array = begin_array
opening_form Object = begin_object

abbrev pub ending_form : Container → Form
ending_form Array = end_array
ending_form Object = end_object

abbrev pub empty_of : Container → Document
empty_of Array = array no_elements
empty_of Object = object no_members

module _ (b : List ℕ) (missing : Error) (limit : ℕ) where
  -- with nothing open it is the descent
  pub at_value-root : (ts : List Token) → at_value b missing limit [] ts ≡ value_from b missing (limit - 0) ts
  unfolding after_value
  at_value-root ts = bind-Ok (value_from b missing (limit - 0) ts)

  -- elements that are read in a row, inside what is open
  elements_in : (ds : List Document) (outer : List Open) (ts : List Token)
      → (elements_by b missing (value_from b missing (limit - suc (length outer))) ts >>= λ r. after_value b missing limit outer
      (array (elements_onto ds r.0)) r.1) ≡ at_value b missing limit (in_array ds ∷ outer) ts
  unfolding after_value
  elements_in ds outer ts =
      let v : Reads Document = value_from b missing (limit - suc (length outer)) in
      ap (λ r. r >>= λ r. after_value b missing limit outer (array (elements_onto ds r.0)) r.1)
      (elements_by-turn b missing v (value_from-takes b missing (limit - suc (length outer))) ts)
      ∙ bind-bind (v ts) _ _
      ∙ bind_same (v ts) _ _ (λ first. bind-bind (element_end b missing first.1 (elements_by b missing v)) _ _)

  -- a comma after an element
  pub after_value-comma : (ds : List Document) (outer : List Open) (d : Document) (t : Token) (ts : List Token) → t.form ≡ value_separator
      → after_value b missing limit (in_array ds ∷ outer) d (t ∷ ts) ≡ at_value b missing limit (in_array (ds ++ d ∷ []) ∷ outer) ts
  unfolding after_value
  after_value-comma ds outer d t ts is =
      let v : Reads Document = value_from b missing (limit - suc (length outer)) in
      ap (λ form. after_element b missing t form ts (elements_by b missing v) >>= λ r. after_value b missing limit outer
      (array (elements_onto ds (element d r.0))) r.1) is
      ∙ bind_same (elements_by b missing v ts) _ _ (λ r. ap (λ es. after_value b missing limit outer (array es) r.1)
      (sym (onto-append ds d r.0)))
      ∙ elements_in (ds ++ d ∷ []) outer ts

  -- after an opening bracket
  abbrev pub at_container : Container → List Open → List Token → Result (Document × List Token) Error
  at_container Array = at_array b missing limit
  at_container Object = at_object b missing limit

  -- an opening bracket, where one more container may be open
  pub container-open : (c : Container) (outer : List Open) (t : Token) (ts : List Token) → length outer < limit
      → t.form ≡ opening_form c → at_value b missing limit outer (t ∷ ts) ≡ at_container c outer ts
  unfolding value_from
  container-open c outer t ts l is =
      let one_less : limit - length outer ≡ suc capacity = omega arith in
      ap (λ n. value_from b missing n (t ∷ ts) >>= λ r. after_value b missing limit outer r.0 r.1) one_less
      ∙ ap (λ form. value_of b missing (λ _. array_from b missing (value_from b missing capacity))
      (λ _. object_from b missing (value_from b missing capacity)) t form ts >>= λ r. after_value b missing limit outer r.0 r.1) is
      ∙ go c
    where
      capacity : ℕ
      capacity = limit - suc (length outer)

      go : (c : Container) → (value_of b missing (λ _. array_from b missing (value_from b missing capacity))
          (λ _. object_from b missing (value_from b missing capacity)) t (opening_form c) ts
          >>= λ r. after_value b missing limit outer r.0 r.1) ≡ at_container c outer ts
      go Array = bind-bind (array_from b missing (value_from b missing capacity) ts) _ _
      go Object = bind-bind (object_from b missing (value_from b missing capacity) ts) _ _

  -- where no more containers may be open
  pub container-too_deep : (c : Container) (outer : List Open) (t : Token) (ts : List Token) → limit ≤ length outer
      → t.form ≡ opening_form c → at_value b missing limit outer (t ∷ ts) ≡ Err (fault_at b DepthLimitExceeded t.index)
  unfolding value_from
  container-too_deep c outer t ts l is =
      let none_left : limit - length outer ≡ 0 = omega arith in
      ap (λ n. value_from b missing n (t ∷ ts) >>= λ r. after_value b missing limit outer r.0 r.1) none_left
      ∙ ap (λ form. value_of b missing (too_deep b missing) (too_deep b missing)
      t form ts >>= λ r. after_value b missing limit outer r.0 r.1) is ∙ go c
    where
      go : (c : Container) → (value_of b missing (too_deep b missing) (too_deep b missing) t (opening_form c) ts
          >>= λ r. after_value b missing limit outer r.0 r.1) ≡ Err (fault_at b DepthLimitExceeded t.index)
      go Array = refl
      go Object = refl

  pub container-missing : (c : Container) (outer : List Open) → at_container c outer [] ≡ Err missing
  container-missing Array outer = refl
  container-missing Object outer = refl

  -- its closing bracket, and so an empty container
  pub container-close : (c : Container) (outer : List Open) (t : Token) (ts : List Token) → t.form ≡ ending_form c
      → at_container c outer (t ∷ ts) ≡ after_value b missing limit outer (empty_of c) ts
  container-close Array outer t ts is =
      let v : Reads Document = value_from b missing (limit - suc (length outer)) in
      ap (λ form. first_element b missing form (t ∷ ts) ts (elements_by b missing v) >>= λ r. after_value b missing limit outer
      (array r.0) r.1) is
  container-close Object outer t ts is =
      let v : Reads Document = value_from b missing (limit - suc (length outer)) in
      ap (λ form. first_member b missing form (t ∷ ts) ts (members_by b missing v ExpectedObjectContent)
      >>= λ r. after_value b missing limit outer (object r.0) r.1) is

  -- after an opening bracket: the first element
  pub at_array-element : (outer : List Open) (t : Token) (ts : List Token) (form : Form) → t.form ≡ form → is_end_array form ≡ false
      → at_array b missing limit outer (t ∷ ts) ≡ at_value b missing limit (in_array [] ∷ outer) (t ∷ ts)
  at_array-element outer t ts form is other =
      let v : Reads Document = value_from b missing (limit - suc (length outer)) in
      ap (λ r. r >>= λ r. after_value b missing limit outer (array r.0) r.1)
      (ap (λ form. first_element b missing form (t ∷ ts) ts (elements_by b missing v)) is ∙ not_first form other)
      ∙ elements_in [] outer (t ∷ ts)
    where
      not_first : (form : Form) → is_end_array form ≡ false
          → first_element b missing form (t ∷ ts) ts (elements_by b missing (value_from b missing (limit - suc (length outer))))
          ≡ elements_by b missing (value_from b missing (limit - suc (length outer))) (t ∷ ts)
      not_first end_array h = cc
      not_first _ h = refl

  -- a token that opens nothing
  at_value-plain : (open_containers : List Open) (t : Token) (ts : List Token) (form : Form) (r : Result (Document × List Token) Error)
      → t.form ≡ form
      → ((arrays : Token → Reads Elements) (objects : Token → Reads Members) → value_of b missing arrays objects t form ts ≡ r)
      → at_value b missing limit open_containers (t ∷ ts) ≡ (r >>= λ r. after_value b missing limit open_containers r.0 r.1)
  unfolding value_from
  at_value-plain open_containers t ts form r is plain = go (limit - length open_containers)
    where
      read : (arrays : Token → Reads Elements) (objects : Token → Reads Members)
          → (value_of b missing arrays objects t t.form ts >>= λ r. after_value b missing limit open_containers r.0 r.1)
          ≡ (r >>= λ r. after_value b missing limit open_containers r.0 r.1)
      read arrays objects = ap (λ r. r >>= λ r. after_value b missing limit open_containers r.0 r.1)
          (ap (λ form. value_of b missing arrays objects t form ts) is ∙ plain arrays objects)

      go : (capacity : ℕ) → (value_from b missing capacity (t ∷ ts) >>= λ r. after_value b missing limit open_containers r.0 r.1)
          ≡ (r >>= λ r. after_value b missing limit open_containers r.0 r.1)
      go zero = read (too_deep b missing) (too_deep b missing)
      go (suc capacity) = read (λ _. array_from b missing (value_from b missing capacity))
          (λ _. object_from b missing (value_from b missing capacity))

  pub at_value-scalar : (open_containers : List Open) (t : Token) (ts : List Token) (d : Document) (end : ℕ) → t.form ≡ scalar (Ok (d, end))
      → at_value b missing limit open_containers (t ∷ ts) ≡ after_value b missing limit open_containers d ts
  at_value-scalar open_containers t ts d end is = at_value-plain open_containers t ts _ (Ok (d, ts)) is (λ arrays objects. refl)

  pub at_value-string : (open_containers : List Open) (t : Token) (ts : List Token) (s : List ℕ) (end : ℕ)
      → t.form ≡ string_token (Ok (s, end))
      → at_value b missing limit open_containers (t ∷ ts) ≡ after_value b missing limit open_containers (string s) ts
  at_value-string open_containers t ts s end is = at_value-plain open_containers t ts _ (Ok (string s, ts)) is (λ arrays objects. refl)

  -- with nothing open, the value is the whole
  pub after_value-root : (d : Document) (ts : List Token) → after_value b missing limit [] d ts ≡ Ok (d, ts)
  unfolding after_value
  after_value-root d ts = refl

  -- ---- rejections: no token is left, or one that is not accepted

  pub at_value-missing : (open_containers : List Open) → at_value b missing limit open_containers [] ≡ Err missing
  unfolding value_from
  at_value-missing open_containers = go (limit - length open_containers)
    where
      go : (capacity : ℕ) → (value_from b missing capacity [] >>= λ r. after_value b missing limit open_containers r.0 r.1) ≡ Err missing
      go zero = refl
      go (suc capacity) = refl

  pub at_value-fault : (open_containers : List Open) (t : Token) (ts : List Token) (e : Error) → t.form ≡ scalar (Err e)
      → at_value b missing limit open_containers (t ∷ ts) ≡ Err e
  at_value-fault open_containers t ts e is = at_value-plain open_containers t ts _ (Err e) is (λ arrays objects. refl)

  pub at_value-string_fault : (open_containers : List Open) (t : Token) (ts : List Token) (e : Error)
      → t.form ≡ string_token (Err e) → at_value b missing limit open_containers (t ∷ ts) ≡ Err e
  at_value-string_fault open_containers t ts e is = at_value-plain open_containers t ts _ (Err e) is (λ arrays objects. refl)

  pub at_value-unexpected : (open_containers : List Open) (t : Token) (ts : List Token) (form : Form) → t.form ≡ form
      → begins_value form ≡ false → at_value b missing limit open_containers (t ∷ ts) ≡ Err (fault_at b InternalError t.index)
  at_value-unexpected open_containers t ts form is none = at_value-plain open_containers t ts form
      (Err (fault_at b InternalError t.index)) is (λ arrays objects. rejected arrays objects form none)
    where
      rejected : (arrays : Token → Reads Elements) (objects : Token → Reads Members) (form : Form) → begins_value form ≡ false
          → value_of b missing arrays objects t form ts ≡ Err (fault_at b InternalError t.index)
      rejected arrays objects begin_array h = cc
      rejected arrays objects begin_object h = cc
      rejected arrays objects (string_token read) h = cc
      rejected arrays objects (scalar read) h = cc
      rejected arrays objects _ h = refl

-- ---- either container

-- the form that closes the innermost container
abbrev pub closing_form : Open → Form
closing_form (in_array ds) = end_array
closing_form (in_object ms name) = end_object

-- what may follow a member of it
abbrev pub ends_member_of : Open → Form → Bool
ends_member_of (in_array ds) form = ends_element form
ends_member_of (in_object ms name) form = ends_member form

abbrev pub content_error : Open → ErrorType
content_error (in_array ds) = ExpectedArrayContent
content_error (in_object ms name) = ExpectedObjectContent

module _ (b : List ℕ) (missing : Error) (limit : ℕ) where
  pub after_value-closed : (o : Open) (outer : List Open) (d : Document) (t : Token) (ts : List Token) → t.form ≡ closing_form o
      → after_value b missing limit (o ∷ outer) d (t ∷ ts) ≡ after_value b missing limit outer (closed_with o d) ts
  unfolding after_value
  after_value-closed (in_array ds) outer d t ts is =
      let v : Reads Document = value_from b missing (limit - suc (length outer)) in
      ap (λ form. after_element b missing t form ts (elements_by b missing v) >>= λ r. after_value b missing limit outer
      (array (elements_onto ds (element d r.0))) r.1) is
      ∙ ap (λ es. after_value b missing limit outer (array es) ts) (sym (onto-append ds d no_elements))
  after_value-closed (in_object ms name) outer d t ts is =
      let v : Reads Document = value_from b missing (limit - suc (length outer)) in
      ap (λ form. after_member b missing t form ts (members_by b missing v ExpectedObjectKey)
      >>= λ r. after_value b missing limit outer (object (members_onto ms (member name d r.0))) r.1) is
      ∙ ap (λ members. after_value b missing limit outer (object members) ts) (sym (members_onto-append ms (name, d) no_members))

  pub after_value-none : (o : Open) (outer : List Open) (d : Document) → after_value b missing limit (o ∷ outer) d [] ≡ Err missing
  unfolding after_value
  after_value-none (in_array ds) outer d = refl
  after_value-none (in_object ms name) outer d = refl

  pub after_value-unexpected : (o : Open) (outer : List Open) (d : Document) (t : Token) (ts : List Token) (form : Form)
      → t.form ≡ form → ends_member_of o form ≡ false
      → after_value b missing limit (o ∷ outer) d (t ∷ ts) ≡ Err (fault_at b (content_error o) t.index)
  unfolding after_value
  after_value-unexpected (in_array ds) outer d t ts form is other =
      ap (λ r. r >>= λ r. after_value b missing limit outer (array (elements_onto ds (element d r.0))) r.1)
      (ap (λ form. after_element b missing t form ts (elements_by b missing
      (value_from b missing (limit - suc (length outer))))) is ∙ rejected form other)
    where
      rejected : (form : Form) → ends_element form ≡ false → after_element b missing t form ts
          (elements_by b missing (value_from b missing (limit - suc (length outer)))) ≡ Err (fault_at b ExpectedArrayContent t.index)
      rejected value_separator h = cc
      rejected end_array h = cc
      rejected _ h = refl
  after_value-unexpected (in_object ms name) outer d t ts form is other =
      ap (λ r. r >>= λ r. after_value b missing limit outer (object (members_onto ms (member name d r.0))) r.1)
      (ap (λ form. after_member b missing t form ts (members_by b missing (value_from b missing (limit - suc (length outer)))
      ExpectedObjectKey)) is ∙ rejected form other)
    where
      rejected : (form : Form) → ends_member form ≡ false → after_member b missing t form ts
          (members_by b missing (value_from b missing (limit - suc (length outer))) ExpectedObjectKey) ≡ Err
          (fault_at b ExpectedObjectContent t.index)
      rejected value_separator h = cc
      rejected end_object h = cc
      rejected _ h = refl

  -- ---- objects

  pub at_object-name : (outer : List Open) (t : Token) (ts : List Token) (form : Form) → t.form ≡ form → is_end_object form ≡ false
      → at_object b missing limit outer (t ∷ ts) ≡ at_name b missing limit ExpectedObjectContent [] outer (t ∷ ts)
  at_object-name outer t ts form is other =
      ap (λ r. r >>= λ r. after_value b missing limit outer (object r.0) r.1)
      (ap (λ form. first_member b missing form (t ∷ ts) ts (members_by b missing
      (value_from b missing (limit - suc (length outer))) ExpectedObjectContent)) is ∙ not_first form other)
    where
      not_first : (form : Form) → is_end_object form ≡ false
          → first_member b missing form (t ∷ ts) ts (members_by b missing (value_from b missing (limit - suc (length outer)))
          ExpectedObjectContent) ≡ members_by b missing (value_from b missing (limit - suc (length outer)))
          ExpectedObjectContent (t ∷ ts)
      not_first end_object h = cc
      not_first _ h = refl

  -- after a name
  abbrev rest_after_name : List (List ℕ × Document) → List Open → List ℕ × List Token → Result (Document × List Token) Error
  rest_after_name ms outer name = name_end b missing name.1 >>= λ ts. at_value b missing limit (in_object ms name.0 ∷ outer) ts

  -- a name is read, its colon, and on
  at_name-turn : (kind : ErrorType) (ms : List (List ℕ × Document)) (outer : List Open) (ts : List Token)
      → at_name b missing limit kind ms outer ts ≡ (name_from b missing kind ts >>= rest_after_name ms outer)
  unfolding after_value
  at_name-turn kind ms outer ts =
      let capacity : ℕ = limit - suc (length outer) in
      let v : Reads Document = value_from b missing capacity in
      ap (λ r. r >>= λ r. after_value b missing limit outer (object (members_onto ms r.0)) r.1)
      (members_by-turn b missing v (value_from-takes b missing capacity) kind ts)
      ∙ bind-bind (name_from b missing kind ts) _ _
      ∙ bind_same (name_from b missing kind ts) _ _ (λ name. bind-bind (name_end b missing name.1) _ _
      ∙ bind_same (name_end b missing name.1) _ _ (λ us. bind-bind (v us) _ _
      ∙ bind_same (v us) _ _ (λ first. bind-bind (member_end b missing first.1 (members_by b missing v ExpectedObjectKey)) _ _)))

  -- the same at a token of a known form
  at_name-form : (kind : ErrorType) (ms : List (List ℕ × Document)) (outer : List Open) (t : Token) (ts : List Token)
      (form : Form) → t.form ≡ form
      → at_name b missing limit kind ms outer (t ∷ ts) ≡ (name_of b missing kind t form >>= λ name. rest_after_name ms outer (name.0, ts))
  at_name-form kind ms outer t ts form is =
      at_name-turn kind ms outer (t ∷ ts) ∙ bind-bind (name_of b missing kind t t.form) _ _
      ∙ ap (λ form. name_of b missing kind t form >>= λ name. rest_after_name ms outer (name.0, ts)) is

  -- a name and its colon
  pub at_name-value : (kind : ErrorType) (ms : List (List ℕ × Document)) (outer : List Open) (t u : Token) (ts : List Token)
      (name : List ℕ) (end : ℕ) → t.form ≡ string_token (Ok (name, end)) → u.form ≡ name_separator
      → at_name b missing limit kind ms outer (t ∷ u ∷ ts) ≡ at_value b missing limit (in_object ms name ∷ outer) ts
  at_name-value kind ms outer t u ts name end is colon =
      at_name-form kind ms outer t (u ∷ ts) (string_token (Ok (name, end))) is
      ∙ ap (λ form. after_name b missing u form ts >>= λ us. at_value b missing limit (in_object ms name ∷ outer) us) colon

  pub at_name-missing : (kind : ErrorType) (ms : List (List ℕ × Document)) (outer : List Open)
      → at_name b missing limit kind ms outer [] ≡ Err missing
  at_name-missing kind ms outer = at_name-turn kind ms outer []

  pub at_name-other : (kind : ErrorType) (ms : List (List ℕ × Document)) (outer : List Open) (t : Token) (ts : List Token)
      (form : Form) → t.form ≡ form → is_string form ≡ false
      → at_name b missing limit kind ms outer (t ∷ ts) ≡ Err (fault_at b kind t.index)
  at_name-other kind ms outer t ts form is other = at_name-form kind ms outer t ts form is
      ∙ ap (λ r. r >>= λ name. rest_after_name ms outer (name.0, ts)) (rejected form other)
    where
      rejected : (form : Form) → is_string form ≡ false → name_of b missing kind t form ≡ Err (fault_at b kind t.index)
      rejected (string_token read) h = cc
      rejected _ h = refl

  pub at_name-fault : (kind : ErrorType) (ms : List (List ℕ × Document)) (outer : List Open) (t : Token) (ts : List Token)
      (e : Error) → t.form ≡ string_token (Err e)
      → at_name b missing limit kind ms outer (t ∷ ts) ≡ Err e
  at_name-fault kind ms outer t ts e is = at_name-form kind ms outer t ts (string_token (Err e)) is

  pub at_name-no_more : (kind : ErrorType) (ms : List (List ℕ × Document)) (outer : List Open) (t : Token) (name : List ℕ)
      (end : ℕ) → t.form ≡ string_token (Ok (name, end))
      → at_name b missing limit kind ms outer (t ∷ []) ≡ Err missing
  at_name-no_more kind ms outer t name end is = at_name-form kind ms outer t [] (string_token (Ok (name, end))) is

  pub at_name-no_colon : (kind : ErrorType) (ms : List (List ℕ × Document)) (outer : List Open) (t u : Token) (ts : List Token)
      (name : List ℕ) (end : ℕ) (form : Form) → t.form ≡ string_token (Ok (name, end)) → u.form ≡ form → is_name_separator form ≡ false
      → at_name b missing limit kind ms outer (t ∷ u ∷ ts) ≡ Err (fault_at b ExpectedObjectColon u.index)
  at_name-no_colon kind ms outer t u ts name end form is colon other =
      at_name-form kind ms outer t (u ∷ ts) (string_token (Ok (name, end))) is
      ∙ ap (λ r. r >>= λ us. at_value b missing limit (in_object ms name ∷ outer) us)
      (ap (λ form. after_name b missing u form ts) colon ∙ rejected form other)
    where
      rejected : (form : Form) → is_name_separator form ≡ false
          → after_name b missing u form ts ≡ Err (fault_at b ExpectedObjectColon u.index)
      rejected name_separator h = cc
      rejected _ h = refl

  -- a comma after a member
  pub after_value-member_comma : (ms : List (List ℕ × Document)) (name : List ℕ) (outer : List Open) (d : Document) (t : Token)
      (ts : List Token) → t.form ≡ value_separator
      → after_value b missing limit (in_object ms name ∷ outer) d (t ∷ ts) ≡ at_name b missing limit ExpectedObjectKey
      (ms ++ (name, d) ∷ []) outer ts
  unfolding after_value
  after_value-member_comma ms name outer d t ts is =
      let v : Reads Document = value_from b missing (limit - suc (length outer)) in
      ap (λ form. after_member b missing t form ts (members_by b missing v ExpectedObjectKey)
      >>= λ r. after_value b missing limit outer (object (members_onto ms (member name d r.0))) r.1) is
      ∙ bind_same (members_by b missing v ExpectedObjectKey ts) _ _
      (λ r. ap (λ members. after_value b missing limit outer (object members) r.1) (sym (members_onto-append ms (name, d) r.0)))
