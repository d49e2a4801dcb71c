-- Of which kinds faults are: those of a whole input, and those of its tokens.
use Rattle.std.proofs.Common.{◌≡◌, refl, subst, ℕ, zero, suc, ◌+◌, ◌-◌, ◌⊎◌, inl, inr, List, [], ◌∷◌, true, false, not, ◌||◌, ◌&&◌}
use Rattle.std.proofs.Common.{◌==◌, nat_eq, nat_le, nat_lt, length, take, drop}
use Rattle.std.specs.Prelude.{⊤, Bool, Option, Some, None, Result, Ok, Err, IfSome, IfErr, MatchResult, IsTrue, codes, slice_range}
use Rattle.std.specs.Prelude.{if◌then◌else◌}
use Rattle.std.specs.List.{starts_with}
use Rattle.std.specs.Option.{option_map_or}
use Rattle.std.specs.Str.{is_utf8}
use Rattle.std.proofs.lemmas.Bool.{cond_both}
use Rattle.simd_json_parts.specs.Answer.{answer, padded_answer, fault_or}
use Rattle.simd_json_parts.specs.AtomAt.{atom_at, atom_or}
use Rattle.simd_json_parts.specs.Bytes.{quote, lower_u, is_whitespace, is_terminator, byte_at}
use Rattle.simd_json_parts.specs.Derivatives.{matches, longest_prefix}
use Rattle.simd_json_parts.specs.Descent.{◌>>=◌, Reads, after_element, element_end, elements_from, elements_by, first_element}
use Rattle.simd_json_parts.specs.Descent.{array_from, name_of, name_from, after_name, name_end, after_member, member_end}
use Rattle.simd_json_parts.specs.Descent.{members_from, members_by, first_member, object_from, value_of, value_with, too_deep}
use Rattle.simd_json_parts.specs.Descent.{value_from, is_container, last_index, root_end, descent}
use Rattle.simd_json_parts.specs.Document.{Document, Elements, Members, boolean, null, integer, decimal}
use Rattle.simd_json_parts.specs.FaultKinds.{is_token_kind, IsOfInput, IsOfToken, IsNamedFault}
use Rattle.simd_json_parts.specs.Faults.{fault_at, whole_fault}
use Rattle.simd_json_parts.specs.InputFaults.{input_fault, has_bad_string, input_padding}
use Rattle.simd_json_parts.specs.Integers.{max_magnitude}
use Rattle.simd_json_parts.specs.Limits.{max_length}
use Rattle.simd_json_parts.specs.NumberAt.{number_at, number_between, integer_or, first_excess}
use Rattle.simd_json_parts.specs.Numbers.{number_literal, integer_literal, has_minus, magnitude}
use Rattle.simd_json_parts.specs.Positions.{positions}
use Rattle.simd_json_parts.specs.StringAt.{closing_quote, read_pieces, string_read, string_at}
use Rattle.simd_json_parts.specs.Tokens.{Token, Form, begin_array, end_array, begin_object, end_object, name_separator}
use Rattle.simd_json_parts.specs.Tokens.{value_separator, string_token, scalar, form_at, form_end, tokens_from, tokens}
use Rattle.simd_json_parts.specs.declared.error.Error.{Error}
use Rattle.simd_json_parts.specs.declared.error.ErrorType.{ErrorType}
use Rattle.simd_json_parts.specs.declared.error.ErrorType.TheVariants.{InternalError, TrailingData, ExpectedTrue, ExpectedFalse}
use Rattle.simd_json_parts.specs.declared.error.ErrorType.TheVariants.{ExpectedNull, ExpectedObjectContent, ExpectedObjectKey}
use Rattle.simd_json_parts.specs.declared.error.ErrorType.TheVariants.{InvalidNumber, InvalidEscape, InvalidUnicodeCodepoint}
use Rattle.simd_json_parts.specs.declared.error.ErrorType.TheVariants.{Syntax, InputTooLarge, InvalidUtf8, Eof, InsufficientPadding}

-- what is read has the property, or the fault is of a token
abbrev OkOrOfToken : {A : Type 0} → Result A Error → (A → Type 0) → Type 0
OkOrOfToken r P = MatchResult r P IsOfToken

bind-OkOrOfToken : {A B : Type 0} (r : Result A Error) (f : A → Result B Error) (P : A → Type 0) (Q : B → Type 0) → OkOrOfToken r P
    → ((x : A) → P x → OkOrOfToken (f x) Q) → OkOrOfToken (r >>= f) Q
bind-OkOrOfToken (Ok x) f P Q h step = step x h
bind-OkOrOfToken (Err e) f P Q h step = h

-- ---- the faults that a token has

-- the token's string or scalar is read, or has such a fault
abbrev FormNamed : Form → Type 0
FormNamed (string_token read) = OkOrOfToken read (λ _. ⊤)
FormNamed (scalar read) = OkOrOfToken read (λ _. ⊤)
FormNamed _ = ⊤

abbrev AreNamed : List Token → Type 0
AreNamed [] = ⊤
AreNamed (t ∷ ts) = FormNamed t.form × AreNamed ts

-- a scalar or a string
abbrev IsNamedRead : {A : Type 0} → Result A Error → Type 0
IsNamedRead read = OkOrOfToken read (λ _. ⊤)

module _ (b : List ℕ) where
  letters-named : (letters : List ℕ) (d : Document) (kind : ErrorType) (i : ℕ) → IsTrue (is_token_kind kind)
      → IsNamedRead (atom_or letters d kind b i)
  letters-named letters d kind i named =
      cond_both (starts_with nat_eq (drop i b) letters && is_terminator (byte_at b (i + length letters)))
      (Ok (d, i + length letters)) (Err (fault_at b kind i)) IsNamedRead
      (λ _. tt) (λ _. (named, refl))

  atom-named : (i : ℕ) → IsNamedRead (atom_at b i)
  unfolding atom_at
  atom-named i =
      cond_both (byte_at b i == 116) _ _ IsNamedRead (λ _. letters-named (codes "true") (boolean true) ExpectedTrue i refl)
      (λ _. cond_both (byte_at b i == 102) _ _ IsNamedRead (λ _. letters-named (codes "false") (boolean false) ExpectedFalse i refl)
      (λ _. letters-named (codes "null") null ExpectedNull i refl))

  integer-named : (i : ℕ) (literal : List ℕ) (end : ℕ) (excess : Option ℕ) → IsNamedRead (integer_or b i literal end excess)
  integer-named i literal end (Some k) = (refl, refl)
  integer-named i literal end None =
      cond_both (nat_lt (max_magnitude (has_minus literal)) (magnitude literal)) (Err (fault_at b InvalidNumber end))
      (Ok (integer (has_minus literal) (magnitude literal), end)) IsNamedRead
      (λ _. (refl, refl)) (λ _. tt)

  between-named : (i : ℕ) (literal : List ℕ) (end : ℕ) → IsNamedRead (number_between b i literal end)
  between-named i literal end =
      cond_both (matches number_literal literal && is_terminator (byte_at b end)) _ (Err (fault_at b InvalidNumber end)) IsNamedRead
      (λ _. cond_both (matches integer_literal literal) (integer_or b i literal end (first_excess literal))
      (Ok (decimal literal, end)) IsNamedRead
      (λ _. integer-named i literal end (first_excess literal)) (λ _. tt)) (λ _. (refl, refl))

  number-named : (i : ℕ) → IsNamedRead (number_at b i)
  unfolding number_at
  number-named i = let n : ℕ = longest_prefix number_literal (drop i b) in between-named i (take n (drop i b)) (i + n)

  read-named : (read : List ℕ × List ℕ) (end : ℕ) → IsNamedRead (string_read read end)
  read-named (t, []) end = tt
  read-named (t, x ∷ left) end = (
    cond_both (byte_at left 0 == lower_u) InvalidUnicodeCodepoint InvalidEscape
        (λ kind. IsTrue (is_token_kind kind)) (λ _. refl) (λ _. refl),
    refl,
  )

  string-named : (i : ℕ) → IsNamedRead (string_at b i)
  unfolding string_at
  string-named i = read-named (read_pieces 0 (slice_range b (suc i) (closing_quote b i))) (closing_quote b i)

  form-named : (i : ℕ) → FormNamed (form_at b i)
  unfolding form_at
  form-named i =
      structural 91 begin_array _ tt (structural 93 end_array _ tt (structural 123 begin_object _ tt
      (structural 125 end_object _ tt (structural 58 name_separator _ tt (structural 44 value_separator _ tt
      (cond_both (x == quote) _ _ FormNamed (λ _. string-named i)
      (λ _. cond_both ((x == 116) || (x == 102) || (x == 110)) _ _ FormNamed (λ _. atom-named i)
      (λ _. cond_both ((x == 45) || (nat_le 48 x && nat_le x 57)) _ _ FormNamed (λ _. number-named i) (λ _. tt)))))))))
    where
      x : ℕ
      x = byte_at b i

      structural : (c : ℕ) (form other : Form) → FormNamed form → FormNamed other → FormNamed (if byte_at b i == c then form else other)
      structural c form other named after = cond_both (byte_at b i == c) form other FormNamed (λ _. named) (λ _. after)

  after_token-named : (i : ℕ) (end : Option ℕ) (more : ℕ → List Token) → ((n : ℕ) → AreNamed (more n))
      → AreNamed (option_map_or (λ end. more (end - suc i)) end [])
  after_token-named i None more named = tt
  after_token-named i (Some end) more named = named (end - suc i)

  tokens_from-named : (i skip : ℕ) (bs : List ℕ) → AreNamed (tokens_from b i skip bs)
  unfolding tokens_from
  tokens_from-named i skip [] = tt
  tokens_from-named i (suc skip) (x ∷ bs) = tokens_from-named (suc i) skip bs
  tokens_from-named i zero (x ∷ bs) =
      cond_both (is_whitespace x) _ _ AreNamed (λ _. tokens_from-named (suc i) 0 bs)
      (λ _. (
        form-named i,
        after_token-named i (form_end i (form_at b i)) (λ n. tokens_from b (suc i) n bs) (λ n. tokens_from-named (suc i) n bs),
      ))

-- ---- the faults of the descent

-- a reader of such tokens
abbrev ReadsNamed : {A : Type 0} → Reads A → Type 0
ReadsNamed reads = (ts : List Token) → AreNamed ts → OkOrOfToken (reads ts) (λ p. AreNamed p.1)

module _ (b : List ℕ) (missing : Error) (missed : IsOfToken missing) where
  module _ (value : Reads Document) (named : ReadsNamed value) where
    element_end-named : (more : Reads Elements) → ReadsNamed more → ReadsNamed (λ ts. element_end b missing ts more)
    element_end-named more row [] h = missed
    element_end-named more row (t ∷ ts) h = go t.form
      where
        go : (form : Form) → OkOrOfToken (after_element b missing t form ts more) (λ p. AreNamed p.1)
        go value_separator = row ts h.1
        go end_array = h.1
        go _ = (refl, refl)

    elements_from-named : (turns : ℕ) → ReadsNamed (elements_from b missing value turns)
    unfolding elements_from
    elements_from-named zero ts h = missed
    elements_from-named (suc turns) ts h =
        bind-OkOrOfToken (value ts) _ (λ p. AreNamed p.1) (λ p. AreNamed p.1) (named ts h)
        (λ first k. bind-OkOrOfToken (element_end b missing first.1 (elements_from b missing value turns)) _
        (λ p. AreNamed p.1) (λ p. AreNamed p.1)
        (element_end-named (elements_from b missing value turns) (elements_from-named turns) first.1 k) (λ rest m. m))

    array_from-named : ReadsNamed (array_from b missing value)
    array_from-named [] h = missed
    array_from-named (t ∷ ts) h = go t.form
      where
        go : (form : Form) → OkOrOfToken (first_element b missing form (t ∷ ts) ts (elements_by b missing value)) (λ p. AreNamed p.1)
        go end_array = h.1
        go _ = elements_from-named _ (t ∷ ts) h

    name_from-named : (kind : ErrorType) → IsTrue (is_token_kind kind) → ReadsNamed (name_from b missing kind)
    name_from-named kind is [] h = missed
    name_from-named kind is (t ∷ ts) h = go t.form h.0
      where
        go : (form : Form) → FormNamed form
            → OkOrOfToken {A = List ℕ × List Token} (name_of b missing kind t form >>= λ name. Ok (name.0, ts)) (λ p. AreNamed p.1)
        go (string_token (Ok r)) f = h.1
        go (string_token (Err e)) f = f
        go _ f = (is, refl)

    name_end-named : (ts : List Token) → AreNamed ts → OkOrOfToken (name_end b missing ts) AreNamed
    name_end-named [] h = missed
    name_end-named (t ∷ ts) h = go t.form
      where
        go : (form : Form) → OkOrOfToken (after_name b missing t form ts) AreNamed
        go name_separator = h.1
        go _ = (refl, refl)

    member_end-named : (more : Reads Members) → ReadsNamed more → ReadsNamed (λ ts. member_end b missing ts more)
    member_end-named more row [] h = missed
    member_end-named more row (t ∷ ts) h = go t.form
      where
        go : (form : Form) → OkOrOfToken (after_member b missing t form ts more) (λ p. AreNamed p.1)
        go value_separator = row ts h.1
        go end_object = h.1
        go _ = (refl, refl)

    members_from-named : (turns : ℕ) (kind : ErrorType) → IsTrue (is_token_kind kind) → ReadsNamed (members_from b missing value turns kind)
    unfolding members_from
    members_from-named zero kind is ts h = missed
    members_from-named (suc turns) kind is ts h =
        bind-OkOrOfToken (name_from b missing kind ts) _ (λ p. AreNamed p.1) (λ p. AreNamed p.1) (name_from-named kind is ts h)
        (λ name n. bind-OkOrOfToken (name_end b missing name.1) _ AreNamed (λ p. AreNamed p.1) (name_end-named name.1 n)
        (λ colon c. bind-OkOrOfToken (value colon) _ (λ p. AreNamed p.1) (λ p. AreNamed p.1) (named colon c)
        (λ first k. bind-OkOrOfToken (member_end b missing first.1 (members_from b missing value turns ExpectedObjectKey)) _
        (λ p. AreNamed p.1) (λ p. AreNamed p.1)
        (member_end-named (members_from b missing value turns ExpectedObjectKey)
        (members_from-named turns ExpectedObjectKey refl) first.1 k) (λ rest m. m))))

    object_from-named : ReadsNamed (object_from b missing value)
    object_from-named [] h = missed
    object_from-named (t ∷ ts) h = go t.form
      where
        go : (form : Form) → OkOrOfToken
            (first_member b missing form (t ∷ ts) ts (members_by b missing value ExpectedObjectContent)) (λ p. AreNamed p.1)
        go end_object = h.1
        go _ = members_from-named _ ExpectedObjectContent refl (t ∷ ts) h

  value_with-named : (arrays : Token → Reads Elements) (objects : Token → Reads Members) → ((t : Token) → ReadsNamed (arrays t))
      → ((t : Token) → ReadsNamed (objects t)) → ReadsNamed (value_with b missing arrays objects)
  value_with-named arrays objects a o [] h = missed
  value_with-named arrays objects a o (t ∷ ts) h = go t.form h.0
    where
      go : (form : Form) → FormNamed form → OkOrOfToken (value_of b missing arrays objects t form ts) (λ p. AreNamed p.1)
      go begin_array f = bind-OkOrOfToken (arrays t ts) _ (λ p. AreNamed p.1) (λ p. AreNamed p.1) (a t ts h.1) (λ inner k. k)
      go begin_object f = bind-OkOrOfToken (objects t ts) _ (λ p. AreNamed p.1) (λ p. AreNamed p.1) (o t ts h.1) (λ inner k. k)
      go (string_token (Ok r)) f = h.1
      go (string_token (Err e)) f = f
      go (scalar (Ok r)) f = h.1
      go (scalar (Err e)) f = f
      go _ f = (refl, refl)

  value_from-named : (levels : ℕ) → ReadsNamed (value_from b missing levels)
  unfolding value_from
  value_from-named zero = value_with-named (too_deep b missing) (too_deep b missing) (λ t ts h. (refl, refl)) (λ t ts h. (refl, refl))
  value_from-named (suc levels) =
      value_with-named _ _ (λ _. array_from-named (value_from b missing levels) (value_from-named levels))
      (λ _. object_from-named (value_from b missing levels) (value_from-named levels))

-- Each fault of the descent is of a token.
descent-named : (b : List ℕ) (limit : ℕ) → OkOrOfToken (descent b limit) (λ _. ⊤)
unfolding descent
descent-named b limit =
    let missing : Error = fault_at b Syntax (last_index (tokens b)) in
    bind-OkOrOfToken (value_from b missing limit (tokens b)) (root_end b (tokens b)) (λ p. AreNamed p.1) (λ _. ⊤)
    (value_from-named b missing (refl, refl) limit (tokens b) (tokens_from-named b 0 0 b)) root
  where
    root : (p : Document × List Token) → AreNamed p.1 → OkOrOfToken (root_end b (tokens b) p) (λ _. ⊤)
    root (d, []) h = tt
    root (d, t ∷ rest) h =
        (cond_both (is_container d) InternalError TrailingData (λ kind. IsTrue (is_token_kind kind)) (λ _. refl) (λ _. refl), refl)

pub token-fault : (b : List ℕ) (limit : ℕ) (e : Error) → descent b limit ≡ Err e → IsOfToken e
token-fault b limit e is = subst (λ r. OkOrOfToken r (λ _. ⊤)) is (descent-named b limit)

-- ---- the faults of a whole input

by_size-named : (large malformed bad none : Bool)
    → IfSome (if large then Some (whole_fault InputTooLarge) else if malformed then Some (whole_fault InvalidUtf8)
    else if bad then Some (whole_fault Syntax) else if none then Some (whole_fault Eof) else None) IsOfInput
by_size-named false false false false = tt
by_size-named large malformed bad none = (refl, refl)

input-named : (b : List ℕ) → IfSome (input_fault b) IsOfInput
unfolding input_fault
input-named b = by_size-named (nat_lt max_length (length b)) (not (is_utf8 b)) (has_bad_string b) (length (positions b) == 0)

pub input-fault : (b : List ℕ) (e : Error) → input_fault b ≡ Some e → IsOfInput e
input-fault b e is = subst (λ o. IfSome o IsOfInput) is (input-named b)

-- ---- both

first-named : (o : Option Error) (r : Result Document Error) → IfSome o IsOfInput → OkOrOfToken r (λ _. ⊤)
    → IfErr (fault_or o r) IsNamedFault
first-named (Some e) r named h = inl named
first-named None (Ok d) named h = tt
first-named None (Err e) named h = inr h

answer-named : (b : List ℕ) (limit : ℕ) → IfErr (answer b limit) IsNamedFault
unfolding answer
answer-named b limit = first-named (input_fault b) (descent b limit) (input-named b) (descent-named b limit)

pub answer-fault : (b : List ℕ) (limit : ℕ) (e : Error) → answer b limit ≡ Err e → IsNamedFault e
answer-fault b limit e is = subst (λ r. IfErr r IsNamedFault) is (answer-named b limit)

-- or padding is lacking
pub padded-fault : (s : List ℕ) (len limit : ℕ) (e : Error) → padded_answer s len limit ≡ Err e
    → IsNamedFault e ⊎ (e ≡ whole_fault InsufficientPadding)
padded-fault s len limit e is = subst (λ r. IfErr r IsPaddedFault) is whole
  where
    IsPaddedFault : Error → Type 0
    IsPaddedFault e = IsNamedFault e ⊎ (e ≡ whole_fault InsufficientPadding)

    enough : (r : Result Document Error) → IfErr r IsNamedFault → IfErr r IsPaddedFault
    enough (Ok d) h = tt
    enough (Err e) h = inl h

    whole : IfErr (padded_answer s len limit) IsPaddedFault
    whole =
        cond_both (nat_lt (length s) (len + input_padding)) _ _ (λ o. IfErr (fault_or o (answer (take len s) limit)) IsPaddedFault)
        (λ _. inr refl) (λ _. enough (answer (take len s) limit) (answer-named (take len s) limit))
