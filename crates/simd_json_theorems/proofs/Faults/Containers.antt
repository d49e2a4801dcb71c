-- What the faults of the readers of an array and of an object report.
use Rattle.std.proofs.Common.{◌≡◌, ◌≢◌, refl, subst, ℕ, zero, suc, ◌≤◌, inl, inr, List, [], ◌∷◌, ◌++◌, length, arith}
use Rattle.std.specs.Prelude.{Ok, Err}
use Rattle.simd_json_parts.specs.Bytes.{quote, comma, colon, right_bracket, right_brace, byte_at}
use Rattle.simd_json_parts.specs.Document.{Document, Elements, Members}
use Rattle.simd_json_parts.specs.FaultKinds.{IsBeginning}
use Rattle.simd_json_parts.specs.Strings.{IsStringLiteral}
use Rattle.simd_json_parts.specs.StringAt.{string_at}
use Rattle.simd_json_parts.specs.Tokens.{Token, Form, form_at, end_array, end_object, name_separator, value_separator, string_token}
use Rattle.simd_json_parts.specs.Descent.{◌>>=◌, Reads, after_element, element_end, elements_from, elements_by, first_element, array_from}
use Rattle.simd_json_parts.specs.Descent.{name_of, name_from, after_name, name_end, after_member, member_end}
use Rattle.simd_json_parts.specs.Descent.{members_from, members_by, first_member, object_from}
use Rattle.simd_json_parts.specs.declared.error.Error.{Error}
use Rattle.simd_json_parts.specs.declared.error.ErrorType.{ErrorType}
use Rattle.simd_json_parts.specs.declared.error.ErrorType.TheVariants.{ExpectedArrayContent, ExpectedObjectKey, ExpectedObjectContent}
use Rattle.simd_json_parts.specs.declared.error.ErrorType.TheVariants.{ExpectedObjectColon}
use Rattle.simd_json_theorems.proofs.Containers.{Container, in_array, in_object, IsName}
use Rattle.simd_json_theorems.proofs.Faults.RowFollows.{RestThen, MoreThen, NextThen, FirstThen, rest-CanFollow, rest-byte}
use Rattle.simd_json_theorems.proofs.Faults.RowFollows.{first-next, next-NoSpace, bracket_closes, comma_goes_on, empty_closes}
use Rattle.simd_json_theorems.proofs.Faults.NameFollows.{named_then-some, named_then-byte, named_then-NoSpace, name_then-byte, name_goes_on}
use Rattle.simd_json_theorems.proofs.Faults.Follows.{ValueThen, CanFollow, LeadsTo, value_then-NoSpace, value_then-some, item_then-some}
use Rattle.simd_json_theorems.proofs.Faults.ScalarFollows.{LeadsTo-name}
use Rattle.simd_json_theorems.proofs.Faults.Expectations.{Expects, ExpectsAt}
use Rattle.simd_json_theorems.proofs.Sound.FaultsWithin.{IsString}
use Rattle.simd_json_theorems.proofs.Sound.SpelledTokens.{Owned}
use Rattle.simd_json_theorems.proofs.Sound.TokensInPlace.{FormInPlace, AreHere}
use Rattle.simd_json_theorems.proofs.Faults.AtTokens.{Took, took-one, took-more, took-fewer, Reported, OkOrReported, bind-OkOrReported}
use Rattle.simd_json_theorems.proofs.Faults.AtTokens.{weaken-OkOrReported, Next, next-more, IsBeginning-whole, token-reported}
use Rattle.simd_json_theorems.proofs.Faults.AtTokens.{within-reported, expects-token, expects-own, expects-narrow, form-byte}

-- a reader of values, with what its faults report
abbrev pub ValueReported : List ℕ → Reads Document → Type 1
ValueReported b value = (A : List ℕ → Type 0) → CanFollow A → (k : ℕ) (ts : List Token) → Expects b (ValueThen A) k → AreHere b ts k
    → OkOrReported b (value ts) (λ p. Next b A ts p.1)

-- A closing bracket leads to what follows the container.
closed : (b : List ℕ) (c : Container) (A Q : List ℕ → Type 0) → CanFollow A → (t : Token) (ts : List Token) → ExpectsAt b Q t.index
    → Owned b t.index (λ xs. xs ≡ c.last ∷ []) (suc t.index) → AreHere b ts (suc t.index)
    → LeadsTo Q (c.last ∷ []) A (byte_at b (suc t.index)) → Next b A (t ∷ ts) ts
closed b c A Q a t ts at o after leads = record {
  at = suc t.index;
  expects = expects-own b Q A t.index (suc t.index) o.own [] c.last at o.split o.holds leads (λ bs h. (a.delimited bs h).1);
  here = after;
  took = took-one t ts;
}

-- ---- arrays

-- Given that the fault of a missing token is so where the whole input is a beginning.
module _ (b : List ℕ) (missing : Error) (missed : IsBeginning b → Reported b missing) (value : Reads Document)
    (reported : ValueReported b value) (A : List ℕ → Type 0) (a : CanFollow A) where
  -- After an element,
  element_end-reported : (more : Reads Elements) (turns : ℕ)
      → ((k : ℕ) (us : List Token) → length us ≤ turns → Expects b (ValueThen (RestThen in_array A)) k → AreHere b us k
      → OkOrReported b (more us) (λ p. Next b A us p.1))
      → (k : ℕ) (ts : List Token) → length ts ≤ suc turns → Expects b (RestThen in_array A) k → AreHere b ts k
      → OkOrReported b (element_end b missing ts more) (λ p. Next b A ts p.1)
  element_end-reported more turns row k [] l x h =
      missed (IsBeginning-whole b (RestThen in_array A) k x (rest-CanFollow in_array A a).some h)
  element_end-reported more turns row k (t ∷ ts) l x h = go t.form h.form h.stands
    where
      at : ExpectsAt b (RestThen in_array A) t.index
      at = expects-token b (RestThen in_array A) t (AreHere b ts) k x h

      go : (form : Form) → form_at b t.index ≡ form → FormInPlace b form (AreHere b ts) t.index
          → OkOrReported b (after_element b missing t form ts more) (λ p. Next b A (t ∷ ts) p.1)
      go value_separator is (o, after) =
          weaken-OkOrReported b (more ts) (λ p. Next b A ts p.1) (λ p. Next b A (t ∷ ts) p.1)
          (λ p n. next-more b A (t ∷ ts) ts p.1 (took-one t ts) n)
          (row (suc t.index) ts (omega arith)
          (expects-own b (RestThen in_array A) (ValueThen (RestThen in_array A)) t.index (suc t.index) o.own [] comma at o.split o.holds
          (comma_goes_on in_array A (byte_at b (suc t.index))) (value_then-NoSpace (RestThen in_array A))) after)
      go end_array is (o, after) =
          closed b in_array A (RestThen in_array A) a t ts at o after (bracket_closes in_array A (byte_at b (suc t.index)))
      go _ is _ =
          token-reported b (RestThen in_array A) (rest-CanFollow in_array A a).some t.index ExpectedArrayContent at h.within
          (λ _ rest q. elim (rest-byte in_array A (byte_at b t.index) rest q) [
            | inl e ↦ let f : form_at b t.index ≡ end_array = form-byte b t.index right_bracket end_array refl e in cc
            | inr e ↦ let f : form_at b t.index ≡ value_separator = form-byte b t.index comma value_separator refl e in cc
          ])

  -- in a row of elements,
  elements_from-reported : (turns k : ℕ) (ts : List Token) → length ts ≤ turns → Expects b (NextThen in_array A) k → AreHere b ts k
      → OkOrReported b (elements_from b missing value turns ts) (λ p. Next b A ts p.1)
  unfolding elements_from
  elements_from-reported zero k [] l x h = missed
      (IsBeginning-whole b (NextThen in_array A) k x (value_then-some (RestThen in_array A) (rest-CanFollow in_array A a).some) h)
  elements_from-reported zero k (t ∷ ts) l x h = absurd (omega (arith, l))
  elements_from-reported (suc turns) k ts l x h =
      bind-OkOrReported b (value ts) _ (λ p. Next b (RestThen in_array A) ts p.1) (λ p. Next b A ts p.1)
      (reported (RestThen in_array A) (rest-CanFollow in_array A a) k ts x h)
      (λ first n. bind-OkOrReported b (element_end b missing first.1 (elements_from b missing value turns)) _
      (λ p. Next b A first.1 p.1) (λ p. Next b A ts p.1)
      (element_end-reported (elements_from b missing value turns) turns (elements_from-reported turns) n.at first.1
      (omega (arith, l, took-fewer ts first.1 n.took)) n.expects n.here)
      (λ rest m. next-more b A ts first.1 rest.1 n.took m))

  -- and after an opening bracket.
  pub array_from-reported : (k : ℕ) (ts : List Token) → Expects b (FirstThen in_array A) k → AreHere b ts k
      → OkOrReported b (array_from b missing value ts) (λ p. Next b A ts p.1)
  array_from-reported k [] x h =
      let some : (bs : List ℕ) × NextThen in_array A bs = value_then-some (RestThen in_array A) (rest-CanFollow in_array A a).some in
      missed (IsBeginning-whole b (FirstThen in_array A) k x (some.0, inr some.1) h)
  array_from-reported k (t ∷ ts) x h = go t.form h.form h.stands
    where
      -- elements, where no closing bracket stands
      row : byte_at b t.index ≢ right_bracket
          → OkOrReported b (elements_from b missing value (length (t ∷ ts)) (t ∷ ts)) (λ p. Next b A (t ∷ ts) p.1)
      row other =
          elements_from-reported (length (t ∷ ts)) k (t ∷ ts) (omega arith)
          (expects-narrow b (FirstThen in_array A) (ValueThen (RestThen in_array A)) t (AreHere b ts) k x h (λ rest v. inr v)
          (λ rest. first-next in_array A (byte_at b t.index) rest other)) h

      go : (form : Form) → form_at b t.index ≡ form → FormInPlace b form (AreHere b ts) t.index
          → OkOrReported b (first_element b missing form (t ∷ ts) ts (elements_by b missing value)) (λ p. Next b A (t ∷ ts) p.1)
      go end_array is (o, after) =
          closed b in_array A (FirstThen in_array A) a t ts (expects-token b (FirstThen in_array A) t (AreHere b ts) k x h) o after
          (empty_closes in_array A (byte_at b (suc t.index)))
      go _ is _ = row (λ e. let f : form_at b t.index ≡ end_array = form-byte b t.index right_bracket end_array refl e in cc)

-- ---- objects

module _ (b : List ℕ) (missing : Error) (missed : IsBeginning b → Reported b missing) where
  -- ---- names

  module _ (A : List ℕ → Type 0) (a : CanFollow A) where
    -- some name, and what follows it
    name-some : (xs : List ℕ) → IsString xs → (rest : List ℕ) × NextThen in_object A (xs ++ rest)
    name-some xs (t, is) = item_then-some (List ℕ) IsName (MoreThen in_object A) (named_then-some A a) t xs is

    some-name : (bs : List ℕ) × NextThen in_object A bs
    some-name =
        let empty : IsStringLiteral (quote ∷ quote ∷ []) [] = ([], [], refl, refl, refl) in
        let h : (rest : List ℕ) × NextThen in_object A ((quote ∷ quote ∷ []) ++ rest) = name-some (quote ∷ quote ∷ []) ([], empty) in
        ((quote ∷ quote ∷ []) ++ h.0, h.1)

    -- After the bytes of a name its value is expected.
    expects-named : (j end : ℕ) (name : List ℕ) → ExpectsAt b (NextThen in_object A) j → Owned b j (λ xs. IsStringLiteral xs name) end
        → Expects b (MoreThen in_object A) end
    expects-named j end name x o =
        let same : o.own ≡ quote ∷ (o.holds.0 ++ quote ∷ []) = o.holds.2 in
        expects-own b (NextThen in_object A) (MoreThen in_object A) j end o.own (o.holds.0 ++ quote ∷ []) quote x o.split same
        (LeadsTo-name (MoreThen in_object A) name (quote ∷ (o.holds.0 ++ quote ∷ [])) (byte_at b end)
        (subst (λ xs. IsStringLiteral xs name) same o.holds)) (named_then-NoSpace A)

    -- At a name,
    name_from-reported : (kind : ErrorType) (k : ℕ) (ts : List Token) → Expects b (NextThen in_object A) k → AreHere b ts k
        → OkOrReported b (name_from b missing kind ts) (λ p. Next b (MoreThen in_object A) ts p.1)
    name_from-reported kind k [] x h = missed (IsBeginning-whole b (NextThen in_object A) k x some-name h)
    name_from-reported kind k (t ∷ ts) x h = go t.form h.form h.stands
      where
        at : ExpectsAt b (NextThen in_object A) t.index
        at = expects-token b (NextThen in_object A) t (AreHere b ts) k x h

        go : (form : Form) → form_at b t.index ≡ form → FormInPlace b form (AreHere b ts) t.index
            → OkOrReported b {A = List ℕ × List Token} (name_of b missing kind t form >>= λ name. Ok (name.0, ts))
            (λ p. Next b (MoreThen in_object A) (t ∷ ts) p.1)
        go (string_token (Ok r)) is (o, after) =
            record { at = r.1; expects = expects-named t.index r.1 r.0 at o; here = after; took = took-one t ts }
        go (string_token (Err e)) is f = within-reported b (NextThen in_object A) IsString t.index e at name-some f
        go _ is _ =
            token-reported b (NextThen in_object A) some-name t.index kind at h.within
            (λ _ rest q. let f : form_at b t.index ≡ string_token (string_at b t.index) = form-byte b t.index quote
            (string_token (string_at b t.index)) refl (name_then-byte A (byte_at b t.index) rest q) in cc)

    -- and after it.
    name_end-reported : (k : ℕ) (ts : List Token) → Expects b (MoreThen in_object A) k → AreHere b ts k
        → OkOrReported b (name_end b missing ts) (λ us. Next b (ValueThen (RestThen in_object A)) ts us)
    name_end-reported k [] x h = missed (IsBeginning-whole b (MoreThen in_object A) k x (named_then-some A a) h)
    name_end-reported k (t ∷ ts) x h = go t.form h.form h.stands
      where
        at : ExpectsAt b (MoreThen in_object A) t.index
        at = expects-token b (MoreThen in_object A) t (AreHere b ts) k x h

        go : (form : Form) → form_at b t.index ≡ form → FormInPlace b form (AreHere b ts) t.index
            → OkOrReported b (after_name b missing t form ts) (λ us. Next b (ValueThen (RestThen in_object A)) (t ∷ ts) us)
        go name_separator is (o, after) = record {
          at = suc t.index;
          expects = expects-own b (MoreThen in_object A) (ValueThen (RestThen in_object A)) t.index (suc t.index) o.own [] colon at
              o.split o.holds
              (name_goes_on A (byte_at b (suc t.index))) (value_then-NoSpace (RestThen in_object A));
          here = after;
          took = took-one t ts;
        }
        go _ is _ =
            token-reported b (MoreThen in_object A) (named_then-some A a) t.index ExpectedObjectColon at h.within
            (λ _ rest q. let f : form_at b t.index ≡ name_separator = form-byte b t.index colon name_separator refl
            (named_then-byte A (byte_at b t.index) rest q) in cc)

  -- ---- members

  module _ (value : Reads Document) (reported : ValueReported b value) (A : List ℕ → Type 0) (a : CanFollow A) where
    -- After a member,
    member_end-reported : (more : Reads Members) (turns : ℕ)
        → ((k : ℕ) (us : List Token) → length us ≤ turns → Expects b (NextThen in_object A) k → AreHere b us k
        → OkOrReported b (more us) (λ p. Next b A us p.1))
        → (k : ℕ) (ts : List Token) → length ts ≤ suc turns → Expects b (RestThen in_object A) k → AreHere b ts k
        → OkOrReported b (member_end b missing ts more) (λ p. Next b A ts p.1)
    member_end-reported more turns row k [] l x h =
        missed (IsBeginning-whole b (RestThen in_object A) k x (rest-CanFollow in_object A a).some h)
    member_end-reported more turns row k (t ∷ ts) l x h = go t.form h.form h.stands
      where
        at : ExpectsAt b (RestThen in_object A) t.index
        at = expects-token b (RestThen in_object A) t (AreHere b ts) k x h

        go : (form : Form) → form_at b t.index ≡ form → FormInPlace b form (AreHere b ts) t.index
            → OkOrReported b (after_member b missing t form ts more) (λ p. Next b A (t ∷ ts) p.1)
        go value_separator is (o, after) =
            weaken-OkOrReported b (more ts) (λ p. Next b A ts p.1) (λ p. Next b A (t ∷ ts) p.1)
            (λ p n. next-more b A (t ∷ ts) ts p.1 (took-one t ts) n)
            (row (suc t.index) ts (omega arith)
            (expects-own b (RestThen in_object A) (NextThen in_object A) t.index (suc t.index) o.own [] comma at o.split o.holds
            (comma_goes_on in_object A (byte_at b (suc t.index))) (next-NoSpace in_object A)) after)
        go end_object is (o, after) =
            closed b in_object A (RestThen in_object A) a t ts at o after (bracket_closes in_object A (byte_at b (suc t.index)))
        go _ is _ =
            token-reported b (RestThen in_object A) (rest-CanFollow in_object A a).some t.index ExpectedObjectContent at h.within
            (λ _ rest q. elim (rest-byte in_object A (byte_at b t.index) rest q) [
              | inl e ↦ let f : form_at b t.index ≡ end_object = form-byte b t.index right_brace end_object refl e in cc
              | inr e ↦ let f : form_at b t.index ≡ value_separator = form-byte b t.index comma value_separator refl e in cc
            ])

    -- in a row of members,
    members_from-reported : (turns : ℕ) (kind : ErrorType) (k : ℕ) (ts : List Token) → length ts ≤ turns
        → Expects b (NextThen in_object A) k → AreHere b ts k
        → OkOrReported b (members_from b missing value turns kind ts) (λ p. Next b A ts p.1)
    unfolding members_from
    members_from-reported zero kind k [] l x h = missed (IsBeginning-whole b (NextThen in_object A) k x (some-name A a) h)
    members_from-reported zero kind k (t ∷ ts) l x h = absurd (omega (arith, l))
    members_from-reported (suc turns) kind k ts l x h =
        bind-OkOrReported b (name_from b missing kind ts) _ (λ p. Next b (MoreThen in_object A) ts p.1) (λ p. Next b A ts p.1)
        (name_from-reported A a kind k ts x h)
        (λ name n. bind-OkOrReported b (name_end b missing name.1) _ (λ us. Next b (ValueThen (RestThen in_object A)) name.1 us)
        (λ p. Next b A ts p.1) (name_end-reported A a n.at name.1 n.expects n.here)
        (λ us c. bind-OkOrReported b (value us) _ (λ p. Next b (RestThen in_object A) us p.1) (λ p. Next b A ts p.1)
        (reported (RestThen in_object A) (rest-CanFollow in_object A a) c.at us c.expects c.here)
        (λ first v.
        let took : Took ts first.1 = took-more ts name.1 first.1 n.took (took-more name.1 us first.1 c.took v.took) in
        bind-OkOrReported b (member_end b missing first.1 (members_from b missing value turns ExpectedObjectKey)) _
        (λ p. Next b A first.1 p.1) (λ p. Next b A ts p.1)
        (member_end-reported (members_from b missing value turns ExpectedObjectKey) turns
        (members_from-reported turns ExpectedObjectKey) v.at first.1
        (omega (arith, l, took-fewer ts first.1 took)) v.expects v.here)
        (λ rest m. next-more b A ts first.1 rest.1 took m))))

    -- and after an opening brace.
    pub object_from-reported : (k : ℕ) (ts : List Token) → Expects b (FirstThen in_object A) k → AreHere b ts k
        → OkOrReported b (object_from b missing value ts) (λ p. Next b A ts p.1)
    object_from-reported k [] x h = missed (IsBeginning-whole b (FirstThen in_object A) k x ((some-name A a).0, inr (some-name A a).1) h)
    object_from-reported k (t ∷ ts) x h = go t.form h.form h.stands
      where
        -- members, where no closing brace stands
        row : byte_at b t.index ≢ right_brace → OkOrReported b
            (members_from b missing value (length (t ∷ ts)) ExpectedObjectContent (t ∷ ts)) (λ p. Next b A (t ∷ ts) p.1)
        row other =
            members_from-reported (length (t ∷ ts)) ExpectedObjectContent k (t ∷ ts) (omega arith)
            (expects-narrow b (FirstThen in_object A) (NextThen in_object A) t (AreHere b ts) k x h (λ rest v. inr v)
            (λ rest. first-next in_object A (byte_at b t.index) rest other)) h

        go : (form : Form) → form_at b t.index ≡ form → FormInPlace b form (AreHere b ts) t.index
            → OkOrReported b (first_member b missing form (t ∷ ts) ts (members_by b missing value ExpectedObjectContent))
            (λ p. Next b A (t ∷ ts) p.1)
        go end_object is (o, after) =
            closed b in_object A (FirstThen in_object A) a t ts (expects-token b (FirstThen in_object A) t (AreHere b ts) k x h) o after
            (empty_closes in_object A (byte_at b (suc t.index)))
        go _ is _ = row (λ e. let f : form_at b t.index ≡ end_object = form-byte b t.index right_brace end_object refl e in cc)
