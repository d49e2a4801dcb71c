-- Where tokens stand in an input: after space, each at its index and up to where the next is looked for. So the bytes of the
-- input are its tokens.
use Rattle.std.proofs.Common.{◌≡◌, refl, sym, ◌∙◌, ap, subst, ℕ, zero, suc, ◌+◌, ◌-◌, ◌<◌, ◌≤◌, inl, inr, List, [], ◌∷◌, ◌++◌}
use Rattle.std.proofs.Common.{length, drop, true, false, ◌||◌, ◌&&◌, ◌==◌, nat_le, arith}
use Rattle.std.specs.Prelude.{Ok, Err, if◌then◌else◌}
use Rattle.std.proofs.lemmas.Bool.{cases_Bool, cases_lt, cond_both, and_from}
use Rattle.std.proofs.lemmas.List.{drop_all}
use Rattle.std.proofs.Math.Seq.{drop-cons}
use Rattle.simd_json_parts.specs.Bytes.{quote, is_whitespace, is_terminator, byte_at}
use Rattle.simd_json_parts.specs.Grammar.{IsWhitespace}
use Rattle.simd_json_parts.specs.Positions.{real_quotes}
use Rattle.simd_json_parts.specs.Strings.{IsStringLiteral}
use Rattle.simd_json_parts.specs.Tokens.{Form, begin_array, end_array, begin_object, end_object, name_separator, value_separator}
use Rattle.simd_json_parts.specs.Tokens.{string_token, scalar, stray, Token, form_at, after_token, tokens_from, tokens}
use Rattle.simd_json_parts.specs.TokensAlong.{goes_on}
use Rattle.simd_json_parts.proofs.Positions.Boundaries.{Boundary, EndsBefore, boundary-space}
use Rattle.simd_json_parts.proofs.Positions.CleanInputs.{IsClean}
use Rattle.simd_json_parts.proofs.Positions.TokensAtPositions.{tokens_at, tokens_at-end, tokens_from-skip, tokens_at-space}
use Rattle.simd_json_parts.proofs.Positions.TokensAtPositions.{tokens_at-token, IsEnded, IsEnded-form}
use Rattle.simd_json_theorems.proofs.Sound.SpelledTokens.{Accepted, Prefix, IsOwn, AreTokens, Owned}
use Rattle.simd_json_theorems.proofs.Sound.Tokens.{FormStands, form-stands}
use Rattle.simd_json_theorems.proofs.Sound.StringsInPlace.{string-stands, string-fault}
use Rattle.simd_json_theorems.proofs.Sound.FaultsWithin.{FaultWithin, IsString, StringFault}
use Rattle.simd_json_theorems.proofs.Sound.ScalarFaults.{IsSomeValue, ScalarReported, atom-reported, number-reported}

module _ (b : List ℕ) where
  -- A token of this form stands at index k, and `More` holds where the tokens after it are looked for. Nothing is said of tokens
  -- after one that has a fault or is stray: none is looked for.
  abbrev pub FormInPlace : Form → (ℕ → Type 0) → ℕ → Type 0
  FormInPlace (string_token (Ok r)) More k = Owned b k (λ xs. IsStringLiteral xs r.0) r.1 × More r.1
  FormInPlace (string_token (Err e)) More k = FaultWithin b k IsString e
  FormInPlace (scalar (Ok r)) More k = Owned b k (Accepted 0 r.0) r.1 × (is_terminator (byte_at b r.1) ≡ true) × More r.1
  FormInPlace (scalar (Err e)) More k = FaultWithin b k IsSomeValue e
  FormInPlace stray More k = Unit {0}
  FormInPlace form More k = Owned b k (IsOwn form) (suc k) × More (suc k)

  -- the token stands after space from index k on
  pub record TokenHere (t : Token) (More : ℕ → Type 0) (k : ℕ) : Type 0 where
    pub space : List ℕ
    pub split : drop k b ≡ space ++ drop t.index b
    pub is_space : IsWhitespace space
    pub within : t.index < length b
    pub no_space : is_whitespace (byte_at b t.index) ≡ false
    pub form : form_at b t.index ≡ t.form
    pub stands : FormInPlace t.form More t.index

  -- from index k on there are these tokens, and space
  abbrev pub AreHere : List Token → ℕ → Type 0
  AreHere [] k = IsWhitespace (drop k b)
  AreHere (t ∷ ts) k = TokenHere t (AreHere ts) k

  -- ---- the tokens of an input stand there

  -- Space before tokens changes nothing.
  space-here : (ts : List Token) (k : ℕ) → k < length b → is_whitespace (byte_at b k) ≡ true → AreHere ts (suc k) → AreHere ts k
  space-here [] k l space h = subst IsWhitespace (sym (drop-cons b k 32 l)) (and_from _ _ space h)
  space-here (t ∷ ts) k l space h =
      record {
        space = byte_at b k ∷ h.space;
        split = drop-cons b k 32 l ∙ ap (λ us. byte_at b k ∷ us) h.split;
        is_space = and_from _ _ space h.is_space;
        within = h.within;
        no_space = h.no_space;
        form = h.form;
        stands = h.stands;
      }

  module _ (fine : IsClean b) where
    -- what is known of the token at index k, besides that it stands there
    abbrev FormReported : ℕ → Form → Type 0
    FormReported k (string_token r) = StringFault b k r
    FormReported k (scalar r) = ScalarReported b k r
    FormReported k _ = Unit {0}

    -- It is known of each form.
    form-reported : (k : ℕ) → k < length b → Boundary b k → FormReported k (form_at b k)
    unfolding form_at
    form-reported k l at =
        structural 91 begin_array _ tt (structural 93 end_array _ tt (structural 123 begin_object _ tt
        (structural 125 end_object _ tt (structural 58 name_separator _ tt (structural 44 value_separator _ tt
        (cond_both (x == quote) _ _ (FormReported k) (λ e. string-fault b fine k l at e)
        (λ _. cond_both ((x == 116) || (x == 102) || (x == 110)) _ _ (FormReported k) (λ _. atom-reported b k)
        (λ _. cond_both ((x == 45) || (nat_le 48 x && nat_le x 57)) _ _ (FormReported k) (λ _. number-reported b k) (λ _. tt)))))))))
      where
        x : ℕ
        x = byte_at b k

        structural : (c : ℕ) (form other : Form) → FormReported k form → FormReported k other
            → FormReported k (if byte_at b k == c then form else other)
        structural c form other reported after = cond_both (byte_at b k == c) form other (FormReported k) (λ _. reported) (λ _. after)

    abbrev Here : ℕ → Type 0
    Here k = AreHere (tokens_at b k) k

    -- the tokens after one
    after : (k end n : ℕ) → suc k + n ≡ end → Here end → AreHere (tokens_from b (suc k) n (drop (suc k) b)) end
    after k end n e h = subst (λ ts. AreHere ts end) (sym (tokens_from-skip b (suc k) n ∙ ap (tokens_at b) e)) h

    -- A token of each form stands where it is read.
    token-here : (k : ℕ) (form : Form) → FormStands b k form → FormReported k form → IsEnded b k form
        → ((end : ℕ) → EndsBefore b k end → Here end)
        → FormInPlace form (AreHere (after_token k form (λ n. tokens_from b (suc k) n (drop (suc k) b)))) k
    token-here k (string_token (Ok r)) o reported ends more = (o, after k r.1 (r.1 - suc k) (omega (arith, ends.after)) (more r.1 ends))
    token-here k (string_token (Err e)) o reported ends more = reported
    token-here k (scalar (Ok r)) o reported ends more = (o, reported, after k r.1 (r.1 - suc k) (omega (arith, ends.after)) (more r.1 ends))
    token-here k (scalar (Err e)) o reported ends more = reported
    token-here k stray o reported ends more = tt
    token-here k form o reported ends more = (o, after k (suc k) (suc k - suc k) (omega arith) (more (suc k) ends))

    -- No tokens stand at the end.
    end-here : (k : ℕ) → length b ≤ k → Here k
    end-here k l =
        let h : AreHere [] k = subst IsWhitespace (sym (drop_all k b l)) refl in
        subst (λ ts. AreHere ts k) (sym (tokens_at-end b k l)) h

    -- From a boundary on, or from the end, the tokens stand; n bytes are left at most.
    here : (n k : ℕ) → length b ≤ k + n → (k < length b → Boundary b k) → Here k
    here zero k l at = end-here k (omega arith)
    here (suc n) k l at =
        elim (cases_lt k (length b)) [
          | inl h ↦ elim (cases_Bool (is_whitespace (byte_at b k))) [
            | inl space ↦
                subst (λ ts. AreHere ts k) (sym (tokens_at-space b k h space))
                (space-here (tokens_at b (suc k)) k h space (here n (suc k) (omega arith) (λ _. boundary-space b k (at h) space)))
            | inr token ↦
                subst (λ ts. AreHere ts k) (sym (tokens_at-token b k h token))
                (record {
                  space = [];
                  split = refl;
                  is_space = refl;
                  within = h;
                  no_space = token;
                  form = refl;
                  stands = token-here k (form_at b k) (form-stands b (string-stands b fine) k h (at h)) (form-reported k h (at h))
                      (IsEnded-form b k (at h)) (λ end ends. here n end (omega (arith, ends.after)) ends.boundary);
                })
          ]
          | inr h ↦ end-here k h
        ]

    -- The tokens of the input stand where they are read.
    pub tokens-here : AreHere (tokens b) 0
    unfolding real_quotes
    tokens-here = here (length b) 0 (omega arith) (λ _. record { closed = refl; free = inr refl })

  -- ---- tokens that stand are what their bytes are

  -- A token, where those after it are theirs.
  own-spelled : (ts : List Token) → ((k : ℕ) → AreHere ts k → AreTokens ts (drop k b)) → (k j : ℕ) (space : List ℕ)
      → IsWhitespace space → drop k b ≡ space ++ drop j b
      → (form : Form) → FormInPlace form (AreHere ts) j → goes_on form ≡ true → Prefix (IsOwn form) (AreTokens ts) (drop k b)
  own-spelled ts more k j space w e = go
    where
      prefix : (P : List ℕ → Type 0) (end : ℕ) → Owned b j P end → AreHere ts end → Prefix P (AreTokens ts) (drop k b)
      prefix P end o h = record {
        before = space;
        inner = o.own;
        left = drop end b;
        whole = e ∙ ap (λ us. space ++ us) o.split;
        space = w;
        holds = o.holds;
        more = more end h;
      }

      go : (form : Form) → FormInPlace form (AreHere ts) j → goes_on form ≡ true → Prefix (IsOwn form) (AreTokens ts) (drop k b)
      go (string_token (Ok r)) h goes = prefix _ r.1 h.0 h.1
      go (string_token (Err e)) h goes = cc
      go (scalar (Ok r)) h goes = prefix _ r.1 h.0 h.2
      go (scalar (Err e)) h goes = cc
      go stray h goes = cc
      go form h goes = prefix _ (suc j) h.0 h.1

  -- So are all.
  here-spelled : (ts : List Token) (k : ℕ) → AreHere ts k → AreTokens ts (drop k b)
  here-spelled [] k h = h
  here-spelled (t ∷ ts) k h = own-spelled ts (here-spelled ts) k t.index h.space h.is_space h.split t.form h.stands

  -- The bytes of the input are its tokens.
  pub tokens-spelled : IsClean b → AreTokens (tokens b) b
  tokens-spelled fine = here-spelled (tokens b) 0 (tokens-here fine)
