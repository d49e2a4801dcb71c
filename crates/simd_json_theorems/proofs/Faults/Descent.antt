-- What the faults of the descent report: that of a value, and that of a token after the root.
use Rattle.std.proofs.Common.{◌≡◌, refl, subst, ℕ, zero, suc, ◌<◌, List, [], ◌∷◌, ◌++◌, length, true}
use Rattle.std.specs.Prelude.{Ok, Err}
use Rattle.simd_json_parts.specs.Bytes.{quote, left_bracket, left_brace, is_terminator, byte_at}
use Rattle.simd_json_parts.specs.Document.{Document, string, Elements, Members}
use Rattle.simd_json_parts.specs.Faults.{fault_at}
use Rattle.simd_json_parts.specs.Grammar.{IsValue}
use Rattle.simd_json_parts.specs.FaultKinds.{IsBeginning}
use Rattle.simd_json_parts.specs.Strings.{IsStringLiteral}
use Rattle.simd_json_parts.specs.Tokens.{Token, Form, begin_array, begin_object, string_token, scalar}
use Rattle.simd_json_parts.specs.Descent.{Reads, value_of, value_with, too_deep, value_from}
use Rattle.simd_json_parts.specs.declared.error.Error.{Error}
use Rattle.simd_json_parts.specs.declared.error.ErrorType.TheVariants.{InternalError, DepthLimitExceeded}
use Rattle.simd_json_theorems.proofs.Containers.{in_array, in_object}
use Rattle.simd_json_theorems.proofs.Faults.RowFollows.{FirstThen, first-NoSpace, bracket_opens}
use Rattle.simd_json_theorems.proofs.Faults.Follows.{ValueThen, CanFollow, item_then-some, value_then-some}
use Rattle.simd_json_theorems.proofs.Faults.ScalarFollows.{LeadsTo-string, LeadsTo-value}
use Rattle.simd_json_theorems.proofs.Unique.LeadingBytes.{Leads, leading, value-leads}
use Rattle.simd_json_theorems.proofs.Sound.SpelledTokens.{Accepted, Owned}
use Rattle.simd_json_theorems.proofs.Sound.ScalarFaults.{IsSomeValue}
use Rattle.simd_json_theorems.proofs.Sound.FaultsWithin.{IsString}
use Rattle.simd_json_theorems.proofs.Faults.Expectations.{Expects, ExpectsAt}
use Rattle.simd_json_theorems.proofs.Sound.TokensInPlace.{FormInPlace, AreHere}
use Rattle.simd_json_theorems.proofs.Faults.Containers.{ValueReported, array_from-reported, object_from-reported}
use Rattle.simd_json_theorems.proofs.Faults.AtTokens.{took-one, Reported, OkOrReported, bind-OkOrReported, Next, next-more}
use Rattle.simd_json_theorems.proofs.Faults.AtTokens.{IsBeginning-whole, token-reported, within-reported, expects-token, expects-own}

-- A list that begins with a class has a first byte.
Leads-first : (n : ℕ) (xs : List ℕ) → Leads n xs → (c : ℕ) × (tail : List ℕ) × (xs ≡ c ∷ tail)
Leads-first n [] h = absurd h
Leads-first n (c ∷ tail) h = (c, tail, refl)

-- Given that the fault of a missing token is so where the whole input is a beginning.
module _ (b : List ℕ) (missing : Error) (missed : IsBeginning b → Reported b missing) where
  module _ (A : List ℕ → Type 0) (a : CanFollow A) where
    -- After the bytes of a string or a scalar goes on what may follow a value.
    expects-string : (j end : ℕ) (t : List ℕ) → ExpectsAt b (ValueThen A) j → Owned b j (λ xs. IsStringLiteral xs t) end → Expects b A end
    expects-string j end t x o =
        let same : o.own ≡ quote ∷ (o.holds.0 ++ quote ∷ []) = o.holds.2 in
        expects-own b (ValueThen A) A j end o.own (o.holds.0 ++ quote ∷ []) quote x o.split same
        (LeadsTo-string A t (quote ∷ (o.holds.0 ++ quote ∷ [])) (byte_at b end) (subst (λ xs. IsStringLiteral xs t) same o.holds))
        (λ bs h. (a.delimited bs h).1)

    expects-scalar : (j end : ℕ) (d : Document) → ExpectsAt b (ValueThen A) j → Owned b j (Accepted 0 d) end
        → is_terminator (byte_at b end) ≡ true → Expects b A end
    expects-scalar j end d x o ended =
        let first : (c : ℕ) × (tail : List ℕ) × (o.own ≡ c ∷ tail) =
        Leads-first (leading d) o.own (value-leads d o.own (o.holds).denotes) in
        expects-own b (ValueThen A) A j end o.own first.1 first.0 x o.split first.2
        (LeadsTo-value A a d (first.0 ∷ first.1) (byte_at b end) (subst (IsValue d) first.2 (o.holds).denotes) ended)
        (λ bs h. (a.delimited bs h).1)

    -- At a value, where what its brackets lead to is given.
    value_with-reported : (arrays : Token → Reads Elements) (objects : Token → Reads Members)
        → ((t : Token) (ts : List Token) → ExpectsAt b (ValueThen A) t.index → t.index < length b
        → Expects b (FirstThen in_array A) (suc t.index) → AreHere b ts (suc t.index)
        → OkOrReported b (arrays t ts) (λ p. Next b A ts p.1))
        → ((t : Token) (ts : List Token) → ExpectsAt b (ValueThen A) t.index → t.index < length b
        → Expects b (FirstThen in_object A) (suc t.index) → AreHere b ts (suc t.index)
        → OkOrReported b (objects t ts) (λ p. Next b A ts p.1))
        → (k : ℕ) (ts : List Token) → Expects b (ValueThen A) k → AreHere b ts k
        → OkOrReported b (value_with b missing arrays objects ts) (λ p. Next b A ts p.1)
    value_with-reported arrays objects array-reported object-reported k [] x h =
        missed (IsBeginning-whole b (ValueThen A) k x (value_then-some A a.some) h)
    value_with-reported arrays objects array-reported object-reported k (t ∷ ts) x h = go t.form h.stands
      where
        at : ExpectsAt b (ValueThen A) t.index
        at = expects-token b (ValueThen A) t (AreHere b ts) k x h

        go : (form : Form) → FormInPlace b form (AreHere b ts) t.index
            → OkOrReported b (value_of b missing arrays objects t form ts) (λ p. Next b A (t ∷ ts) p.1)
        go begin_array (o, after) =
            bind-OkOrReported b (arrays t ts) _ (λ p. Next b A ts p.1) (λ p. Next b A (t ∷ ts) p.1)
            (array-reported t ts at h.within
            (expects-own b (ValueThen A) (FirstThen in_array A) t.index (suc t.index) o.own [] left_bracket at o.split o.holds
            (bracket_opens in_array A (byte_at b (suc t.index))) (first-NoSpace in_array A)) after)
            (λ p n. next-more b A (t ∷ ts) ts p.1 (took-one t ts) n)
        go begin_object (o, after) =
            bind-OkOrReported b (objects t ts) _ (λ p. Next b A ts p.1) (λ p. Next b A (t ∷ ts) p.1)
            (object-reported t ts at h.within
            (expects-own b (ValueThen A) (FirstThen in_object A) t.index (suc t.index) o.own [] left_brace at o.split o.holds
            (bracket_opens in_object A (byte_at b (suc t.index))) (first-NoSpace in_object A)) after)
            (λ p n. next-more b A (t ∷ ts) ts p.1 (took-one t ts) n)
        go (string_token (Ok r)) (o, after) =
            record { at = r.1; expects = expects-string t.index r.1 r.0 at o; here = after; took = took-one t ts }
        go (string_token (Err e)) f = within-reported b (ValueThen A) IsString t.index e at
            (λ xs w. item_then-some Document IsValue A a.some (string w.0) xs w.1) f
        go (scalar (Ok r)) (o, ended, after) =
            record { at = r.1; expects = expects-scalar t.index r.1 r.0 at o ended; here = after; took = took-one t ts }
        go (scalar (Err e)) f =
            within-reported b (ValueThen A) IsSomeValue t.index e at (λ xs w. item_then-some Document IsValue A a.some w.0 xs w.1) f
        go _ _ = token-reported b (ValueThen A) (value_then-some A a.some) t.index InternalError at h.within (λ is. cc)

    -- at a bracket where no more containers may be open
    deep-reported : (t : Token) → ExpectsAt b (ValueThen A) t.index → t.index < length b
        → Reported b (fault_at b DepthLimitExceeded t.index)
    deep-reported t x l = token-reported b (ValueThen A) (value_then-some A a.some) t.index DepthLimitExceeded x l (λ is. cc)

  pub value_from-reported : (levels : ℕ) → ValueReported b (value_from b missing levels)
  unfolding value_from
  value_from-reported zero A a = value_with-reported A a (too_deep b missing) (too_deep b missing)
      (λ t ts x l _ _. deep-reported A a t x l) (λ t ts x l _ _. deep-reported A a t x l)
  value_from-reported (suc levels) A a =
      value_with-reported A a _ _
      (λ t ts _ _ x h.
      array_from-reported b missing missed (value_from b missing levels) (value_from-reported levels) A a (suc t.index) ts x h)
      (λ t ts _ _ x h.
      object_from-reported b missing missed (value_from b missing levels) (value_from-reported levels) A a (suc t.index) ts x h)
