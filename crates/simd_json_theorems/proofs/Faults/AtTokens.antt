-- What the fault of a reader reports, at a token and within one: the bytes before it are a beginning of a document, and with
-- the first byte of a token that an array or an object does not expect they are none.
use Rattle.std.proofs.Common.{◌≡◌, refl, sym, ◌∙◌, ap, subst, ℕ, suc, ◌<◌, List, [], ◌∷◌, ◌++◌, length, take, drop, append_assoc}
use Rattle.std.proofs.Common.{length-append, true, false, arith}
use Rattle.std.specs.Prelude.{Result, Ok, Err}
use Rattle.std.proofs.lemmas.Bool.{both_ways}
use Rattle.std.proofs.lemmas.List.{take-append-drop}
use Rattle.std.proofs.Math.Seq.{drop-cons}
use Rattle.simd_json_parts.specs.Bytes.{is_whitespace, byte_at}
use Rattle.simd_json_parts.specs.Descent.{◌>>=◌}
use Rattle.simd_json_parts.specs.ErrorKinds.{is_unexpected_token}
use Rattle.simd_json_parts.specs.Faults.{fault_at}
use Rattle.simd_json_parts.specs.Grammar.{IsWhitespace}
use Rattle.simd_json_parts.specs.FaultKinds.{IsBeginning}
use Rattle.simd_json_parts.specs.Tokens.{Token, Form, form_of, form_at}
use Rattle.simd_json_parts.specs.declared.error.Error.{Error}
use Rattle.simd_json_parts.specs.declared.error.ErrorType.{ErrorType}
use Rattle.simd_json_parts.proofs.Lists.Drops.{drop-head}
use Rattle.simd_json_theorems.proofs.Faults.Expectations.{IsDocument, IsBeginning-document, IsBeginning-prefix, take-through}
use Rattle.simd_json_theorems.proofs.Faults.Expectations.{Expects, ExpectsAt, expects-at, expects-after}
use Rattle.simd_json_theorems.proofs.Sound.FaultsWithin.{FaultWithin}
use Rattle.simd_json_theorems.proofs.Faults.Follows.{LeadsTo}
use Rattle.simd_json_theorems.proofs.Unique.LeadingBytes.{NoSpace}
use Rattle.simd_json_theorems.proofs.Unique.SpacedPrefixes.{space-one}
use Rattle.simd_json_theorems.proofs.Sound.TokensInPlace.{TokenHere, AreHere}

-- some tokens were read, and the others are left
pub record Took (ts rest : List Token) : Type 0 where
  pub read : List Token
  pub whole : ts ≡ read ++ rest
  pub some : 0 < length read

-- More tokens are read.
pub took-more : (ts us rest : List Token) → Took ts us → Took us rest → Took ts rest
took-more ts us rest x y =
    record {
      read = x.read ++ y.read;
      whole = x.whole ∙ ap (λ vs. x.read ++ vs) y.whole ∙ sym (append_assoc x.read y.read rest);
      some = omega (arith, x.some, length-append x.read y.read);
    }

-- One is read.
pub took-one : (t : Token) (ts : List Token) → Took (t ∷ ts) ts
took-one t ts = record { read = t ∷ []; whole = refl; some = omega arith }

-- So fewer are left.
pub took-fewer : (ts rest : List Token) → Took ts rest → length rest < length ts
took-fewer ts rest x = omega (arith, ap length x.whole, length-append x.read rest, x.some)

module _ (b : List ℕ) where
  -- what a fault reports
  pub record Reported (e : Error) : Type 0 where
    pub not_late : IsBeginning (take e.index b)
    pub not_early : is_unexpected_token e.error ≡ true → IsBeginning (take (suc e.index) b) → ⊥

  -- what is read has the property, or the fault is reported so
  abbrev pub OkOrReported : {A : Type 0} → Result A Error → (A → Type 0) → Type 0
  OkOrReported (Ok x) P = P x
  OkOrReported (Err e) P = Reported e

  -- What the first reader owes is known to the second.
  pub bind-OkOrReported : {A B : Type 0} (r : Result A Error) (f : A → Result B Error) (P : A → Type 0) (Q : B → Type 0)
      → OkOrReported r P → ((x : A) → P x → OkOrReported (f x) Q) → OkOrReported (r >>= f) Q
  bind-OkOrReported (Ok x) f P Q p step = step x p
  bind-OkOrReported (Err e) f P Q reported step = reported

  -- What is read has any weaker property too.
  pub weaken-OkOrReported : {A : Type 0} (r : Result A Error) (P Q : A → Type 0) → ((x : A) → P x → Q x)
      → OkOrReported r P → OkOrReported r Q
  weaken-OkOrReported (Ok x) P Q step p = step x p
  weaken-OkOrReported (Err e) P Q step reported = reported

  -- of the tokens ts, `rest` are left, at an index from which this set is expected on
  pub record Next (A : List ℕ → Type 0) (ts rest : List Token) : Type 0 where
    pub at : ℕ
    pub expects : Expects b A at
    pub here : AreHere b rest at
    pub took : Took ts rest

  -- Tokens that were read before are read too.
  pub next-more : (A : List ℕ → Type 0) (ts us rest : List Token) → Took ts us → Next A us rest → Next A ts rest
  next-more A ts us rest x n = record { at = n.at; expects = n.expects; here = n.here; took = took-more ts us rest x n.took }

  -- Where no token is left, the whole input is a beginning.
  pub IsBeginning-whole : (Q : List ℕ → Type 0) (k : ℕ) → Expects b Q k → (bs : List ℕ) × Q bs → IsWhitespace (drop k b) → IsBeginning b
  IsBeginning-whole Q k x (bs, q) w =
      let h : IsDocument (take k b ++ (drop k b ++ bs)) = x.goes (drop k b) bs w q in
      IsBeginning-document b bs
      (subst IsDocument (sym (append_assoc (take k b) (drop k b) bs) ∙ ap (λ us. us ++ bs) (take-append-drop k b)) h)

  -- So is each prefix of it.
  pub IsBeginning-take : IsBeginning b → (i : ℕ) → IsBeginning (take i b)
  IsBeginning-take h i = IsBeginning-prefix (take i b) (drop i b) (subst IsBeginning (sym (take-append-drop i b)) h)

  -- ---- at a token

  module _ (Q : List ℕ → Type 0) (some : (bs : List ℕ) × Q bs) where
    -- The bytes before it are a beginning.
    pub IsBeginning-before : (j : ℕ) → ExpectsAt b Q j → IsBeginning (take j b)
    IsBeginning-before j x = IsBeginning-document (take j b) some.0 (x.goes some.0 some.1)

    -- A fault at a token, which is not expected or is none of these kinds.
    pub token-reported : (j : ℕ) (kind : ErrorType) → ExpectsAt b Q j → j < length b
        → (is_unexpected_token kind ≡ true → (rest : List ℕ) → Q (byte_at b j ∷ rest) → ⊥) → Reported (fault_at b kind j)
    token-reported j kind x l none = record {
      not_late = IsBeginning-before j x;
      not_early = λ is (h : IsBeginning (take (suc j) b)).
          let whole : take (suc j) b ++ h.0 ≡ take j b ++ byte_at b j ∷ h.0 =
          ap (λ us. us ++ h.0) (take-through b j (suc j) (byte_at b j ∷ []) (drop-cons b j 32 l))
          ∙ append_assoc (take j b) (byte_at b j ∷ []) h.0 in
          none is h.0 (x.comes h.0 (subst IsDocument whole (h.1, h.2)));
    }

  -- A fault within a token, where its set goes on to what is expected.
  pub within-reported : (Q P : List ℕ → Type 0) (j : ℕ) (e : Error) → ExpectsAt b Q j
      → ((xs : List ℕ) → P xs → (rest : List ℕ) × Q (xs ++ rest)) → FaultWithin b j P e → Reported e
  within-reported Q P j e x more f =
      let m : (rest : List ℕ) × Q ((f.prefix ++ f.rest) ++ rest) = more (f.prefix ++ f.rest) f.goes_on in
      let h : IsDocument (take j b ++ ((f.prefix ++ f.rest) ++ m.0)) = x.goes ((f.prefix ++ f.rest) ++ m.0) m.1 in
      let whole : take j b ++ ((f.prefix ++ f.rest) ++ m.0) ≡ take e.index b ++ (f.rest ++ m.0) =
      ap (λ us. take j b ++ us) (append_assoc f.prefix f.rest m.0) ∙ sym (append_assoc (take j b) f.prefix (f.rest ++ m.0))
      ∙ ap (λ us. us ++ (f.rest ++ m.0)) (sym (take-through b j e.index f.prefix f.split)) in
      record {
        not_late = IsBeginning-document (take e.index b) (f.rest ++ m.0) (subst IsDocument whole h);
        not_early = λ is _. both_ways _ f.kind is;
      }

  -- ---- tokens

  -- At a token space is passed.
  pub expects-token : (Q : List ℕ → Type 0) (t : Token) (More : ℕ → Type 0) (k : ℕ) → Expects b Q k
      → TokenHere b t More k → ExpectsAt b Q t.index
  expects-token Q t More k x h = expects-at b Q k t.index h.space x h.is_space h.split h.within h.no_space

  -- Its own bytes lead from what is expected at it to what is expected after it.
  pub expects-own : (Q R : List ℕ → Type 0) (j end : ℕ) (own tail : List ℕ) (c : ℕ) → ExpectsAt b Q j
      → drop j b ≡ own ++ drop end b → own ≡ c ∷ tail
      → LeadsTo Q (c ∷ tail) R (byte_at b end) → ((bs : List ℕ) → R bs → NoSpace bs) → Expects b R end
  expects-own Q R j end own tail c x e same leads plain =
      let split : drop j b ≡ (c ∷ tail) ++ drop end b = e ∙ ap (λ us. us ++ drop end b) same in
      let first : c ≡ byte_at b j = sym (drop-head j b c (tail ++ drop end b) split) in
      expects-after b Q R j end tail x (split ∙ ap (λ y. (y ∷ tail) ++ drop end b) first)
      (subst (λ y. LeadsTo Q (y ∷ tail) R (byte_at b end)) first leads) plain

  -- The byte after space is the token's, so only with that byte one set need be part of the other.
  pub expects-narrow : (Q R : List ℕ → Type 0) (t : Token) (More : ℕ → Type 0) (k : ℕ) → Expects b Q k → TokenHere b t More k
      → ((rest : List ℕ) → R rest → Q rest)
      → ((rest : List ℕ) → Q (byte_at b t.index ∷ rest) → R (byte_at b t.index ∷ rest)) → Expects b R k
  expects-narrow Q R t More k x h into from = record {
    goes = λ space rest w r. x.goes space rest w (into rest r);
    comes = λ j space rest w e l token doc.
        let same : drop t.index b ≡ drop j b =
        space-one h.space space (drop t.index b) (drop j b) h.is_space w (first t.index h.within h.no_space)
        (first j l token) (sym h.split ∙ e) in
        let byte : byte_at b t.index ≡ byte_at b j = drop-head t.index b (byte_at b j) (drop (suc j) b) (same ∙ drop-cons b j 32 l) in
        subst (λ c. R (c ∷ rest)) byte (from rest (subst (λ c. Q (c ∷ rest)) (sym byte) (x.comes j space rest w e l token doc)));
  }
    where
      first : (i : ℕ) → i < length b → is_whitespace (byte_at b i) ≡ false → NoSpace (drop i b)
      first i l token = subst NoSpace (sym (drop-cons b i 32 l)) token

  -- The byte at an index tells the form of a token there.
  pub form-byte : (j c : ℕ) (form : Form) → form_of b j c ≡ form → byte_at b j ≡ c → form_at b j ≡ form
  unfolding form_at
  form-byte j c form is e = ap (form_of b j) e ∙ is
