-- What may follow a name, by the byte that stands there.
use Rattle.std.proofs.Common.{◌≡◌, refl, sym, ◌∙◌, ap, subst, ℕ, List, [], ◌∷◌, ◌++◌, drop}
use Rattle.simd_json_parts.specs.Bytes.{quote, colon, right_brace}
use Rattle.simd_json_parts.specs.Document.{Document, Members}
use Rattle.simd_json_parts.specs.Grammar.{Spaced, Joined, IsValue, AreMoreMembers}
use Rattle.simd_json_parts.specs.Strings.{IsStringLiteral}
use Rattle.simd_json_theorems.proofs.Containers.{in_object}
use Rattle.simd_json_theorems.proofs.Unique.LeadingBytes.{NoSpace}
use Rattle.simd_json_theorems.proofs.Faults.Follows.{ValueThen, CanFollow, LeadsTo, IsRow, row-item, item-row, SpaceThen-nil}
use Rattle.simd_json_theorems.proofs.Faults.Follows.{value_then-some}
use Rattle.simd_json_theorems.proofs.Faults.RowFollows.{RestThen, MoreThen, NextThen, rest-CanFollow}

-- a value with the members after it
abbrev IsValueRow : (List ℕ → Type 0) → List ℕ → Type 0
IsValueRow A bs = IsRow Document Members IsValue AreMoreMembers right_brace A bs

module _ (A : List ℕ → Type 0) where
  -- a colon and a value
  colon-goes : (rest : List ℕ) → IsValueRow A rest → MoreThen in_object A (colon ∷ rest)
  colon-goes rest r = (
    (r.item, r.more),
    record {
      left = colon ∷ r.inner;
      right = right_brace ∷ r.after;
      whole = ap (λ zs. colon ∷ zs) r.whole;
      left_holds = (r.inner, refl, r.holds);
      right_holds = (r.after, refl, r.follows);
    },
  )

  colon-comes : (c : ℕ) (rest : List ℕ) → MoreThen in_object A (c ∷ rest) → (c ≡ colon) × IsValueRow A rest
  colon-comes c rest (p, j) =
      let h : (inner : List ℕ) × (j.left ≡ colon ∷ inner) × Joined (Spaced (IsValue p.0)) (AreMoreMembers p.1) inner = j.left_holds in
      let e : c ∷ rest ≡ colon ∷ (h.0 ++ right_brace ∷ j.right_holds.0) =
      j.whole ∙ ap (λ us. us ++ j.right) h.1 ∙ ap (λ us. colon ∷ (h.0 ++ us)) j.right_holds.1 in (
        cc,
        record {
          item = p.0;
          more = p.1;
          inner = h.0;
          after = j.right_holds.0;
          whole = ap (drop 1) e;
          holds = h.2;
          follows = j.right_holds.2;
        },
      )

  -- After a name a colon leads to a value.
  pub name_goes_on : (n : ℕ) → LeadsTo (MoreThen in_object A) (colon ∷ []) (ValueThen (RestThen in_object A)) n
  name_goes_on n = record {
    goes = λ rest h. colon-goes rest (item-row Document Members IsValue AreMoreMembers right_brace A rest h);
    comes = λ rest _ (v : MoreThen in_object A (colon ∷ rest)).
        row-item Document Members IsValue AreMoreMembers right_brace A rest (colon-comes colon rest v).1;
  }

  -- So something stands after a name,
  pub named_then-some : CanFollow A → (bs : List ℕ) × MoreThen in_object A bs
  named_then-some a =
      let value : (bs : List ℕ) × ValueThen (RestThen in_object A) bs =
      value_then-some (RestThen in_object A) (rest-CanFollow in_object A a).some in
      (colon ∷ value.0, (name_goes_on 0).goes value.0 (SpaceThen-nil (ValueThen (RestThen in_object A)) value.0 value.1))

  -- and it is a colon.
  pub named_then-byte : (c : ℕ) (rest : List ℕ) → MoreThen in_object A (c ∷ rest) → c ≡ colon
  named_then-byte c rest v = (colon-comes c rest v).0

  pub named_then-NoSpace : (bs : List ℕ) → MoreThen in_object A bs → NoSpace bs
  named_then-NoSpace [] v = tt
  named_then-NoSpace (c ∷ bs) v = subst (λ x. NoSpace (x ∷ bs)) (sym (named_then-byte c bs v)) refl

  -- A name begins with a quote.
  pub name_then-byte : (c : ℕ) (rest : List ℕ) → NextThen in_object A (c ∷ rest) → c ≡ quote
  name_then-byte c rest (k, j) = quote-first j.left_holds
    where
      quote-first : IsStringLiteral j.left k → c ≡ quote
      quote-first (content, cs, e, pieces, spells) =
          let f : c ∷ rest ≡ quote ∷ ((content ++ quote ∷ []) ++ j.right) = j.whole ∙ ap (λ us. us ++ j.right) e in
          cc
