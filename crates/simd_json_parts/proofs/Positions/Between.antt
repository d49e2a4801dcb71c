-- What stands at positions and between them: at a position a token that is read, unless reading has stopped before; after a
-- token's end only whitespace, up to the next position.
use Rattle.std.proofs.Common.{◌≡◌, refl, sym, ◌∙◌, ap, subst, ℕ, zero, suc, ◌+◌, ◌-◌, ◌<◌, ◌≤◌, ◌⊎◌, inl, inr, List, [], ◌∷◌}
use Rattle.std.proofs.Common.{length, drop, get_or, Bool, true, false, cond, ◌==◌, IsTrue, IsFalse, Contains, arith}
use Rattle.std.specs.Prelude.{Some, None, Ok, Err}
use Rattle.std.specs.List.{All}
use Rattle.std.specs.List.Sorted.{IsStrictlyIncreasing}
use Rattle.std.proofs.lemmas.Bool.{cases_Bool, cases_lt, false≢true}
use Rattle.std.proofs.lemmas.List.{get_or_default}
use Rattle.std.proofs.lemmas.List.Elements.{All-cons, All-contains}
use Rattle.simd_json_parts.specs.Bytes.{quote, is_whitespace, byte_at}
use Rattle.simd_json_parts.specs.Positions.{real_quotes, is_position, positions}
use Rattle.simd_json_parts.specs.StringAt.{closing_quote}
use Rattle.simd_json_parts.specs.Tokens.{Form, string_token, scalar, stray, Token, form_at, form_end, token_end, after_token}
use Rattle.simd_json_parts.specs.Tokens.{tokens_from, tokens}
use Rattle.simd_json_parts.specs.TokensAlong.{goes_on, tokens_along}
use Rattle.simd_json_parts.proofs.Positions.Scan.{NoneBetween}
use Rattle.simd_json_parts.proofs.Positions.Boundaries.{Boundary, EndsBefore, is_position-token, boundary-space, ends-string}
use Rattle.simd_json_parts.proofs.Positions.Order.{IsStrictlyIncreasing-positions, Contains-positions}
use Rattle.simd_json_parts.proofs.Positions.TokensAtPositions.{tokens_at, tokens_at-end, tokens_at-space, tokens_at-token}
use Rattle.simd_json_parts.proofs.Positions.TokensAtPositions.{tokens_from-skip, IsEnded, IsEnded-form, tokens-positions}

-- ---- where a token is read

-- A token stands in b: it is no whitespace, no string is open before it, and its form is that of its bytes.
record Standing (b : List ℕ) (t : Token) : Type 0 where
  within : t.index < length b
  at : Boundary b t.index
  token : is_whitespace (byte_at b t.index) ≡ false
  is : t.form ≡ form_at b t.index

module _ (b : List ℕ) where
  abbrev AllStand : List Token → Type 0
  AllStand = All (Standing b)

  none-stand : AllStand []
  none-stand i c l = absurd (omega arith)

  -- after a token that goes on, and so after each form
  after-skip : (k end n : ℕ) → suc k + n ≡ end → AllStand (tokens_at b end) → AllStand (tokens_from b (suc k) n (drop (suc k) b))
  after-skip k end n e all = subst AllStand (sym (tokens_from-skip b (suc k) n ∙ ap (tokens_at b) e)) all

  all-after : (k : ℕ) (form : Form) → IsEnded b k form → ((end : ℕ) → EndsBefore b k end → AllStand (tokens_at b end))
      → AllStand (after_token k form (λ n. tokens_from b (suc k) n (drop (suc k) b)))
  all-after k (string_token (Ok r)) ends more = after-skip k r.1 (r.1 - suc k) (omega (arith, ends.after)) (more r.1 ends)
  all-after k (string_token (Err e)) ends more = none-stand
  all-after k (scalar (Ok r)) ends more = after-skip k r.1 (r.1 - suc k) (omega (arith, ends.after)) (more r.1 ends)
  all-after k (scalar (Err e)) ends more = none-stand
  all-after k stray ends more = none-stand
  all-after k _ ends more = after-skip k (suc k) (suc k - suc k) (omega arith) (more (suc k) ends)

  -- From a boundary on, or from the end, all tokens stand; n bytes are left at most.
  all-stand : (n k : ℕ) → length b ≤ k + n → (k < length b → Boundary b k) → AllStand (tokens_at b k)
  all-stand zero k l at = subst AllStand (sym (tokens_at-end b k (omega arith))) none-stand
  all-stand (suc n) k l at =
      elim (cases_lt k (length b)) [
        | inl h ↦ elim (cases_Bool (is_whitespace (byte_at b k))) [
          | inl space ↦ subst AllStand (sym (tokens_at-space b k h space))
              (all-stand n (suc k) (omega arith) (λ _. boundary-space b k (at h) space))
          | inr token ↦
              let later = all-after k (form_at b k) (IsEnded-form b k (at h))
              (λ end ends. all-stand n end (omega (arith, ends.after)) ends.boundary) in
              let here : Standing b (record { index = k; form = form_at b k }) =
              record { within = h; at = at h; token = token; is = refl } in
              subst AllStand (sym (tokens_at-token b k h token)) (All-cons (Standing b) (record { index = k; form = form_at b k })
              (after_token k (form_at b k) (λ n. tokens_from b (suc k) n (drop (suc k) b))) here later)
        ]
        | inr h ↦ subst AllStand (sym (tokens_at-end b k h)) none-stand
      ]

  token-stands : (t : Token) → Contains (tokens b) t → Standing b t
  unfolding real_quotes
  token-stands t c = All-contains (Standing b) (tokens b) t
      (all-stand (length b) 0 (omega arith) (λ _. record { closed = refl; free = inr refl })) c

  -- ---- between tokens

  -- After a token's end there is only whitespace where there is no position.
  space-after : (k end j : ℕ) → EndsBefore b k end → end ≤ j → j < length b → NoneBetween (is_position b) end (suc j)
      → is_whitespace (byte_at b j) ≡ true
  space-after k end j ends g l none =
      let there : end + (j - end) ≡ j = omega arith in
      subst (λ i. is_whitespace (byte_at b i) ≡ true) there (white (j - end) (omega arith) (reach (j - end) (omega arith)))
    where
      white : (n : ℕ) → end + n ≤ j → Boundary b (end + n) → is_whitespace (byte_at b (end + n)) ≡ true
      white n h at =
          elim (cases_Bool (is_whitespace (byte_at b (end + n)))) [
            | inl is ↦ is
            | inr token ↦ absurd (false≢true (sym (none (end + n) (omega arith) (omega arith)) ∙ is_position-token b (end + n) at token))
          ]

      reach : (n : ℕ) → end + n ≤ j → Boundary b (end + n)
      reach zero h = let same : end + 0 ≡ end = omega arith in subst (Boundary b) (sym same) (ends.boundary (omega arith))
      reach (suc n) h =
          let next : end + suc n ≡ suc (end + n) = omega arith in
          let before : Boundary b (end + n) = reach n (omega arith) in
          subst (Boundary b) (sym next) (boundary-space b (end + n) before (white n (omega arith) before))

  -- of a form that has an end
  ends-form : (k end : ℕ) (form : Form) → IsEnded b k form → form_end k form ≡ Some end → EndsBefore b k end
  ends-form k end (string_token (Ok r)) ends is = let same : r.1 ≡ end = cc is in subst (EndsBefore b k) same ends
  ends-form k end (string_token (Err e)) ends is = cc is
  ends-form k end (scalar (Ok r)) ends is = let same : r.1 ≡ end = cc is in subst (EndsBefore b k) same ends
  ends-form k end (scalar (Err e)) ends is = cc is
  ends-form k end stray ends is = cc is
  ends-form k end _ ends is = let same : suc k ≡ end = cc is in subst (EndsBefore b k) same ends

  -- A token ends after its first byte.
  pub token-ends : (t : Token) (end : ℕ) → Contains (tokens b) t → token_end t ≡ Some end → EndsBefore b t.index end
  token-ends t end c is =
      let s : Standing b t = token-stands t c in
      ends-form t.index end t.form (subst (IsEnded b t.index) (sym s.is) (IsEnded-form b t.index s.at)) is

  -- A token's first byte is a position,
  pub position-first : (t : Token) → Contains (tokens b) t → Contains (positions b) t.index
  position-first t c =
      let s : Standing b t = token-stands t c in
      (Contains-positions b t.index).1 (s.within, is_position-token b t.index s.at s.token)

  -- no other byte of it is one,
  pub no_position-within : (t : Token) (end k : ℕ) → Contains (tokens b) t → token_end t ≡ Some end → t.index < k → k < end
      → IsFalse (is_position b k)
  no_position-within t end k c is g h = (token-ends t end c is).none k g h

  -- and only whitespace stands after its end, up to the next position.
  pub whitespace-after : (t : Token) (end k : ℕ) → Contains (tokens b) t → token_end t ≡ Some end → end ≤ k → k < length b
      → ((j : ℕ) → end ≤ j → j ≤ k → IsFalse (is_position b j)) → IsTrue (is_whitespace (byte_at b k))
  whitespace-after t end k c is g l none = space-after t.index end k (token-ends t end c is) g l (λ j i h. none j i (omega arith))

  -- So a string that is closed ends before the next position, or before the end, and no quote stands between.
  pub string-ends : (t : Token) (next : ℕ) → Contains (tokens b) t → byte_at b t.index ≡ quote
      → closing_quote b t.index < length b → t.index + 1 < next
      → Contains (positions b) next ⊎ (next ≡ length b) → ((j : ℕ) → t.index < j → j < next → IsFalse (is_position b j))
      → (closing_quote b t.index < next)
      × ((k : ℕ) → closing_quote b t.index ≤ k → k < next → byte_at b k ≡ quote → closing_quote b t.index ≡ k)
  string-ends t next c e closed l there none = (omega (arith, not_within), last)
    where
      close : ℕ
      close = closing_quote b t.index

      ends : EndsBefore b t.index (suc close)
      ends = ends-string b t.index (token-stands t c).at (ap (λ x. x == quote) e)

      inside : next ≤ length b
      inside = elim there [ inl p ↦ omega (arith, ((Contains-positions b next).0 p).0) | inr same ↦ omega (arith, same) ]

      not_within : suc close ≤ next
      not_within =
          elim (cases_lt next (suc close)) [
            | inl h ↦ elim there [
              | inl p ↦ absurd (false≢true (sym (ends.none next (omega arith) h) ∙ ((Contains-positions b next).0 p).1))
              | inr same ↦ omega (arith, same)
            ]
            | inr h ↦ h
          ]

      last : (k : ℕ) → close ≤ k → k < next → byte_at b k ≡ quote → close ≡ k
      last k from below quoted =
          elim (cases_lt close k) [
            | inl before ↦
                let white : is_whitespace (byte_at b k) ≡ true =
                space-after t.index (suc close) k ends (omega arith) (omega (arith, inside))
                (λ j g h. none j (omega (arith, ends.after)) (omega arith)) in
                absurd (false≢true (ap is_whitespace (sym quoted) ∙ white))
            | inr after ↦ omega arith
          ]

-- ---- where no token is read

-- what no token is read after has no end
no_end : (k : ℕ) (form : Form) → goes_on form ≡ false → form_end k form ≡ None
no_end k (string_token (Ok r)) h = cc h
no_end k (string_token (Err e)) h = refl
no_end k (scalar (Ok r)) h = cc h
no_end k (scalar (Err e)) h = refl
no_end k stray h = refl
no_end k _ h = cc h

-- the first of rising numbers is the least
first-least : (x : ℕ) (xs : List ℕ) → IsStrictlyIncreasing (x ∷ xs) → (k : ℕ) → k < length xs → x < get_or xs k 0
first-least x xs rise zero l = rise 0 (omega arith)
first-least x xs rise (suc k) l =
    let next : suc k + 1 ≡ suc (suc k) = omega arith in
    let before : x < get_or xs k 0 = first-least x xs rise k (omega arith) in
    let step : get_or xs k 0 < get_or xs (suc k) 0 = subst (λ n. get_or xs k 0 < get_or (x ∷ xs) n 0) next (rise (suc k) (omega arith)) in
    omega arith

IsStrictlyIncreasing-tail : (x : ℕ) (xs : List ℕ) → IsStrictlyIncreasing (x ∷ xs) → IsStrictlyIncreasing xs
IsStrictlyIncreasing-tail x xs rise k l =
    let next : suc k + 1 ≡ suc (k + 1) = omega arith in subst (λ n. get_or xs k 0 < get_or (x ∷ xs) n 0) next (rise (suc k) (omega arith))

-- at index i a token is read, or reading has stopped before
abbrev IsReached : List Token → ℕ → Type 0
IsReached ts i = ((t : Token) × Contains ts t × (t.index ≡ i)) ⊎ ((t : Token) × Contains ts t × (token_end t ≡ None) × (t.index < i))

reached : (b ps : List ℕ) (i : ℕ) → IsStrictlyIncreasing ps → Contains ps i → IsReached (tokens_along b ps) i
reached b [] i rise c = absurd (omega (arith, c.1))
reached b (p ∷ ps) i rise (zero, l, e) = inl (record { index = p; form = form_at b p }, (0, omega arith, refl), e)
reached b (p ∷ ps) i rise (suc k, l, e) =
    go (goes_on (form_at b p)) refl (reached b ps i (IsStrictlyIncreasing-tail p ps rise) (k, omega arith, e))
  where
    go : (u : Bool) → goes_on (form_at b p) ≡ u → IsReached (tokens_along b ps) i
        → IsReached (record { index = p; form = form_at b p } ∷ cond u (tokens_along b ps) []) i
    go true is (inl (t, c, same)) = inl (t, (suc c.0, omega (arith, c.1), c.2), same)
    go true is (inr (t, c, stopped, before)) = inr (t, (suc c.0, omega (arith, c.1), c.2), stopped, before)
    go false is _ =
        let least : p < get_or ps k 0 = first-least p ps rise k (omega arith) in
        inr (
          record { index = p; form = form_at b p },
          (0, omega arith, refl),
          no_end p (form_at b p) is,
          omega (arith, least, e, get_or_default ps k 0 i),
        )

-- At each position a token is read, unless one before it has no end.
pub position-reached : (b : List ℕ) (i : ℕ) → Contains (positions b) i → IsReached (tokens b) i
position-reached b i c =
    subst (λ ts. IsReached ts i) (sym (tokens-positions b)) (reached b (positions b) i (IsStrictlyIncreasing-positions b) c)
