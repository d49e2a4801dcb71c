-- Where the machine is: its last token is at a position, and the next position is known.
use Rattle.std.proofs.Common.{◌≡◌, sym, ◌∙◌, ap, subst, ℕ, zero, suc, ◌+◌, ◌-◌, ◌<◌, ◌≤◌, ◌⊎◌, inl, inr, List, ◌∷◌, ◌++◌, length, get_or}
use Rattle.std.proofs.Common.{drop, true, not, ◌&&◌, ◌||◌, Contains, IsFalse, refl, nat_eq, arith}
use Rattle.std.specs.Prelude.{Some, None, IsUtf8}
use Rattle.std.specs.List.Sorted.{IsStrictlyIncreasing}
use Rattle.std.proofs.lemmas.Bool.{cases_Bool, cases_lt, or_cases, and_parts, or_from, false≢true}
use Rattle.std.proofs.lemmas.List.{get_or_default, get_or_past}
use Rattle.std.proofs.lemmas.List.Elements.{Contains-append_right}
use Rattle.simd_json_parts.specs.Bytes.{quote, is_whitespace, is_structural, byte_at}
use Rattle.simd_json_parts.specs.InputFaults.{input_fault, has_bad_string}
use Rattle.simd_json_parts.specs.Positions.{is_real_quote, is_inside, is_fresh, is_position, positions}
use Rattle.simd_json_parts.specs.StringAt.{closing_quote}
use Rattle.simd_json_parts.specs.Tokens.{token_end}
use Rattle.simd_json_parts.specs.Tokens.{Token, form_at, tokens}
use Rattle.simd_json_parts.specs.TokensAlong.{tokens_along}
use Rattle.simd_json_parts.proofs.Positions.Between.{no_position-within}
use Rattle.simd_json_parts.proofs.Positions.Boundaries.{is_real_quote-fresh}
use Rattle.simd_json_parts.proofs.Positions.CleanInputs.{IsClean, IsClean-input}
use Rattle.simd_json_parts.proofs.Positions.Order.{IsStrictlyIncreasing-positions, Contains-positions}
use Rattle.simd_json_scalars.proofs.Strings.Standalone.{closing_quote-inside, utf8-opening}
use Rattle.simd_json_parts.proofs.Positions.TokensAtPositions.{tokens-positions}
use Rattle.simd_json_stages.specs.Progresses.{IsRead}
use Rattle.simd_json_stages.specs.declared.stage2.progress.Progress.{Progress}

abbrev pub token : List ℕ → ℕ → Token
token b i = record { index = i; form = form_at b i }

-- of rising numbers a later one is greater
rising : (xs : List ℕ) → IsStrictlyIncreasing xs → (i j : ℕ) → i < j → j < length xs → get_or xs i 0 < get_or xs j 0
rising xs rise i zero g l = absurd (omega arith)
rising xs rise i (suc j) g l =
    let next : j + 1 ≡ suc j = omega arith in
    let step : get_or xs j 0 < get_or xs (suc j) 0 = subst (λ n. get_or xs j 0 < get_or xs n 0) next (rise j (omega arith)) in
    elim (cases_lt i j) [
      | inl before ↦ omega (arith, rising xs rise i j before (omega arith), step)
      | inr after ↦ let same : i ≡ j = omega arith in subst (λ n. get_or xs n 0 < get_or xs (suc j) 0) (sym same) step
    ]

-- a position that holds a quote is inside: it opens a string
quote-inside : (b : List ℕ) (i : ℕ) → is_position b i ≡ true → byte_at b i ≡ quote → is_inside b i ≡ true
unfolding is_position
quote-inside b i is e =
    elim (or_cases (is_real_quote b i && is_inside b i) _ is) [
      | inl opening ↦ (and_parts _ _ opening).1
      | inr other ↦
          let outside : (not (is_inside b i) && not (is_real_quote b i)) ≡ true = (and_parts _ _ other).0 in
          let first : (is_structural (byte_at b i) || (not (is_whitespace (byte_at b i)) && is_fresh b i)) ≡ true =
          (and_parts _ _ other).1 in
          let fresh : is_fresh b i ≡ true = ap (λ x. is_structural x || (not (is_whitespace x) && is_fresh b i)) (sym e) ∙ first in
          absurd (false≢true (ap not (sym (is_real_quote-fresh b i fresh (ap (λ x. nat_eq x quote) e))) ∙ (and_parts _ _ outside).1))
    ]

-- where no fault is reported no string is bad
no_bad_string : (b : List ℕ) → input_fault b ≡ None → IsFalse (has_bad_string b)
no_bad_string b none = let clean : IsClean b = IsClean-input b none in or_from _ _ (ap not clean.even) clean.plain

module _ (b : List ℕ) where
  -- the last token is at a position, inside the input
  pub at-position : (p : Progress) → IsRead b (positions b) p → Contains (positions b) p.at
  at-position p r = (
    p.read - 1,
    omega (arith, r.some, r.within),
    get_or_default (positions b) (p.read - 1) p.at 0 (omega (arith, r.some, r.within)) ∙ sym r.last,
  )

  pub at-inside : (p : Progress) → IsRead b (positions b) p → p.at < length b
  at-inside p r = ((Contains-positions b p.at).0 (at-position p r)).0

  -- each position is inside the input
  pub position-inside : (k : ℕ) → k < length (positions b) → get_or (positions b) k 0 < length b
  position-inside k l = ((Contains-positions b (get_or (positions b) k 0)).0
      (k, l, get_or_default (positions b) k (get_or (positions b) k 0) 0 l)).0

  -- the next position is after it
  pub next-later : (p : Progress) → IsRead b (positions b) p → p.read < length (positions b) → p.at < get_or (positions b) p.read 0
  next-later p r l = omega (
    arith,
    r.last,
    rising (positions b) (IsStrictlyIncreasing-positions b) (p.read - 1) p.read
        (omega (arith, r.some)) l,
  )

  pub next-inside : (p : Progress) → get_or (positions b) p.read (length b) ≤ length b
  next-inside p =
      elim (cases_lt p.read (length (positions b))) [
        | inl l ↦ omega (arith, position-inside p.read l, get_or_default (positions b) p.read (length b) 0 l)
        | inr l ↦ omega (arith, get_or_past (positions b) p.read (length b) l)
      ]

  -- no position lies between it and the next, or the end
  pub none-between : (p : Progress) → IsRead b (positions b) p → (j : ℕ) → p.at < j → j < get_or (positions b) p.read (length b)
      → IsFalse (is_position b j)
  none-between p r j g h =
      elim (cases_Bool (is_position b j)) [
        | inl is ↦ absurd (between ((Contains-positions b j).1 (omega (arith, h, next-inside p), is)))
        | inr not_one ↦ not_one
      ]
    where
      between : Contains (positions b) j → ⊥
      between (k, l, e) =
          let here : get_or (positions b) k 0 ≡ j = get_or_default (positions b) k 0 j l ∙ e in
          elim (cases_lt k p.read) [
            | inl old ↦ elim (cases_lt k (p.read - 1)) [
              | inl older ↦ omega (
                arith,
                here,
                g,
                r.last,
                rising (positions b) (IsStrictlyIncreasing-positions b) k (p.read - 1)
                    older (omega (arith, r.some, r.within)),
              )
              | inr last ↦ let same : k ≡ p.read - 1 = omega (arith, r.some) in
                  omega (arith, g, here, r.last, ap (λ n. get_or (positions b) n 0) same)
            ]
            | inr new ↦
                let there : get_or (positions b) p.read (length b) ≡ get_or (positions b) p.read 0 = get_or_default (positions b)
                p.read (length b) 0 (omega arith) in
                elim (cases_lt p.read k) [
                  | inl later ↦ omega (arith, h, here, there, rising (positions b) (IsStrictlyIncreasing-positions b) p.read k later l)
                  | inr last ↦ let same : k ≡ p.read = omega arith in omega (arith, h, here, there, ap (λ n. get_or (positions b) n 0) same)
                ]
          ]

  pub next-there : (p : Progress) → Contains (positions b) (get_or (positions b) p.read (length b)) ⊎
      (get_or (positions b) p.read (length b) ≡ length b)
  next-there p =
      elim (cases_lt p.read (length (positions b))) [
        | inl l ↦ inl (p.read, l, get_or_default (positions b) p.read (get_or (positions b) p.read (length b)) (length b) l)
        | inr l ↦ inr (get_or_past (positions b) p.read (length b) l)
      ]

  pub at-before_next : (p : Progress) → IsRead b (positions b) p → p.at < get_or (positions b) p.read (length b)
  at-before_next p r =
      elim (cases_lt p.read (length (positions b))) [
        | inl l ↦ omega (arith, next-later p r l, get_or_default (positions b) p.read (length b) 0 l)
        | inr l ↦ omega (arith, at-inside p r, get_or_past (positions b) p.read (length b) l)
      ]

  -- a token that is read ends at the next position at the latest
  pub end-before_next : (p : Progress) (end : ℕ) → IsRead b (positions b) p → Contains (tokens b) (token b p.at)
      → token_end (token b p.at) ≡ Some end → p.read < length (positions b) → end ≤ get_or (positions b) p.read 0
  end-before_next p end r c is l =
      let next : ℕ = get_or (positions b) p.read 0 in
      let position : is_position b next ≡ true = ((Contains-positions b next).0
      (p.read, l, get_or_default (positions b) p.read next 0 l)).1 in
      elim (cases_lt next end) [
        | inl h ↦ absurd (false≢true (sym (no_position-within b (token b p.at) end next c is (next-later p r l) h) ∙ position))
        | inr h ↦ h
      ]

  -- ---- strings

  pub string-closed : (i : ℕ) → Contains (positions b) i → byte_at b i ≡ quote → input_fault b ≡ None → closing_quote b i < length b
  string-closed i c e none =
      let (l, is) = (Contains-positions b i).0 c in
      closing_quote-inside b i l (quote-inside b i is e) (no_bad_string b none)

  pub string-utf8 : (i : ℕ) → i < length b → byte_at b i ≡ quote → input_fault b ≡ None → IsUtf8 (drop i b)
  string-utf8 i l e none = let clean : IsClean b = IsClean-input b none in utf8-opening b i l e clean.utf8

  -- ---- the tokens that are read

  -- where the tokens at the positions go on with the token at i, it is one of those that are read
  pub token-read : (before rest : List Token) (i : ℕ) (is : List ℕ)
      → tokens_along b (positions b) ≡ before ++ tokens_along b (i ∷ is) → Contains (tokens b) (token b i)
  token-read before rest i is h =
      let here : Contains (tokens_along b (i ∷ is)) (token b i) = (0, omega arith, refl) in
      subst (λ ts. Contains ts (token b i)) (sym (tokens-positions b ∙ h))
      (Contains-append_right before (tokens_along b (i ∷ is)) (token b i) here)
