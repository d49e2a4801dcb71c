-- A JSON Pointer that is split once.
use Rattle.std.proofs.Common.{◌≡◌, ◌≢◌, ◌∙◌, ap, sym, refl, subst, ◌<◌, ◌≤◌, ◌+◌, ℕ, Bool, false, List, [], ◌∷◌, arith}
use Rattle.std.proofs.Common.{◌++◌, length, take, drop, set, length-append, get_or, inl, inr, ne_eqb}
use Rattle.std.specs.Prelude.{◌&&◌, ◌⊎◌, is_some}
use Rattle.std.specs.List.{list_all, position_or_len, slice_range}
use Rattle.std.proofs.lemmas.Bool.{cases_lt}
use Rattle.std.proofs.lemmas.List.{append_assoc, drop_all, drop_more, length-take-le, take_more_set}
use Rattle.simd_json_parts.specs.Pointed.{token_count, unescaped, is_pointer}
use Rattle.simd_json_parts.specs.Followed.{IsTokenAt, ends_from, tokens_after}
use Rattle.simd_json_parts.proofs.Pointers.Pointed.{begins-at, is_slash, token-at, token-len, tokens-some}

-- ---- whether the pointer is well formed

abbrev formed-token : List ℕ → Bool
formed-token t = is_some (unescaped t)

formed-by : (p : List ℕ) → (0 < length p → get_or p 0 0 ≡ 47) → is_pointer p ≡ list_all formed-token (tokens_after p)
formed-by [] begins = refl
formed-by (c ∷ p) begins = let is : c ≡ 47 = begins (omega arith) in rw is refl

pub formed-at : (p : List ℕ) (i e : ℕ) → IsTokenAt p i e
    → is_pointer (drop i p) ≡ formed-token (slice_range p (i + 1) e) && is_pointer (drop e p)
formed-at p i e at =
    formed-by (drop i p) (begins-at p i (λ less. at.begins.1)) ∙ ap (list_all formed-token) at.split
    ∙ ap (λ b. formed-token (slice_range p (i + 1) e) && b) (sym (formed-by (drop e p) (begins-at p e at.goes_on)))

pub malformed-begin : (p : List ℕ) (i : ℕ) → i < length p → get_or p i 0 ≢ 47 → is_pointer (drop i p) ≡ false
malformed-begin p i inside other = ap is_pointer (drop_more p i 0 inside) ∙ rw (ne_eqb (get_or p i 0) 47 other) refl

-- ---- where its tokens end, and how many there are

ends-at : (p : List ℕ) (i e : ℕ) → IsTokenAt p i e
    → ends_from i (tokens_after (drop i p)) ≡ e ∷ ends_from e (tokens_after (drop e p))
ends-at p i e at =
    ap (ends_from i) at.split ∙ ap (λ m. m ∷ ends_from m (tokens_after (drop e p))) (token-len p i e at)

pub ends-more : (p : List ℕ) (i e : ℕ) (ends : List ℕ) (n : ℕ) → IsTokenAt p i e → n < length ends
    → ends_from 0 (tokens_after p) ≡ take n ends ++ ends_from i (tokens_after (drop i p))
    → ends_from 0 (tokens_after p) ≡ take (n + 1) (set ends n e) ++ ends_from e (tokens_after (drop e p))
ends-more p i e ends n at room so_far =
    let left = ends_from e (tokens_after (drop e p)) in
    so_far ∙ ap (λ l. take n ends ++ l) (ends-at p i e at) ∙ sym (append_assoc (take n ends) (e ∷ []) left)
    ∙ ap (λ l. l ++ left) (sym (take_more_set ends n e room))

count-ends : (i : ℕ) (ts : List (List ℕ)) → length (ends_from i ts) ≡ length ts
count-ends i [] = refl
count-ends i (t ∷ ts) = omega (arith, count-ends (i + 1 + length t) ts)

count-tokens : (p : List ℕ) → token_count p ≡ length (tokens_after p)
count-tokens [] = refl
count-tokens (c ∷ p) = refl

pub count-so-far : (p : List ℕ) (i : ℕ) (ends : List ℕ) (n : ℕ) → n ≤ length ends
    → ends_from 0 (tokens_after p) ≡ take n ends ++ ends_from i (tokens_after (drop i p))
    → token_count p ≡ n + length (tokens_after (drop i p))
count-so-far p i ends n room so_far =
    omega (
      arith,
      count-tokens p,
      count-ends 0 (tokens_after p),
      ap length so_far,
      length-append (take n ends) (ends_from i (tokens_after (drop i p))),
      length-take-le n ends room,
      count-ends i (tokens_after (drop i p)),
    )

pub more-tokens : (p : List ℕ) (i : ℕ) → i < length p → 0 < length (tokens_after (drop i p))
more-tokens p i inside = subst (λ q. 0 < length (tokens_after q)) (sym (drop_more p i 0 inside)) (tokens-some (drop (i + 1) p))

-- ---- the tokens that are kept

-- the next of the ends is that of the next token
pub record IsKept (p : List ℕ) (i e : ℕ) (ends : List ℕ) : Type 0 where
  pub at : IsTokenAt p i e
  pub others : ends ≡ ends_from e (tokens_after (drop e p))

kept-by : (p : List ℕ) (i x e : ℕ) (ends : List ℕ) → IsTokenAt p i x
    → e ∷ ends ≡ x ∷ ends_from x (tokens_after (drop x p)) → IsKept p i e ends
kept-by p i x e ends at is =
    let same : x ≡ e = cc in
    let others : ends ≡ ends_from x (tokens_after (drop x p)) = cc in
    record { at = subst (IsTokenAt p i) same at; others = others ∙ ap (λ m. ends_from m (tokens_after (drop m p))) same }

no-ends : (e : ℕ) (es : List ℕ) → e ∷ es ≡ [] → ⊥
no-ends e es is = cc

inside-by : (p : List ℕ) (i e : ℕ) (es : List ℕ) → e ∷ es ≡ ends_from i (tokens_after (drop i p))
    → (i < length p) ⊎ (length p ≤ i) → i < length p
inside-by p i e es is (inl less) = less
inside-by p i e es is (inr past) = absurd (no-ends e es (is ∙ ap (λ q. ends_from i (tokens_after q)) (drop_all i p past)))

pub kept-next : (p : List ℕ) (i k : ℕ) (ends : List ℕ) → (i < length p → get_or p i 0 ≡ 47) → k < length ends
    → drop k ends ≡ ends_from i (tokens_after (drop i p)) → IsKept p i (get_or ends k 0) (drop (k + 1) ends)
kept-next p i k ends begins less is =
    let one = sym (drop_more ends k 0 less) ∙ is in
    let inside = inside-by p i (get_or ends k 0) (drop (k + 1) ends) one (cases_lt i (length p)) in
    let x = i + 1 + position_or_len is_slash (drop (i + 1) p) in
    let at = token-at p i x inside (begins inside) refl in
    kept-by p i x (get_or ends k 0) (drop (k + 1) ends) at (one ∙ ends-at p i x at)

past-by : (p : List ℕ) (i : ℕ) → ends_from i (tokens_after (drop i p)) ≡ [] → (i < length p) ⊎ (length p ≤ i) → length p ≤ i
past-by p i none (inl less) = absurd (omega (arith, more-tokens p i less, count-ends i (tokens_after (drop i p)), ap length none))
past-by p i none (inr past) = past

pub kept-all : (p : List ℕ) (i : ℕ) → ends_from i (tokens_after (drop i p)) ≡ [] → length p ≤ i
kept-all p i none = past-by p i none (cases_lt i (length p))
