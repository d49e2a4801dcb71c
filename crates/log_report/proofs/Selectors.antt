-- A text that begins with `/` is a JSON Pointer where each `~` of it begins an escape.
use Rattle.std.proofs.Common.{◌≡◌, ◌≢◌, ◌∙◌, ◌<◌, get_or, ne_eqb, ap, sym, refl, subst, ℕ, Bool, true, false, List, [], ◌∷◌, length, arith}
use Rattle.std.proofs.Common.{Option, Some, None, cond, is_some, option_map}
use Rattle.std.proofs.lemmas.Bool.{eqb-true}
use Rattle.std.specs.List.{list_all}
use Rattle.std.specs.Prelude.{◌==◌, ◌&&◌}
use Rattle.log_report.specs.Asked.{begins_path, is_selector, selector_by, selector_of}
use Rattle.log_report.specs.declared.rows.Selector.{Selector}
use Rattle.log_report.specs.declared.rows.Selector.TheVariants.{Key, Pointer}
use Rattle.simd_json_parts.specs.Bytes.{slash}
use Rattle.std.specs.Borrow.{Bor}
use Rattle.simd_json_parts.specs.Pointed.{is_pointer, tilde, tokens, unescaped, with_first}
use Rattle.simd_json_parts.proofs.Pointers.Pointed.{tokens-some}

abbrev formed : List ℕ → Bool
formed t = is_some (unescaped t)

abbrev all-formed : List (List ℕ) → Bool
all-formed ts = list_all formed ts

some-map : (f : List ℕ → List ℕ) (o : Option (List ℕ)) → is_some (option_map f o) ≡ is_some o
some-map f (Some x) = refl
some-map f None = refl

-- ---- a byte that is no `~`

plain : (c : ℕ) (p : List ℕ) → (c == tilde) ≡ false → formed (c ∷ p) ≡ formed p
plain c [] is = rw is refl
plain c (e ∷ t) is = rw is (some-map (λ k. c ∷ k) (unescaped (e ∷ t)))

plain-first : (c : ℕ) (ts : List (List ℕ)) → 0 < length ts → (c == tilde) ≡ false → all-formed (with_first c ts) ≡ all-formed ts
plain-first c [] some is = absurd (omega (arith, some))
plain-first c (t ∷ ts) some is = ap (λ b. b && all-formed ts) (plain c t is)

-- ---- a `~`, and the byte after it

zero-first : (ts : List (List ℕ)) → 0 < length ts → all-formed (with_first 126 (with_first 48 ts)) ≡ all-formed ts
zero-first [] some = absurd (omega (arith, some))
zero-first (t ∷ ts) some = ap (λ b. b && all-formed ts) (some-map (λ k. 126 ∷ k) (unescaped t))

one-first : (ts : List (List ℕ)) → 0 < length ts → all-formed (with_first 126 (with_first 49 ts)) ≡ all-formed ts
one-first [] some = absurd (omega (arith, some))
one-first (t ∷ ts) some = ap (λ b. b && all-formed ts) (some-map (λ k. 47 ∷ k) (unescaped t))

other-first : (e : ℕ) (ts : List (List ℕ)) → 0 < length ts → (e == 48) ≡ false → (e == 49) ≡ false
    → all-formed (with_first 126 (with_first e ts)) ≡ false
other-first e [] some zero one = absurd (omega (arith, some))
other-first e (t ∷ ts) some zero one = rw zero (rw one refl)

other : (e : ℕ) (t : List ℕ) → (e == 48) ≡ false → (e == 49) ≡ false → false ≡ all-formed (with_first 126 (tokens (e ∷ t)))
other e t zero one = elim (e == 47) as (λ b. false ≡ all-formed (with_first 126 (cond b ([] ∷ tokens t) (with_first e (tokens t))))) [
  | true ↦ refl
  | false ↦ sym (other-first e (tokens t) (tokens-some t) zero one)
]

escape-by : (e : ℕ) (t : List ℕ) (zero one : Bool) → (e == 48) ≡ zero → (e == 49) ≡ one → formed t ≡ all-formed (tokens t)
    → formed (126 ∷ e ∷ t) ≡ all-formed (with_first 126 (tokens (e ∷ t)))
escape-by e t true one is-zero is-one rest =
    subst (λ x. formed (126 ∷ x ∷ t) ≡ all-formed (with_first 126 (tokens (x ∷ t)))) (sym (eqb-true e 48 is-zero))
    (some-map (λ k. 126 ∷ k) (unescaped t) ∙ rest ∙ sym (zero-first (tokens t) (tokens-some t)))
escape-by e t false true is-zero is-one rest =
    subst (λ x. formed (126 ∷ x ∷ t) ≡ all-formed (with_first 126 (tokens (x ∷ t)))) (sym (eqb-true e 49 is-one))
    (some-map (λ k. 47 ∷ k) (unescaped t) ∙ rest ∙ sym (one-first (tokens t) (tokens-some t)))
escape-by e t false false is-zero is-one rest = rw is-zero (rw is-one (other e t is-zero is-one))

-- ---- the tokens after a `/`

step-by : (c : ℕ) (p : List ℕ) (slashed : Bool) → (c == 47) ≡ slashed → (c == tilde) ≡ false → formed p ≡ all-formed (tokens p)
    → formed (c ∷ p) ≡ all-formed (tokens (c ∷ p))
step-by c p true is plainly rest = plain c p plainly ∙ rest ∙ rw is refl
step-by c p false is plainly rest = plain c p plainly ∙ rest ∙ sym (plain-first c (tokens p) (tokens-some p) plainly) ∙ rw is refl

last-by : (c : ℕ) (tilded : Bool) → (c == tilde) ≡ tilded → formed (c ∷ []) ≡ all-formed (tokens (c ∷ []))
last-by c true is = subst (λ x. formed (x ∷ []) ≡ all-formed (tokens (x ∷ []))) (sym (eqb-true c 126 is)) refl
last-by c false is = step-by c [] (c == 47) refl is refl

more-by : (c e : ℕ) (t : List ℕ) (tilded : Bool) → (c == tilde) ≡ tilded → formed (e ∷ t) ≡ all-formed (tokens (e ∷ t))
    → formed t ≡ all-formed (tokens t) → formed (c ∷ e ∷ t) ≡ all-formed (tokens (c ∷ e ∷ t))
more-by c e t true is rest after =
    subst (λ x. formed (x ∷ e ∷ t) ≡ all-formed (tokens (x ∷ e ∷ t))) (sym (eqb-true c 126 is))
    (escape-by e t (e == 48) (e == 49) refl refl after)
more-by c e t false is rest after = step-by c (e ∷ t) (c == 47) refl is rest

formed-tokens : (p : List ℕ) → formed p ≡ all-formed (tokens p)
formed-tokens [] = refl
formed-tokens (c ∷ []) = last-by c (c == tilde) refl
formed-tokens (c ∷ e ∷ t) = more-by c e t (c == tilde) refl (formed-tokens (e ∷ t)) (formed-tokens t)

formed-pointer : (p : List ℕ) → is_pointer (47 ∷ p) ≡ formed (47 ∷ p)
formed-pointer p = sym (formed-tokens p) ∙ sym (plain 47 p refl)

-- ---- JSON Pointers

pub no-byte : (s : List ℕ) → length s ≡ 0 → true ≡ is_pointer s
no-byte [] is = refl
no-byte (c ∷ s) is = absurd (omega (arith, is))

pub no-slash : (s : List ℕ) → 0 < length s → get_or s 0 0 ≢ 47 → false ≡ is_pointer s
no-slash [] some other = absurd (omega (arith, some))
no-slash (c ∷ s) some other = rw (ne_eqb c 47 other) refl

pub slashed : (s : List ℕ) → 0 < length s → get_or s 0 0 ≡ 47 → formed s ≡ is_pointer s
slashed [] some is = absurd (omega (arith, some))
slashed (c ∷ s) some is = subst (λ x. formed (x ∷ s) ≡ is_pointer (x ∷ s)) (sym is) (sym (formed-pointer s))

-- ---- selectors

selector-by : (word : Bor (List ℕ)) (t : List ℕ) (s : Selector) → Some s ≡ selector_by word t → word.now ≡ t → is_selector s ≡ true
selector-by word [] s is same = cc
selector-by word (c ∷ t) s is same = elim (c == slash) as (λ b.
    Some s ≡ (cond b (cond (is_pointer (c ∷ t)) (Some (Pointer word)) None) (cond (begins_path c) None (Some (Key word))))
    → is_selector s ≡ true) [
      | true ↦ elim (is_pointer (c ∷ t)) as (λ p. p ≡ is_pointer word.now → Some s ≡ cond p (Some (Pointer word)) None → is_selector s ≡ true) [
        | true ↦ λ p h. cc
        | false ↦ λ p h. cc
      ] (ap is_pointer (sym same))
      | false ↦ elim (begins_path c) as (λ p. Some s ≡ cond p None (Some (Key word)) → is_selector s ≡ true) [
        | true ↦ λ h. cc
        | false ↦ λ h. cc
      ]
    ] is

-- a word that is read is no malformed pointer
pub selector-read : (word : Bor (List ℕ)) (s : Selector) → Some s ≡ selector_of word → is_selector s ≡ true
selector-read word s is = selector-by word word.now s is refl
