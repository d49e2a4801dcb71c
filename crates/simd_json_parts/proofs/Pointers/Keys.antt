-- The key that a token is, a byte at a time.
use Rattle.std.proofs.Common.{◌≡◌, ◌≢◌, ◌∙◌, ap, sym, refl, ◌<◌, ◌≤◌, ℕ, suc, Bool, true, false, cond, eqb}
use Rattle.std.proofs.Common.{List, [], ◌∷◌, length, length-drop}
use Rattle.std.proofs.Common.{drop, take, ◌-◌, ◌+◌, get_or, Some, None, Option, option_map, arith, ne_eqb, true≢false}
use Rattle.std.proofs.lemmas.Bool.{eqb-true}
use Rattle.std.proofs.lemmas.List.{take_all}
use Rattle.std.proofs.lemmas.List.Recursion.{is_count_by}
use Rattle.std.specs.List.{count_by}
use Rattle.std.specs.Prelude.{◌==◌, ◌↔◌, IsTrue, is_some}
use Rattle.std.specs.Result.{result_ok}
use Rattle.simd_json_parts.specs.Document.{Members}
use Rattle.simd_json_parts.specs.Views.{first_with}
use Rattle.simd_json_parts.specs.Pointed.{member_at, unescaped}
use Rattle.simd_json_parts.specs.Followed.{IsPlain, is_tilde}
use Rattle.simd_json_parts.specs.declared.pointer.PointerExpected.TheVariants as lacking
use Rattle.simd_json_parts.proofs.Pointers.Pointed.{ok-or}

-- ---- a token without an escape

pub plain-head : (c : ℕ) (t : List ℕ) → c ≢ 126 → unescaped (c ∷ t) ≡ option_map (λ k. c ∷ k) (unescaped t)
plain-head c [] other = rw (ne_eqb c 126 other) refl
plain-head c (e ∷ t) other = rw (ne_eqb c 126 other) refl

pub unescaped-plain : (t : List ℕ) → IsPlain t → unescaped t ≡ Some t
unescaped-plain [] plain = refl
unescaped-plain (c ∷ t) plain =
    plain-head c t (plain 0 (omega arith))
    ∙ ap (option_map (λ k. c ∷ k)) (unescaped-plain t (λ k less. plain (suc k) (omega arith)))

pub member-plain : (ms : Members) (t : List ℕ) → IsPlain t → result_ok (member_at ms (unescaped t)) ≡ first_with t ms
member-plain ms t plain = ap (λ u. result_ok (member_at ms u)) (unescaped-plain t plain) ∙ ok-or (first_with t ms) lacking.Key

-- ---- the first byte, and the others

pub some-bytes : (t : List ℕ) → false ≡ (length t == 0) → 0 < length t
some-bytes [] is = cc
some-bytes (c ∷ t) is = omega arith

-- what is left of a token after its first byte is written
abbrev pub IsLeft : List ℕ → ℕ → List ℕ → Type 0
IsLeft t x rest = (unescaped t ≡ option_map (λ k. x ∷ k) (unescaped rest)) × (length rest < length t)

left-of : (t l : List ℕ) (x n : ℕ) → 0 < n → n ≤ length t → l ≡ drop n t → unescaped t ≡ option_map (λ k. x ∷ k) (unescaped l)
    → IsLeft t x (take (length t - n) (drop n t))
left-of t l x n some within is first =
    let all : take (length t - n) (drop n t) ≡ drop n t = take_all (length t - n) (drop n t) (omega (arith, length-drop n t)) in (
      first ∙ ap (λ r. option_map (λ k. x ∷ k) (unescaped r)) (is ∙ sym all),
      omega (arith, ap length all, length-drop n t),
    )

pub plain-first : (t : List ℕ) → 0 < length t → get_or t 0 0 ≢ 126 → IsLeft t (get_or t 0 0) (take (length t - 1) (drop 1 t))
plain-first [] some other = absurd (omega arith)
plain-first (c ∷ t) some other = left-of (c ∷ t) t c 1 (omega arith) (omega arith) refl (plain-head c t other)

pub escaped-first : (t : List ℕ) (e x : ℕ) → 1 < length t → get_or t 0 0 ≡ 126 → get_or t 1 0 ≡ e
    → ((r : List ℕ) → unescaped (126 ∷ e ∷ r) ≡ option_map (λ k. x ∷ k) (unescaped r))
    → IsLeft t x (take (length t - 2) (drop 2 t))
escaped-first [] e x two begins is law = absurd (omega arith)
escaped-first (c ∷ []) e x two begins is law = absurd (omega arith)
escaped-first (c ∷ d ∷ t) e x two begins is law =
    left-of (c ∷ d ∷ t) t x 2 (omega arith) (omega arith) refl
    (ap (λ b. unescaped (b ∷ d ∷ t)) begins ∙ ap (λ b. unescaped (126 ∷ b ∷ t)) is ∙ law t)

-- ---- whether a token is well formed

pub formed-further : (o rest : Option (List ℕ)) (x : ℕ) → o ≡ option_map (λ k. x ∷ k) rest → is_some o ≡ is_some rest
formed-further o None x is = ap is_some is
formed-further o (Some k) x is = ap is_some is

pub formed-end : (t : List ℕ) → (0 < length t → unescaped t ≡ None) → (length t == 0) ≡ is_some (unescaped t)
formed-end [] stops = refl
formed-end (c ∷ t) stops = rw (ne_eqb (suc (length t)) 0 (λ e. omega (arith, e))) (sym (ap is_some (stops (omega arith))))

-- ---- a key that is compared with a token

one-byte : (c : ℕ) (b : Bool) → cond b None (Some (c ∷ [])) ≡ Some [] → ⊥
one-byte c true is = cc
one-byte c false is = cc

mapped : (o : Option (List ℕ)) (x : ℕ) → option_map (λ k. x ∷ k) o ≡ Some [] → ⊥
mapped None x is = cc
mapped (Some k) x is = cc

two-bytes : (c e : ℕ) (t : List ℕ) (b u v : Bool)
    → cond b (cond u (option_map (λ k. 126 ∷ k) (unescaped t)) (cond v (option_map (λ k. 47 ∷ k) (unescaped t)) None))
    (option_map (λ k. c ∷ k) (unescaped (e ∷ t))) ≡ Some [] → ⊥
two-bytes c e t false u v is = mapped (unescaped (e ∷ t)) c is
two-bytes c e t true true v is = mapped (unescaped t) 126 is
two-bytes c e t true false true is = mapped (unescaped t) 47 is
two-bytes c e t true false false is = cc

pub no-bytes : (t : List ℕ) → unescaped t ≡ Some [] → t ≡ []
no-bytes [] is = refl
no-bytes (c ∷ []) is = absurd (one-byte c (eqb c 126) is)
no-bytes (c ∷ e ∷ t) is = absurd (two-bytes c e t (eqb c 126) (eqb e 48) (eqb e 49) is)

pub end-same : (t l : List ℕ) (b : Bool) → b ≡ (length t == 0) → l ≡ [] → IsTrue b ↔ (unescaped t ≡ Some l)
end-same [] l b test end = (λ yes. ap Some (sym end), λ is. test)
end-same (c ∷ t) l b test end =
    let false-is : b ≡ false = test ∙ ne_eqb (suc (length t)) 0 (λ e. omega (arith, e)) in (
      λ yes. absurd (true≢false (sym yes ∙ false-is)),
      λ is. absurd (not-empty c t (no-bytes (c ∷ t) (is ∙ ap Some end))),
    )
  where
    not-empty : (c : ℕ) (t : List ℕ) → c ∷ t ≡ [] → ⊥
    not-empty c t is = cc

-- ---- how long the key is that a token is

abbrev tildes : List ℕ → ℕ
tildes [] = 0
tildes (c ∷ t) = cond (is_tilde c) (1 + tildes t) (tildes t)

with-length : (o : Option (List ℕ)) (x n m : ℕ) (k : List ℕ) → ((l : List ℕ) → o ≡ Some l → length l + n ≡ m)
    → option_map (λ l. x ∷ l) o ≡ Some k → length k + n ≡ suc m
with-length None x n m k each is = cc
with-length (Some l) x n m k each is = let same : x ∷ l ≡ k = cc in omega (arith, each l refl, ap length same)

one-length : (c : ℕ) (k : List ℕ) (b : Bool) → cond b None (Some (c ∷ [])) ≡ Some k → length k + cond b 1 0 ≡ 1
one-length c k true is = cc
one-length c k false is = let same : c ∷ [] ≡ k = cc in omega (arith, ap length same)

two-length : (c e : ℕ) (t k : List ℕ) (n : ℕ) (b u v w : Bool) → (u ≡ true → w ≡ false) → (v ≡ true → w ≡ false)
    → cond b (cond u (option_map (λ l. 126 ∷ l) (unescaped t)) (cond v (option_map (λ l. 47 ∷ l) (unescaped t)) None))
    (option_map (λ l. c ∷ l) (unescaped (e ∷ t))) ≡ Some k
    → ((l : List ℕ) → unescaped t ≡ Some l → length l + n ≡ length t)
    → ((l : List ℕ) → unescaped (e ∷ t) ≡ Some l → length l + cond w (1 + n) n ≡ suc (length t))
    → length k + cond b (1 + cond w (1 + n) n) (cond w (1 + n) n) ≡ suc (suc (length t))
two-length c e t k n false u v w zero one is rest more = with-length (unescaped (e ∷ t)) c (cond w (1 + n) n) (suc (length t)) k more is
two-length c e t k n true true v w zero one is rest more =
    omega (arith, with-length (unescaped t) 126 n (length t) k rest is, ap (λ b. cond b (1 + n) n) (zero refl))
two-length c e t k n true false true w zero one is rest more =
    omega (arith, with-length (unescaped t) 47 n (length t) k rest is, ap (λ b. cond b (1 + n) n) (one refl))
two-length c e t k n true false false w zero one is rest more = cc

not-tilde : (e d : ℕ) → is_tilde d ≡ false → (e == d) ≡ true → is_tilde e ≡ false
not-tilde e d other is = ap is_tilde (eqb-true e d is) ∙ other

decoded-length : (t k : List ℕ) → unescaped t ≡ Some k → length k + tildes t ≡ length t
decoded-length [] k is = let same : k ≡ [] = cc in ap (λ l. length l + 0) same
decoded-length (c ∷ []) k is = one-length c k (c == 126) is
decoded-length (c ∷ e ∷ t) k is =
    two-length c e t k (tildes t) (c == 126) (e == 48) (e == 49) (e == 126) (not-tilde e 48 refl) (not-tilde e 49 refl) is
    (decoded-length t) (decoded-length (e ∷ t))

pub key-length : (t k : List ℕ) → unescaped t ≡ Some k → length k ≡ length t - count_by is_tilde t
key-length t k is = omega (arith, decoded-length t k is, is_count_by tildes is_tilde refl (λ x xs. refl) t)
