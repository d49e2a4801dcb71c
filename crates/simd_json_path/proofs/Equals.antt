-- When two values are equal: by their kinds, and by the names of two objects.
use Rattle.std.proofs.Common.{◌≡◌, ◌∙◌, ap, sym, refl, ◌+◌, ℕ, zero, suc, List, [], ◌∷◌, drop, take, arith, inl, inr, Bool, true, false}
use Rattle.std.proofs.Common.{cond, Option, Some, None, ◌&&◌, is_some, bytes_eq, nat_le, drop-drop}
use Rattle.std.specs.List.{list_all, list_any}
use Rattle.std.proofs.lemmas.Bool.{cases_Bool, false≢true, or_cases}
use Rattle.std.proofs.lemmas.List.Folds.{list_all-append}
use Rattle.std.proofs.lemmas.Slice.Eq.{bytes_eq-Decides}
use Rattle.simd_json_parts.specs.Document.{Document, integer, array, object, Members}
use Rattle.simd_json_parts.specs.Document.{no_members, member}
use Rattle.simd_json_parts.specs.Views.{first_with, is_array, is_object, keys}
use Rattle.simd_json_parts.specs.Integers.{integer_node, max_magnitude_64}
use Rattle.simd_json_parts.specs.Nodes.{static_item}
use Rattle.simd_json_parts.specs.declared.node.StaticNode.{StaticNode}
use Rattle.simd_json_path.specs.Operands.{item_primitive}
use Rattle.simd_json_path.specs.Comparisons.{Primitive, both, both_or_none, primitive, same_at, same_members, same_primitives, same_to}

-- ---- kinds

pub scalar-first : (n : ℕ) (d e : Document) (p : Primitive) → primitive d ≡ Some p → both same_primitives (Some p) (primitive e)
    ≡ same_to n d e
scalar-first zero (array ds) e p is = cc
scalar-first zero (object ms) e p is = cc
scalar-first zero d e p is = ap (λ o. both same_primitives o (primitive e)) (sym is)
scalar-first (suc n) (array ds) e p is = cc
scalar-first (suc n) (object ms) e p is = cc
scalar-first (suc n) d e p is = ap (λ o. both same_primitives o (primitive e)) (sym is)

pub scalar-second : (n : ℕ) (d e : Document) (p : Primitive) → primitive e ≡ Some p → both same_primitives (primitive d) (Some p)
    ≡ same_to n d e
scalar-second zero (array ds) (array es) p is = cc
scalar-second zero (array ds) (object ns) p is = cc
scalar-second zero (array ds) e p is = refl
scalar-second zero (object ms) (array es) p is = cc
scalar-second zero (object ms) (object ns) p is = cc
scalar-second zero (object ms) e p is = refl
scalar-second zero d e p is = ap (both same_primitives (primitive d)) (sym is)
scalar-second (suc n) (array ds) (array es) p is = cc
scalar-second (suc n) (array ds) (object ns) p is = cc
scalar-second (suc n) (array ds) e p is = refl
scalar-second (suc n) (object ms) (array es) p is = cc
scalar-second (suc n) (object ms) (object ns) p is = cc
scalar-second (suc n) (object ms) e p is = refl
scalar-second (suc n) d e p is = ap (both same_primitives (primitive d)) (sym is)

pub neither : (d : Document) → primitive d ≡ None → is_array d ≡ false → is_object d ≡ false → ⊥
neither (array ds) is a b = cc
neither (object ms) is a b = cc
neither d is a b = cc

-- ---- tests of two parts

and-parts : (a b : Bool) → (a && b) ≡ true → (a ≡ true) × (b ≡ true)
and-parts true b is = (refl, is)
and-parts false b is = absurd (false≢true is)

and-false : (a b : Bool) → b ≡ false → (a && b) ≡ false
and-false true b is = is
and-false false b is = refl

some-cond : (b : Bool) (d : Document) (o : Option Document) → is_some o ≡ true → is_some (cond b (Some d) o) ≡ true
some-cond true d o some = refl
some-cond false d o some = some

at-options : (f : Document → Document → Bool) (o q : Option Document) → is_some q ≡ true → (is_some o ≡ true → both_or_none f o q ≡ true)
    → both_or_none f o q ≡ is_some o
at-options f o None some is = absurd (false≢true some)
at-options f None (Some e) some is = refl
at-options f (Some d) (Some e) some is = is refl

-- ---- lists that are passed through

module _ {A : Type 0} (p : A → Bool) where
  pub rest-all : (i : ℕ) (xs : List A) → drop i xs ≡ [] → list_all p (take i xs) ≡ list_all p xs
  rest-all zero xs none = ap (list_all p) (sym none)
  rest-all (suc i) [] none = refl
  rest-all (suc i) (x ∷ xs) none = ap (λ b. p x && b) (rest-all i xs none)

  pub rest-more : (i : ℕ) (xs rest : List A) (x : A) → drop i xs ≡ x ∷ rest → list_all p (take i xs) ≡ true → p x ≡ true
      → list_all p (take (i + 1) xs) ≡ true
  rest-more zero [] rest x is all here = cc
  rest-more zero (y ∷ ys) rest x is all here =
      let same : y ≡ x = cc in
      ap (λ z. p z && true) same ∙ ap (λ b. b && true) here
  rest-more (suc i) [] rest x is all here = cc
  rest-more (suc i) (y ∷ ys) rest x is all here =
      let parts = and-parts (p y) (list_all p (take i ys)) all in
      let one : suc i + 1 ≡ suc (i + 1) = omega arith in
      ap (λ k. list_all p (take k (y ∷ ys))) one
      ∙ ap (λ b. b && list_all p (take (i + 1) ys)) parts.0
      ∙ rest-more i ys rest x is parts.1 here

  pub rest-false : (i : ℕ) (xs rest : List A) (x : A) → drop i xs ≡ x ∷ rest → p x ≡ false → list_all p xs ≡ false
  rest-false zero [] rest x is here = cc
  rest-false zero (y ∷ ys) rest x is here =
      let same : y ≡ x = cc in
      ap (λ b. b && list_all p ys) (ap p same ∙ here)
  rest-false (suc i) [] rest x is here = cc
  rest-false (suc i) (y ∷ ys) rest x is here = and-false (p y) (list_all p ys) (rest-false i ys rest x is here)

pub rest-drop : {A : Type 0} (i : ℕ) (xs rest : List A) (x : A) → drop i xs ≡ x ∷ rest → drop (i + 1) xs ≡ rest
rest-drop i xs rest x is = ap (λ k. drop k xs) (omega arith) ∙ sym (drop-drop 1 i xs) ∙ ap (drop 1) is

-- ---- names

bytes-same : (k l : List ℕ) → bytes_eq k l ≡ true → k ≡ l
bytes-same k l is = (bytes_eq-Decides k l).0 is

bytes-own : (k : List ℕ) → bytes_eq k k ≡ true
bytes-own k = (bytes_eq-Decides k k).1 refl

pub among-true : (p : List ℕ → Bool) (key : List ℕ) (xs : List (List ℕ)) → list_any (λ k. bytes_eq k key) xs ≡ true → list_all p xs ≡ true
    → p key ≡ true
among-true p key [] is all = cc
among-true p key (k ∷ ks) is all =
    let parts = and-parts (p k) (list_all p ks) all in
    elim (or_cases (bytes_eq k key) (list_any (λ k. bytes_eq k key) ks) is) [
      | inl here ↦ ap p (sym (bytes-same k key here)) ∙ parts.0
      | inr there ↦ among-true p key ks there parts.1
    ]

-- each name has a value
some-more : (k : List ℕ) (d : Document) (ms : Members) (xs : List (List ℕ)) → list_all (λ name. is_some (first_with name ms)) xs ≡ true
    → list_all (λ name. is_some (first_with name (member k d ms))) xs ≡ true
some-more k d ms [] all = refl
some-more k d ms (x ∷ xs) all =
    let parts = and-parts (is_some (first_with x ms)) (list_all (λ name. is_some (first_with name ms)) xs) all in
    ap (λ b. b && list_all (λ name. is_some (first_with name (member k d ms))) xs) (some-cond (bytes_eq k x) d (first_with x ms) parts.0)
    ∙ some-more k d ms xs parts.1

keys-some : (ms : Members) → list_all (λ name. is_some (first_with name ms)) (keys ms) ≡ true
keys-some no_members = refl
keys-some (member k d ms) =
    ap (λ b. is_some (cond b (Some d) (first_with k ms)) && list_all (λ name. is_some (first_with name (member k d ms))) (keys ms))
    (bytes-own k)
    ∙ some-more k d ms (keys ms) (keys-some ms)

-- a name of an object that has it
some-passes : (p : List ℕ → Bool) (ms : Members) (name : List ℕ) → list_all p (keys ms) ≡ true → is_some (first_with name ms) ≡ true
    → p name ≡ true
some-passes p no_members name all some = cc
some-passes p (member k d ms) name all some =
    let parts = and-parts (p k) (list_all p (keys ms)) all in
    elim (cases_Bool (bytes_eq k name)) [
      | inl same ↦ ap p (sym (bytes-same k name same)) ∙ parts.0
      | inr other ↦
          some-passes p ms name parts.1 (ap (λ b. is_some (cond b (Some d) (first_with name ms))) (sym other) ∙ some)
    ]

-- what is to be shown of one name of the second object
at-second : (f : Document → Document → Bool) (ms ns : Members) (name : List ℕ) → list_all (same_at f ms ns) (keys ms) ≡ true
    → is_some (first_with name ns) ≡ true → same_at f ms ns name ≡ is_some (first_with name ms)
at-second f ms ns name all some = at-options f (first_with name ms) (first_with name ns) some (some-passes (same_at f ms ns) ms name all)

all-same : (p q r : List ℕ → Bool) (xs : List (List ℕ)) → ((x : List ℕ) → r x ≡ true → p x ≡ q x) → list_all r xs ≡ true → list_all p xs
    ≡ list_all q xs
all-same p q r [] same all = refl
all-same p q r (x ∷ xs) same all =
    let parts = and-parts (r x) (list_all r xs) all in
    ap (λ b. b && list_all p xs) (same x parts.0) ∙ ap (λ b. q x && b) (all-same p q r xs same parts.1)

pub members-same : (f : Document → Document → Bool) (ms ns : Members)
    → (list_all (same_at f ms ns) (keys ms) && list_all (λ name. is_some (first_with name ms)) (keys ns)) ≡ same_members f ms ns
members-same f ms ns =
    elim (cases_Bool (list_all (same_at f ms ns) (keys ms))) [
      | inl all ↦
          ap (λ b. list_all (same_at f ms ns) (keys ms) && b)
          (sym (all-same (same_at f ms ns) (λ name. is_some (first_with name ms)) (λ name. is_some (first_with name ns)) (keys ns)
          (λ name some. at-second f ms ns name all some) (keys-some ns)))
          ∙ sym (list_all-append (same_at f ms ns) (keys ms) (keys ns))
      | inr not-all ↦
          ap (λ b. b && list_all (λ name. is_some (first_with name ms)) (keys ns)) not-all
          ∙ ap (λ b. b && list_all (same_at f ms ns) (keys ns)) (sym not-all)
          ∙ sym (list_all-append (same_at f ms ns) (keys ms) (keys ns))
    ]

-- ---- what the first node of a value tells

either-node : (b : Bool) (minus : Bool) (n : ℕ) (one other : StaticNode) → item_primitive (static_item one) ≡ primitive (integer minus n)
    → item_primitive (static_item other) ≡ primitive (integer minus n)
    → item_primitive (static_item (cond b one other)) ≡ primitive (integer minus n)
either-node true minus n one other is is' = is
either-node false minus n one other is is' = is'

of-integer : (minus : Bool) (n : ℕ) → item_primitive (static_item (integer_node minus n)) ≡ primitive (integer minus n)
of-integer true n = either-node (nat_le n (max_magnitude_64 true)) true n _ _ refl refl
of-integer false n = either-node (nat_le n (max_magnitude_64 false)) false n _ _ refl refl
