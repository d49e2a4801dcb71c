-- Levels in a list that grows with what is open.
use Rattle.std.proofs.Common.{◌≡◌, ◌∙◌, ap, sym, subst, ◌<◌, ◌≤◌, ◌+◌, ◌^◌, ◌⊎◌, inl, inr, ℕ, Bool, List, [], ◌∷◌, ◌++◌, length, map, take}
use Rattle.std.proofs.Common.{drop, get_or, arith, Result, Ok, Err, IsErrAnd, MatchResult}
use Rattle.std.proofs.lemmas.List.{get_or-take, length-map}
use Rattle.std.proofs.Math.Seq.{take-append_seam}
use Rattle.simd_json_parts.specs.Document.{Document}
use Rattle.simd_json_parts.specs.Headers.{count_of}
use Rattle.simd_json_parts.specs.Nodes.{Item, item_of}
use Rattle.simd_json_parts.specs.Printed.{text}
use Rattle.simd_json_parts.specs.declared.node.Node.{Node}
use Rattle.simd_json_print.specs.Frames.{IsAtValue, IsDeep, no_level}
use Rattle.simd_json_print.specs.Texts.{IsPrefix}
use Rattle.simd_json_print.specs.declared.document.walk.Level.{Level}
use Rattle.simd_json_print.proofs.Nestings.{at-longer}

-- a slice of the whole list, which is given back
pub put-back : {A : Type 0} (n : ℕ) (xs zs ys : List A) → zs ≡ xs → n ≡ length xs → xs ≡ take n (zs ++ drop (length zs) ys)
put-back n xs zs ys same is =
    sym (ap (λ k. take k (zs ++ drop (length zs) ys)) (is ∙ ap length (sym same)) ∙ take-append_seam zs _ ∙ same)

-- the first of a longer list
longer : (levels new : List Level) → take (length levels) new ≡ levels → (k : ℕ) → k < length levels
    → get_or new k no_level ≡ get_or levels k no_level
longer levels new is k less = sym (get_or-take (length levels) new k no_level less) ∙ ap (λ ls. get_or ls k no_level) is

pub at-first : (p : Bool) (n : ℕ) (levels new : List Level) (o : ℕ) (items : List Item) (done : List ℕ) (root : Document)
    → o ≤ length levels → take (length levels) new ≡ levels → IsAtValue p n levels o items done root → IsAtValue p n new o items done root
at-first p n levels new o items done root fits is at = at-longer p n levels new o items done root fits (longer levels new is) at

-- what is printed in front of a value
pub at-prefix : (p : Bool) (n : ℕ) (levels : List Level) (o : ℕ) (items : List Item) (done : List ℕ) (root : Document)
    → IsAtValue p n levels o items done root → IsPrefix done (text p root n)
at-prefix p n levels o items done root is = ap (take (length done)) (sym is.printed) ∙ take-append_seam done _

-- with one level more than are in use, a step ends behind the first node
pub smaller : (levels new : List Level) (o k : ℕ) (ns left : List Node) → o < length levels → length new ≡ length levels
    → k + length left ≤ o + length ns → o + length ns < 2 ^ 32 → 0 < length ns
    → IsDeep new k (map item_of left) → length left < length ns
smaller levels new o k ns [] more same room few some deep = some
smaller levels new o k ns (x ∷ left) more same room few some deep = by-case deep.1
  where
    by-case : (length new ≤ k) ⊎ (count_of (item_of x) + 2 ^ 32 ≤ length (map item_of left)) → length (x ∷ left) < length ns
    by-case (inl full) = omega (arith, full, more, same, room)
    by-case (inr great) = absurd (omega (arith, great, few, room, length-map left item_of, more))

-- ---- results

pub on-match : {A E : Type 0} (r : Result A E) (P Q R S : Type 0) → (P → R) → (Q → S) → MatchResult r (λ _. P) (λ _. Q)
    → MatchResult r (λ _. R) (λ _. S)
on-match (Ok x) P Q R S f g is = f is
on-match (Err e) P Q R S f g is = g is

pub was-ok : {A E : Type 0} (r : Result A E) (x : A) (P Q : Type 0) → r ≡ Ok x → MatchResult r (λ _. P) (λ _. Q) → P
was-ok r x P Q is on = subst (λ q. MatchResult q (λ _. P) (λ _. Q)) is on

pub was-err : {A E : Type 0} (r : Result A E) (e : E) (P Q : Type 0) → r ≡ Err e → MatchResult r (λ _. P) (λ _. Q) → Q
was-err r e P Q is on = subst (λ q. MatchResult q (λ _. P) (λ _. Q)) is on

-- the exit of a `?`
pub failed : {A E : Type 0} (r : Result A E) (e : E) (P Q : Type 0) → IsErrAnd r (λ x. x ≡ e) → Q → MatchResult r (λ _. P) (λ _. Q)
failed (Ok x) e P Q is q = absurd is
failed (Err x) e P Q is q = q
