-- What a call returns whose error became another.
use Rattle.std.proofs.Common.{◌≡◌, ap, refl, subst, Bool, false, true, Result, Ok, Err}
use Rattle.std.specs.Prelude.{IsErrAnd, MatchResult, is_err, ◌||◌}
use Rattle.programs.specs.Failures.{name_fault}
use Rattle.programs.specs.declared.failure.Failure.{Failure}

-- what a call on a port that names rejected lines ends in: P or Q
abbrev pub NamesIn : Result Unit Failure → Bool → Type 0 → Type 0 → Type 0
NamesIn q new P Q = MatchResult q (λ _. (new ≡ false) × P) (λ failure. (failure ≡ name_fault new) × Q)

value-is : {T F : Type 0} (q : Result T F) (y x : T) → q ≡ Ok y → q ≡ Ok x → y ≡ x
value-is q y x a b = cc

clash : {T F P : Type 0} (q : Result T F) (y : T) (d : F) → q ≡ Ok y → q ≡ Err d → P
clash q y d a b = cc

-- a value that came through `map_err`
pub mapped : {T E F : Type 0} (r : Result T E) (q : Result T F) (x : T) (post : E → F → Type 0)
    → MatchResult r (λ y. q ≡ Ok y) (λ e. IsErrAnd q (post e)) → q ≡ Ok x → r ≡ Ok x
mapped (Ok y) q x post is same = ap Ok (value-is q y x is same)
mapped (Err e) q x post is same = absurd (subst (λ q. IsErrAnd q (post e)) same is)

-- an error that became this one
pub failed-as : {T E F : Type 0} (r : Result T E) (q : Result T F) (d : F) (P : F → Type 0) (post : E → F → Type 0)
    → MatchResult r (λ y. q ≡ Ok y) (λ e. IsErrAnd q (post e)) → q ≡ Err d → ((e : E) (d : F) → post e d → P d)
    → P d × (is_err r ≡ true)
failed-as (Ok y) q d P post is same says = clash q y d is same
failed-as (Err e) q d P post is same says = (says e d (subst (λ q. IsErrAnd q (post e)) same is), refl)

pub or-false : (a b : Bool) → a ≡ false → b ≡ false → (a || b) ≡ false
or-false true b is none = cc
or-false false b is none = none

-- ---- a call that names a rejected line

-- what follows of it
pub weaker : (r : Result Unit Failure) (new : Bool) (P Q S T : Type 0) → (P → S) → (Q → T) → NamesIn r new P Q → NamesIn r new S T
weaker (Ok u) new P Q S T then left h = (h.0, then h.1)
weaker (Err e) new P Q S T then left h = (h.0, left h.1)

-- an error that `?` hands on
pub handed-on : (q : Result Unit Failure) (new : Bool) (post : Failure → Type 0) (P Q : Type 0) → IsErrAnd q post
    → ((e : Failure) → post e → e ≡ name_fault new) → Q → NamesIn q new P Q
handed-on (Ok u) new post P Q is says left = absurd is
handed-on (Err e) new post P Q is says left = (says e is, left)
