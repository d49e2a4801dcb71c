-- What was found, if something was.
use Rattle.std.proofs.Common.{◌≡◌, subst}
use Rattle.std.specs.Prelude.{Option, Some, None, Result, Ok, Err, IfOk, IfSome}

pub found-some : {A : Type 0} (P : A → Type 0) (found : Option A) (a : A) → found ≡ Some a → IfSome found P → P a
found-some P found a is said = subst (λ f. IfSome f P) is said

pub found-is : {A E : Type 0} (P Q : A → Type 0) (r : Result (Option A) E) → ((a : A) → P a → Q a) → IfOk r (λ found. IfSome found P)
    → IfOk r (λ found. IfSome found Q)
found-is P Q (Ok (Some a)) implies said = implies a said
found-is P Q (Ok None) implies said = tt
found-is P Q (Err e) implies said = tt

pub ok-is : {A E : Type 0} (P Q : A → Type 0) (r : Result A E) → ((a : A) → P a → Q a) → IfOk r P → IfOk r Q
ok-is P Q (Ok a) implies said = implies a said
ok-is P Q (Err e) implies said = tt
