-- What the exit of a `?` returns.
use Rattle.std.proofs.Common.{◌≡◌, sym, subst}
use Rattle.std.specs.Prelude.{Result, Ok, Err, IfErr, IsErrAnd}

-- an error that is handed on
pub passed-on : {A E : Type 0} (r : Result A E) (e : E) (P : E → Type 0) → IsErrAnd r (λ x. x ≡ e) → P e → IfErr r P
passed-on (Ok x) e P is p = tt
passed-on (Err x) e P is p = subst P (sym is) p

-- and is known by an equation
pub passed-as : {A E : Type 0} (P : E → Type 0) (r : Result A E) {e f : E} → IsErrAnd r (λ x. x ≡ e) → e ≡ f → P f → IfErr r P
passed-as P r {e} is same p = passed-on r e P is (subst P (sym same) p)
