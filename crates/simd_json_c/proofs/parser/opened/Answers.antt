use Rattle.std.proofs.Common.{◌≡◌, subst, sym, Some, Result, Ok, Err, IfOk}
use Rattle.std.specs.Result.{result_ok}
use Rattle.simd_json_c.specs.Kept.{AreNew}
use Rattle.simd_json_c.proofs.parser.opened.Goals as goal

taken : {A E : Type 0} (P : A → Type 0) (x : A) (r : Result A E) → Some x ≡ result_ok r → IfOk r P → P x
taken P x (Ok y) is p = let same : y ≡ x = cc in subst P same p
taken P x (Err e) is p = absurd (cc)

pub returns : goal.returns
returns c =
    let lists = c.new-lists.result in
    let same = taken (λ b. b.value ≡ lists) c.in_ok-ok.field-0 c.new.result c.in_ok-ok.ensures.value c.new.ensures.ok in
    (c.in_ok-ok.field-0.value, c.open.ensures, subst (AreNew c.args.max_depth) (sym same) c.new-lists.ensures)
