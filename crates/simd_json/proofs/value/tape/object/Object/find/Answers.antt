use Rattle.std.proofs.Common.{◌≡◌, ◌∙◌, ap, sym, length, bytes_eq, cond, true, false, Some}
use Rattle.std.proofs.lemmas.Bool.{false_from_ne_true}
use Rattle.std.proofs.lemmas.Slice.Eq.{bytes_eq-Decides}
use Rattle.simd_json_parts.specs.Views.{first_with}
use Rattle.simd_json.specs.Viewed.{doc, pairs}
use Rattle.simd_json_parts.proofs.Documents.Members.{first_with-pair, members_cancel}
use Rattle.simd_json.proofs.value.tape.object.Object.find.Goals as goal
use Rattle.simd_json.proofs.value.tape.object.Object.find.Goals.{else-key-k-via-then-key-k+else-is_same, else-key-k-via-else-key-k}

pub loop-key-init : goal.loop-key-init
loop-key-init c =
    ap (λ it. first_with c.args.k.now (pairs it.left)) c.into_iter-key-iterator.ensures.into_iter_gives
    ∙ ap (first_with c.args.k.now) (members_cancel _ (pairs c.args.self.now) c.iter-key-items.ensures)

pub returns-then-is_same : goal.returns-then-is_same
returns-then-is_same c =
    let k = c.args.k.now in
    let value = c.in-Some.value in
    let same : bytes_eq c.in-Some.key.now k ≡ true = sym c.is_same.ensures ∙ c.if-is_same.true in
    let steps = first_with-pair k c.in-Some.key.now (doc value) (pairs c.loop-key.key-iterator.left)
    (pairs c.next.new.self.left) c.in-Some.ensures.steps in
    ap (λ b. cond b (Some (doc value)) (first_with k (pairs c.next.new.self.left))) (sym same) ∙ sym steps ∙ c.loop-key.invariant

pub loop-key-preserved : goal.loop-key-preserved
loop-key-preserved c =
    let k = c.args.k.now in
    let key = c.in-Some.key.now in
    let value = c.in-Some.value in
    let same : bytes_eq key k ≡ false = elim c.else-key-k.branch [
      | else-key-k-via-then-key-k+else-is_same w ↦ sym w.is_same.ensures ∙ w.if-is_same.false
      | else-key-k-via-else-key-k w ↦ false_from_ne_true _ (λ e. w.if-key-k.false (ap length ((bytes_eq-Decides key k).0 e)))
    ] in
    let steps = first_with-pair k key (doc value) (pairs c.loop-key.key-iterator.left)
    (pairs c.next.new.self.left) c.in-Some.ensures.steps in
    ap (λ b. cond b (Some (doc value)) (first_with k (pairs c.next.new.self.left))) (sym same) ∙ sym steps ∙ c.loop-key.invariant
