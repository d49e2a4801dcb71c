use Rattle.std.proofs.Common.{◌-◌, ◌+◌, sym, length, length-drop, drop, true≢false, arith}
use Rattle.std.proofs.lemmas.List.{take_all}
use Rattle.simd_json_parts.proofs.Pointers.Fronts.{plain-front, slash-front}
use Rattle.simd_json_parts.proofs.pointer.token.next_token.Goals as goal

pub overflow_add-result-then-is_tilde_at : goal.overflow_add-result-then-is_tilde_at
overflow_add-result-then-is_tilde_at c =
    let p = c.args.pointer.now in
    let n = c.args.at + 1 in
    let rest = take_all (length p - n) (drop n p) (omega (arith, length-drop n p)) in
    let token = slash-front p _ c.args.at _ rest (c.if-at-pointer.false, c.if-pointer-at-ne47.false) c.front_len.ensures in
    omega (arith, token.within)

pub returns-then-is_tilde_at : goal.returns-then-is_tilde_at
returns-then-is_tilde_at c =
    let p = c.args.pointer.now in
    let n = c.args.at + 1 in
    let rest = take_all (length p - n) (drop n p) (omega (arith, length-drop n p)) in (
      slash-front p _ c.args.at _ rest (c.if-at-pointer.false, c.if-pointer-at-ne47.false) c.front_len.ensures,
      λ no. absurd (true≢false (sym no)),
    )

pub overflow_add-result-3 : goal.overflow_add-result-3
overflow_add-result-3 c =
    let p = c.args.pointer.now in
    let n = c.args.at + 1 in
    let rest = take_all (length p - n) (drop n p) (omega (arith, length-drop n p)) in
    let token = plain-front p _ c.args.at _ rest (c.if-at-pointer.false, c.if-pointer-at-ne47.false) c.front_len-front.ensures
    (λ less e. true≢false (sym (c.if-is_tilde_at.ensures.1 (less, e)))) in
    omega (arith, token.0.within)

pub returns : goal.returns
returns c =
    let p = c.args.pointer.now in
    let n = c.args.at + 1 in
    let rest = take_all (length p - n) (drop n p) (omega (arith, length-drop n p)) in
    let token = plain-front p _ c.args.at _ rest (c.if-at-pointer.false, c.if-pointer-at-ne47.false) c.front_len-front.ensures
    (λ less e. true≢false (sym (c.if-is_tilde_at.ensures.1 (less, e)))) in
    (token.0, λ yes. token.1)
