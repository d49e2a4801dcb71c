use Rattle.std.proofs.Common.{sym, ap, ◌∙◌, ℕ, ◌-◌, List, [], ◌∷◌, ◌++◌, length, take, drop, arith}
use Rattle.std.proofs.lemmas.List.{take_rest}
use Rattle.std.proofs.lemmas.List.Sums.{prefix_len-le-length}
use Rattle.simd_json_parts.specs.Followed.{is_neither}
use Rattle.simd_json_parts.proofs.Lists.Prefixes.{stripped}
use Rattle.simd_json_parts.proofs.Pointers.Stripping.{IsStripped-whole, IsStripped-more, IsStripped-other, strips-left, strips-run}
use Rattle.simd_json_parts.proofs.Pointers.Stripping.{unlike-run, goes-on, no-escape, other-byte, byte-and-others}
use Rattle.simd_json_parts.proofs.pointer.key.strip_decoded.Goals as goal

pub loop-wanted-init : goal.loop-wanted-init
loop-wanted-init c = IsStripped-whole c.args.token.now c.args.front.now

pub returns-then-wanted-run : goal.returns-then-wanted-run
returns-then-wanted-run c =
    strips-left _ _ c.loop-wanted.left.now c.loop-wanted.wanted.now c.strip_prefix.result c.loop-wanted.invariant
    (omega (arith, c.if-wanted-run.true, c.front_len-run.ensures)) c.strip_prefix.ensures.cases

pub returns-in_default : goal.returns-in_default
returns-in_default c =
    let left : List ℕ = c.loop-wanted.left.now in
    let wanted : List ℕ = c.loop-wanted.wanted.now in
    let run = c.front_len-run.ensures in
    IsStripped-other _ _ left wanted c.loop-wanted.invariant
    (unlike-run left wanted c.front_len-run.result (omega (arith, run)) (omega (arith, run, prefix_len-le-length (is_neither 126 126) left))
    (omega (arith, c.if-wanted-run.false)) c.in_default.ensures.cases)

pub returns-in_default-first_byte : goal.returns-in_default-first_byte
returns-in_default-first_byte c =
    let left : List ℕ = c.loop-wanted.left.now in
    let wanted : List ℕ = c.loop-wanted.wanted.now in
    let others : List ℕ = c.in-Some.others.now in
    let e = c.in-Some.ensures.cases in
    let split = stripped wanted (take c.front_len-run.result left) others e.0 e.1 in
    let s = strips-run _ _ left wanted others c.front_len-run.result c.loop-wanted.invariant c.front_len-run.ensures split in
    IsStripped-other _ _ _ others s
    (no-escape _ others (goes-on left wanted others _ c.if-wanted-run.false split) c.in_default-first_byte.ensures)

pub returns-then-others-first : goal.returns-then-others-first
returns-then-others-first c =
    let left : List ℕ = c.loop-wanted.left.now in
    let wanted : List ℕ = c.loop-wanted.wanted.now in
    let others : List ℕ = c.in-Some.others.now in
    let e = c.in-Some.ensures.cases in
    let split = stripped wanted (take c.front_len-run.result left) others e.0 e.1 in
    let s = strips-run _ _ left wanted others c.front_len-run.result c.loop-wanted.invariant c.front_len-run.ensures split in
    IsStripped-other _ _ _ others s
    (other-byte (take (length left - c.front_len-run.result) (drop c.front_len-run.result left)) c.in-Some-first_byte.rest.now others
    c.in-Some-first_byte.first (goes-on left wanted others _ c.if-wanted-run.false split) c.if-others-first.true
    c.in-Some-first_byte.ensures.0)

pub loop-wanted-preserved : goal.loop-wanted-preserved
loop-wanted-preserved c =
    let left : List ℕ = c.loop-wanted.left.now in
    let wanted : List ℕ = c.loop-wanted.wanted.now in
    let others : List ℕ = c.in-Some.others.now in
    let e = c.in-Some.ensures.cases in
    let split = stripped wanted (take c.front_len-run.result left) others e.0 e.1 in
    let s = strips-run _ _ left wanted others c.front_len-run.result c.loop-wanted.invariant c.front_len-run.ensures split in
    IsStripped-more _ _ _ others (c.in-Some-first_byte.first ∷ []) _ c.in-Some-first_byte.rest.now s
    (byte-and-others others c.in-Some-first_byte.first (goes-on left wanted others _ c.if-wanted-run.false split) c.if-others-first.false
    ∙ ap (λ us. (c.in-Some-first_byte.first ∷ []) ++ us) (sym (take_rest others 1)))
    c.in-Some-first_byte.ensures.0
