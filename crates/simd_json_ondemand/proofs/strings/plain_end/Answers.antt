use Rattle.std.proofs.Common.{◌≡◌, ◌∙◌, sym, ap, ℕ, List, ◌+◌, ◌-◌, take, drop, length, arith}
use Rattle.std.specs.List.{prefix_len}
use Rattle.std.proofs.lemmas.List.{length-drop, take_rest}
use Rattle.simd_json_scalars.specs.StringContent.{is_plain}
use Rattle.simd_json_ondemand.proofs.Quoted.{plain-run}
use Rattle.simd_json_ondemand.proofs.strings.plain_end.Goals as goal

pub returns-in-Some-clause-value : goal.returns-in-Some-clause-value
returns-in-Some-clause-value c =
    let bs : List ℕ = c.args.bytes.now in
    let us : List ℕ = take (length bs - c.args.from) (drop c.args.from bs) in
    let same : us ≡ drop c.args.from bs = take_rest bs c.args.from in
    let e = c.in-Some.ensures in
    let run : c.in-Some.at ≡ prefix_len is_plain us = plain-run us c.in-Some.at (omega (arith, e.0.high))
    (λ k h. e.0.before k (omega arith) h) (λ _. e.1) in
    ap (λ n. c.args.from + n) (run ∙ ap (prefix_len is_plain) same)

pub returns-in-None-clause-value : goal.returns-in-None-clause-value
returns-in-None-clause-value c =
    let bs : List ℕ = c.args.bytes.now in
    let us : List ℕ = take (length bs - c.args.from) (drop c.args.from bs) in
    let same : us ≡ drop c.args.from bs = take_rest bs c.args.from in
    let run : length us ≡ prefix_len is_plain us =
    plain-run us (length us) (omega arith) (λ k h. c.in-None.ensures k (omega arith) h) (λ h. absurd (omega (arith, h))) in
    let whole : length (drop c.args.from bs) ≡ prefix_len is_plain (drop c.args.from bs) =
    ap length (sym same) ∙ run ∙ ap (prefix_len is_plain) same in
    omega (arith, c.requires, whole, length-drop c.args.from bs)
