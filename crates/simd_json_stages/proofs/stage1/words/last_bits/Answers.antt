use Rattle.std.proofs.Common.{◌≡◌, ◌∙◌, sym, ap, ℕ, suc, ◌+◌, ◌-◌, ◌/◌, ◌%◌, ◌^◌, ◌==◌, arith}
use Rattle.std.proofs.Math.Nat.{div-div-eq-div-mul, div-le_self}
use Rattle.std.proofs.lemmas.Nat.{pow-add}
use Rattle.simd_json_stages.specs.Words.{is_set}
use Rattle.simd_json_stages.proofs.Scan.Bits.Operations.{is_set-above, is_set-half}
use Rattle.simd_json_stages.proofs.stage1.words.last_bits.Goals as goal

is_set-shr : (x k i : ℕ) → is_set (x / 2 ^ k) i ≡ is_set x (k + i)
unfolding is_set
is_set-shr x k i = ap (λ n. n % 2 == 1) (div-div-eq-div-mul x (2 ^ k) (2 ^ i) ∙ ap (λ m. x / m) (sym (pow-add 2 k i)))

moved : (x k i : ℕ) → is_set (x / 2 / 2 ^ k) i ≡ is_set x (suc (k + i))
moved x k i = is_set-shr (x / 2) k i ∙ sym (is_set-half x (k + i))

pub returns : goal.returns
returns c =
    let k : ℕ = 63 - c.args.len in
    record {
      small = let less = div-le_self (c.args.word / 2) (2 ^ k) in omega (arith, c.ranges.word.fits);
      front = λ i l. let there : suc (k + i) ≡ 64 - c.args.len + i = omega arith in
          moved c.args.word k i ∙ ap (is_set c.args.word) there;
      behind = λ i f l. moved c.args.word k i ∙ is_set-above c.args.word 64 (suc (k + i)) c.ranges.word.fits (omega arith);
    }
