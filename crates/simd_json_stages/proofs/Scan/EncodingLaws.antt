-- UTF-8 that is tested a part at a time.
use Rattle.std.proofs.Common.{◌≡◌, sym, ◌∙◌, ap, subst, ℕ, ◌+◌, ◌-◌, ◌<◌, ◌≤◌, inl, inr, List, length, get_or, take, drop}
use Rattle.std.proofs.Common.{take-append-drop, arith, length-drop}
use Rattle.std.specs.Str.{IsUtf8, IsAscii}
use Rattle.std.proofs.Math.Seq.{take-add}
use Rattle.std.proofs.lemmas.Bool.{cases_lt}
use Rattle.std.proofs.lemmas.Str.{IsUtf8-append, IsUtf8-drop, IsUtf8-from_ascii, IsCharBoundary-from_take}
use Rattle.std.proofs.lemmas.Simd.{get_or-chunk}
use Rattle.std.proofs.lemmas.List.{get_or_past, get_or_default, length-take-le, take_rest, take_all}
use Rattle.std.specs.Prelude.{Result, Ok, Err, IfOk}
use Rattle.simd_json_parts.specs.declared.error.Error.{Error}
use Rattle.simd_json_stages.specs.Blocks as blocks

-- up to an index, and from there on
pub utf8-whole : (b : List ℕ) (i : ℕ) → IsUtf8 (take i b) → IsUtf8 (take (length b - i) (drop i b)) → IsUtf8 b
utf8-whole b i before after = subst IsUtf8 (take-append-drop i b)
    (IsUtf8-append (take i b) (drop i b) before (subst IsUtf8 (take_rest b i) after))

-- what is after, where the bytes up to the index are UTF-8
pub utf8-rest : (b : List ℕ) (i : ℕ) → i ≤ length b → IsUtf8 (take i b) → IsUtf8 b → IsUtf8 (take (length b - i) (drop i b))
utf8-rest b i l before all = subst IsUtf8 (sym (take_rest b i)) (IsUtf8-drop b i all (IsCharBoundary-from_take b i all l before))

-- all of it was tested
pub utf8-all : (b : List ℕ) (r : Result ℕ Error) → IfOk r (λ to. (to ≡ length b) × IsUtf8 b)
    → IfOk r (λ to. (to ≤ length b) × IsUtf8 (take to b))
utf8-all b (Ok to) h = (omega (arith, h.0), subst IsUtf8 (sym (take_all to b (omega (arith, h.0)))) h.1)
utf8-all b (Err e) h = tt

-- up to an index, and from there to another
pub utf8-further : (b : List ℕ) (i j : ℕ) → i ≤ j → IsUtf8 (take i b) → IsUtf8 (take (j - i) (drop i b)) → IsUtf8 (take j b)
utf8-further b i j l before between =
    let at : i + (j - i) ≡ j = omega arith in
    subst IsUtf8 (sym (take-add i (j - i) b) ∙ ap (λ n. take n b) at) (IsUtf8-append (take i b) (take (j - i) (drop i b)) before between)

-- bytes of ASCII between
pub utf8-ascii : (b : List ℕ) (i j : ℕ) → i ≤ j → j ≤ length b → IsUtf8 (take i b) → blocks.IsAscii b i j → IsUtf8 (take j b)
utf8-ascii b i j l m before small = utf8-further b i j l before (IsUtf8-from_ascii (take (j - i) (drop i b)) ascii)
  where
    ascii : IsAscii (take (j - i) (drop i b))
    ascii k = elim (cases_lt k (j - i)) [
      | inl within ↦ subst (λ x. x < 128) (sym (get_or-chunk i (j - i) b k 0 within
          ∙ get_or_default b (i + k) 0 32 (omega arith))) (small (i + k) (omega arith) (omega arith))
      | inr past ↦
          let none : get_or (take (j - i) (drop i b)) k 0 ≡ 0 = get_or_past (take (j - i) (drop i b)) k 0
          (omega (arith, length-take-le (j - i) (drop i b), length-drop i b)) in
          subst (λ x. x < 128) (sym none) (omega arith)
    ]

-- tested up to the end
pub utf8-reached : (b : List ℕ) (to : ℕ) → to ≡ length b → IsUtf8 (take to b) → IsUtf8 b
utf8-reached b to e h = subst IsUtf8 (take_all to b (omega arith)) h
