-- The fault of the whole input, from what a scan finds.
use Rattle.std.proofs.Common.{◌≡◌, ◌∙◌, ap, ap₂, sym, subst, ◌<◌, ◌≤◌, ℕ, zero, suc, List, length, Bool, true, false, not, cond, nat_lt}
use Rattle.std.proofs.Common.{nat_eq, Option, Some, None, IsUtf8, ◌==◌, if◌then◌else◌, refl, arith, ◌⊎◌, inl, inr}
use Rattle.std.specs.Str.{is_utf8}
use Rattle.std.proofs.lemmas.Bool.{true≢false}
use Rattle.simd_json_parts.proofs.Positions.ScannedInputs.{by_size, fault-by_size, scanned, bad_encoding}
use Rattle.simd_json_parts.specs.Faults.{whole_fault}
use Rattle.simd_json_parts.specs.InputFaults.{has_bad_string, input_fault}
use Rattle.simd_json_parts.specs.Limits.{max_length}
use Rattle.simd_json_parts.specs.Positions.{positions}
use Rattle.simd_json_parts.specs.declared.error.Error.{Error}
use Rattle.simd_json_parts.specs.declared.error.ErrorType.TheVariants.{Syntax, Eof}
use Rattle.simd_json_stages.specs.Scans.{IsShort, IsBadEncoding, LacksListMemory}

-- what the two tests on a scan decide
pub fault-found : (b : List ℕ) (bad none : Bool) → length b ≤ max_length → IsUtf8 b → has_bad_string b ≡ bad
    → (length (positions b) == 0) ≡ none
    → input_fault b ≡ (if bad then Some (whole_fault Syntax) else if none then Some (whole_fault Eof) else None)
fault-found b bad none l string e f =
    scanned b l string ∙ ap₂ (λ s t. if s then Some (whole_fault Syntax) else if t then Some (whole_fault Eof) else None) e f

-- lists that are short now were short before they grew
still-short : (b us vs xs ys : List ℕ) → length us ≤ length xs → length vs ≤ length ys → IsShort b xs ys → IsShort b us vs
still-short b us vs xs ys l m (inl short) = inl (omega arith)
still-short b us vs xs ys l m (inr short) = inr (omega arith)

pub scan-fault : (b : List ℕ) (e : Error) (us vs xs ys : List ℕ) → length b ≤ max_length → length us ≤ length xs → length vs ≤ length ys
    → IsBadEncoding b e ⊎ LacksListMemory b e xs ys → (input_fault b ≡ Some e) ⊎ LacksListMemory b e us vs
scan-fault b e us vs xs ys size l m (inl bad) = inl (bad_encoding b size bad.1 ∙ ap Some (sym bad.0))
scan-fault b e us vs xs ys size l m (inr (is, fits, string, short)) = inr (is, fits, string, still-short b us vs xs ys l m short)

-- where nothing is wrong with the whole, some position is there
abbrev is_none : Option Error → Bool
is_none None = true
is_none (Some e) = false

some_fault : (p q r : Bool) (e f g h : Error) → is_none (cond p (Some e) (cond q (Some f) (cond r (Some g) (Some h)))) ≡ false
some_fault true q r e f g h = refl
some_fault false true r e f g h = refl
some_fault false false true e f g h = refl
some_fault false false false e f g h = refl

pub some-positions : (b : List ℕ) → input_fault b ≡ None → 0 < length (positions b)
some-positions b none = by_length (length (positions b)) refl where
  fault-at : ℕ → Option Error
  fault-at n = by_size (nat_lt max_length (length b)) (is_utf8 b)
      (cond (has_bad_string b) (Some (whole_fault Syntax)) (cond (nat_eq n 0) (Some (whole_fault Eof)) None))

  by_length : (n : ℕ) → length (positions b) ≡ n → 0 < n
  by_length zero is =
      absurd (true≢false (ap is_none (sym none ∙ fault-by_size b ∙ ap fault-at is)
      ∙ some_fault (nat_lt max_length (length b)) (not (is_utf8 b)) (has_bad_string b) _ _ _ _))
  by_length (suc n) is = omega arith

pub some-listed : (b ps : List ℕ) → ps ≡ positions b → input_fault b ≡ None → 0 < length ps
some-listed b ps is none = subst (λ ps. 0 < length ps) (sym is) (some-positions b none)
