-- Escaped text by runs that need no escape.
use Rattle.std.proofs.Common.{◌≡◌, ◌∙◌, ap, sym, ◌<◌, ℕ, List, [], ◌∷◌, ◌++◌, length, take, drop, get_or, flat_map, append_assoc}
use Rattle.std.proofs.Common.{append-nil, take-append-drop, false, arith}
use Rattle.std.proofs.lemmas.Bool.Decides.{nat_tests}
use Rattle.simd_json_parts.specs.Bytes.{is_control}
use Rattle.simd_json_scalars.specs.StringContent.{is_stop}
use Rattle.std.proofs.lemmas.List.Concat.{flat_map-append}
use Rattle.simd_json_parts.specs.Printed.{escaped_byte}
use Rattle.simd_json_print.specs.Texts.{TargetState, Adds}
use Rattle.simd_json_print.specs.declared.text.Text.{Text}
use Rattle.simd_json_print.proofs.Texts.{adds-then}

-- ---- bytes that are printed as they are

pub plain-byte : (x : ℕ) → is_stop x ≡ false → is_control x ≡ false → escaped_byte x ≡ x ∷ []
plain-byte x stop control = grind (arith, nat_tests, stop, control)

-- ---- runs

-- a run, and what stands after it
split-run : (bytes others : List ℕ) (k : ℕ) → others ≡ drop k bytes
    → flat_map escaped_byte bytes ≡ flat_map escaped_byte (take k bytes) ++ flat_map escaped_byte others
split-run bytes others k back =
    ap (flat_map escaped_byte) (sym (take-append-drop k bytes)) ∙ flat_map-append escaped_byte (take k bytes) (drop k bytes)
    ∙ ap (λ us. flat_map escaped_byte (take k bytes) ++ flat_map escaped_byte us) (sym back)

-- where nothing is left
pub no-run : (done bytes whole : List ℕ) → done ++ flat_map escaped_byte bytes ≡ whole → length bytes ≡ 0 → done ≡ whole
no-run done [] whole so_far none = sym (append-nil done) ∙ so_far
no-run done (x ∷ xs) whole so_far none = cc

-- a run that is the last
pub last-run : (done bytes others whole : List ℕ) (k : ℕ) → done ++ flat_map escaped_byte bytes ≡ whole → others ≡ drop k bytes
    → length others ≡ 0 → done ++ flat_map escaped_byte (take k bytes) ≡ whole
last-run done bytes [] whole k so_far back none =
    ap (λ us. done ++ us) (sym (append-nil (flat_map escaped_byte (take k bytes))) ∙ sym (split-run bytes [] k back)) ∙ so_far
last-run done bytes (x ∷ xs) whole k so_far back none = cc

-- a run, and the byte after it
one-run : (done bytes others whole : List ℕ) (k default : ℕ) → done ++ flat_map escaped_byte bytes ≡ whole → others ≡ drop k bytes
    → 0 < length others → (done ++ (flat_map escaped_byte (take k bytes) ++ escaped_byte (get_or others 0 default)))
    ++ flat_map escaped_byte (drop 1 others) ≡ whole
one-run done bytes [] whole k default so_far back some = absurd (omega arith)
one-run done bytes (x ∷ xs) whole k default so_far back some =
    append_assoc done (flat_map escaped_byte (take k bytes) ++ escaped_byte x) (flat_map escaped_byte xs)
    ∙ ap (λ us. done ++ us) (append_assoc (flat_map escaped_byte (take k bytes)) (escaped_byte x) (flat_map escaped_byte xs)
    ∙ sym (split-run bytes (x ∷ xs) k back)) ∙ so_far

pub given-run : {T : Type 0} {size : ℕ} (state : T → TargetState) (a b c d : Text T size)
    (done bytes others after whole : List ℕ) (k default : ℕ)
    → Adds state a b done → done ++ flat_map escaped_byte bytes ≡ whole → Adds state b c (flat_map escaped_byte (take k bytes))
    → Adds state c d (escaped_byte (get_or others 0 default)) → others ≡ drop k bytes → 0 < length others → after ≡ drop 1 others
    → (more : List ℕ) × Adds state a d more × (more ++ flat_map escaped_byte after ≡ whole)
given-run state a b c d done bytes others after whole k default g so_far h e back some next = (
  done ++ (flat_map escaped_byte (take k bytes) ++ escaped_byte (get_or others 0 default)),
  adds-then state a b d done _ g (adds-then state b c d (flat_map escaped_byte (take k bytes)) _ h e),
  ap (λ us. (done ++ (flat_map escaped_byte (take k bytes) ++ escaped_byte (get_or others 0 default))) ++ flat_map escaped_byte us) next
      ∙ one-run done bytes others whole k default so_far back some,
)
