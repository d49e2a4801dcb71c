-- What is printed is read again, and it is of one document.
use Rattle.std.proofs.Common.{◌≡◌, sym, subst, ℕ, ◌≤◌, List, length, true, arith, IsUtf8}
use Rattle.std.specs.Prelude.{Ok}
use Rattle.simd_json_parts.specs.Answer.{answer}
use Rattle.simd_json_parts.specs.Document.{Document}
use Rattle.simd_json_parts.specs.Equality.{equal}
use Rattle.simd_json_theorems.specs.Normalized.{normalized}
use Rattle.simd_json_parts.specs.Grammar.{Denotes}
use Rattle.simd_json_parts.specs.Limits.{depth, max_length, IntegersFit, WithinLimits}
use Rattle.simd_json_theorems.specs.Spellable.{IsSpellable}
use Rattle.simd_json_parts.specs.Printed.{compact}
use Rattle.simd_json_theorems.proofs.Complete.Answer.{answer-Denotes}
use Rattle.simd_json_theorems.proofs.Complete.Utf8Documents.{IsUtf8-Denotes}
use Rattle.simd_json_theorems.proofs.Documents.Equality.{Decides-equal}
use Rattle.simd_json_theorems.proofs.Documents.Spelling.{IsSpellable-denoted}
use Rattle.simd_json_theorems.proofs.Printing.Normalized.{depth-normalized, IntegersFit-normalized}
use Rattle.simd_json_theorems.proofs.Printing.Texts.{Denotes-compact}
use Rattle.simd_json_theorems.proofs.Printing.Shortest.{compact-shortest}
use Rattle.simd_json_theorems.proofs.Sound.Answer.{answer-sound}
use Rattle.simd_json_theorems.proofs.Unique.OneDocument.{document-one}

module _ (print : Document → List ℕ) (denotes : (d : Document) → IsSpellable d → IntegersFit d → Denotes (print d) (normalized d)) where
  -- A printed text is UTF-8,
  pub utf8-printed : (d : Document) → IsSpellable d → IntegersFit d → IsUtf8 (print d)
  utf8-printed d spelled fits = IsUtf8-Denotes (print d) (normalized d) (denotes d spelled fits)

  -- it is of one document but for the sign of a zero,
  pub equal-printed : (d e : Document) → IsSpellable d → IntegersFit d → IsSpellable e → IntegersFit e
      → print d ≡ print e → equal d e ≡ true
  equal-printed d e spelled fits spelled' fits' same =
      (Decides-equal d e).1 (document-one (print d) (normalized d) (normalized e) (denotes d spelled fits)
      (subst (λ bs. Denotes bs (normalized e)) (sym same) (denotes e spelled' fits')))

  -- it is read again,
  pub answer-printed : (d : Document) (limit : ℕ) → IsSpellable d → IntegersFit d → length (print d) ≤ max_length → depth d ≤ limit
      → answer (print d) limit ≡ Ok (normalized d)
  answer-printed d limit spelled fits size nesting =
      let within : WithinLimits (print d) (normalized d) limit =
      record {
        size = size;
        nesting = subst (λ n. n ≤ limit) (sym (depth-normalized d)) nesting;
        integers = IntegersFit-normalized d fits;
      } in
      answer-Denotes (print d) (normalized d) limit (denotes d spelled fits) within

  -- also where the document itself was read.
  pub answer-again : (b : List ℕ) (limit : ℕ) (d : Document) → answer b limit ≡ Ok d → length (print d) ≤ max_length
      → answer (print d) limit ≡ Ok (normalized d)
  answer-again b limit d is size =
      let sound : Denotes b d × WithinLimits b d limit = answer-sound b limit d is in
      answer-printed d limit (IsSpellable-denoted b d sound.0) sound.1.integers size sound.1.nesting

-- Compact text is not longer than what was read.
pub compact-again : (b : List ℕ) (limit : ℕ) (d : Document) → answer b limit ≡ Ok d → answer (compact d) limit ≡ Ok (normalized d)
compact-again b limit d is =
    let sound : Denotes b d × WithinLimits b d limit = answer-sound b limit d is in
    answer-again compact Denotes-compact b limit d is (omega (arith, compact-shortest b d sound.0 sound.1.integers, sound.1.size))
