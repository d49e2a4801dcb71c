use Rattle.std.proofs.Common.{◌≡◌, ◌∙◌, ◌++◌, ap, sym, List, [], ◌∷◌, ℕ, append_assoc}
use Rattle.std.specs.Fmt.{decimal}
use Rattle.std.specs.Prelude.{codes}
use Rattle.simd_json_parts.specs.Bytes.{line_feed}
use Rattle.programs.specs.Rejections.{rejection_words}
use Rattle.programs.proofs.rejection.rejection_words.Goals as goal

from-nothing : (old new added wanted : List ℕ) → new ≡ old ++ added → old ≡ [] → added ≡ wanted → new ≡ wanted
from-nothing old new added wanted is none same = is ∙ ap (λ t. t ++ added) none ∙ same

too-long : (number longest : List ℕ) → 58 ∷ (number ++ (codes ": longer than " ++ (longest ++ (codes " bytes (--longest)" ++ (10 ∷ [])))))
    ≡ codes ":" ++ number ++ codes ": longer than " ++ longest ++ codes " bytes (--longest)" ++ line_feed ∷ []
too-long number longest = simp append_assoc

pub returns-in_default : goal.returns-in_default
returns-in_default c =
    from-nothing _ _ _ _ c.in_ok-writeln.ensures.bytes c.new-words.ensures
    (too-long (decimal c.args.number) (decimal c.args.longest))
    ∙ ap (rejection_words c.args.longest c.args.number c.args.text.now) (sym c.in_default.is)
