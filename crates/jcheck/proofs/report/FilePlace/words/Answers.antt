use Rattle.std.proofs.Common.{◌≡◌, ◌∙◌, ◌++◌, ◌∷◌, [], ℕ, List, ap, append_assoc, arith}
use Rattle.std.specs.Prelude.{codes}
use Rattle.std.specs.Fmt.{decimal}
use Rattle.std.proofs.lemmas.Result.{IfOk-weaker}
use Rattle.jcheck.specs.Reports.{place_after, words}
use Rattle.jcheck.proofs.report.FilePlace.words.Goals as goal
use Rattle.simd_json_check.specs.Messages.{kind_words, location_text}
use Rattle.simd_json_check.specs.Reasons.{location_in}
use Rattle.simd_json_check.specs.declared.location.Location.{Location}
use Rattle.simd_json_parts.specs.Bytes.{line_feed}

laid-out : (file at kind byte : List ℕ)
    → file ++ (codes ":" ++ (at ++ (codes " [" ++ (kind ++ (codes " at byte " ++ (byte ++ (codes "]" ++ (line_feed ∷ []))))))))
    ≡ file ++ codes ":" ++ at ++ codes " [" ++ kind ++ codes " at byte " ++ byte ++ codes "]" ++ line_feed ∷ []
laid-out file at kind byte = simp append_assoc

abbrev formatted : List ℕ → Location → Location → ℕ → List ℕ
formatted file l k byte =
    file ++ (codes ":" ++ (location_text l ++ (codes " [" ++ (kind_words k ++ (codes " at byte " ++ (decimal byte
    ++ (codes "]" ++ (line_feed ∷ []))))))))

words-are : (file : List ℕ) (line start byte : ℕ) (l m k : Location) → k ≡ m → m ≡ location_in line l → byte ≡ place_after start l.byte
    → formatted file m k byte ≡ words file line start l ++ line_feed ∷ []
words-are file line start byte l m k same moved byte_is =
    ap (λ k. formatted file m k byte) same
    ∙ ap (λ m. formatted file m m byte) moved
    ∙ ap (formatted file (location_in line l) (location_in line l)) byte_is
    ∙ laid-out file (location_text (location_in line l)) (kind_words l) (decimal (place_after start l.byte))

pub returns : goal.returns
returns c =
    let l = c.args.location in
    let start = c.args.self.byte in
    let byte : c.saturating_add-byte.result ≡ place_after start l.byte = omega (arith, c.saturating_add-byte.ensures, c.byte.ensures) in
    IfOk-weaker c.format.result _ _
    (λ t is. is
    ∙ words-are c.args.self.file.now c.args.self.line start c.saturating_add-byte.result l c.in_file-location.result
    c.kind-kind.result.location.now c.kind-kind.ensures c.in_file-location.ensures byte)
    c.format.ensures.ok
