use Rattle.std.proofs.Common.{◌≡◌, ◌∙◌, ◌++◌, ap, List, [], ◌∷◌, ℕ, append_assoc}
use Rattle.std.specs.Fmt.{decimal}
use Rattle.std.specs.Prelude.{codes}
use Rattle.simd_json_parts.specs.Bytes.{line_feed}
use Rattle.log_report.proofs.lines.Lines.notice.Goals as goal

laid-out : (mark n values : List ℕ) → codes "lines under " ++ (mark ++ (codes ": " ++ (n ++ (codes " (--values for more than "
    ++ (values ++ (codes " values; a row has at most 1024 bytes)" ++ (10 ∷ [])))))))
    ≡ codes "lines under " ++ mark ++ codes ": " ++ n ++ codes " (--values for more than " ++ values
    ++ codes " values; a row has at most 1024 bytes)" ++ line_feed ∷ []
laid-out mark n values = simp append_assoc

pub returns : goal.returns
returns g c =
    let n = decimal c.args.count in
    let values = decimal c.args.self.now.wanted.now.values in
    c.in_ok-writeln.ensures.bytes
    ∙ ap (λ us. us ++ (codes "lines under " ++ (c.others_mark-mark.result.now ++ (codes ": " ++ (n ++ (codes " (--values for more than "
    ++ (values ++ (codes " values; a row has at most 1024 bytes)" ++ (10 ∷ []))))))))) c.new-words.ensures
    ∙ laid-out c.others_mark-mark.result.now n values
    ∙ ap (λ mark. codes "lines under " ++ mark ++ codes ": " ++ n ++ codes " (--values for more than " ++ values
    ++ codes " values; a row has at most 1024 bytes)" ++ line_feed ∷ []) c.others_mark-mark.ensures
