use Rattle.std.proofs.Common.{◌∙◌, ap, sym}
use Rattle.std.specs.List.{position}
use Rattle.std.specs.Map.{keys_of}
use Rattle.log_report.specs.Table.{others}
use Rattle.log_report.proofs.Places.{found-at, found-nowhere, is_text, lines-at}
use Rattle.log_report.proofs.lines.Lines.others.Goals as goal

pub returns-in-Some : goal.returns-in-Some
returns-in-Some g c =
    let es = c.args.self.now.counts.entries in
    let t = others c.args.self.now.wanted.now.is_tsv in
    lines-at 0 t es c.in-Some.place c.index.result.now (found-at 0 t es c.in-Some.place
    (c.in-Some.ensures.index ∙ ap (λ u. position (is_text u) (keys_of es)) c.others.ensures)) c.index.ensures

pub returns-in-None : goal.returns-in-None
returns-in-None g c =
    let es = c.args.self.now.counts.entries in
    let t = others c.args.self.now.wanted.now.is_tsv in
    sym (found-nowhere 0 t es (c.in-None.ensures.index ∙ ap (λ u. position (is_text u) (keys_of es)) c.others.ensures)).none
