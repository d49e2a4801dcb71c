use Rattle.std.proofs.Common.{◌∙◌, ◌++◌, ap, ap₂, append-nil, sym, true}
use Rattle.programs.specs.Rejections.{rejection_words}
use Rattle.jpick.specs.Picked.{hint}
use Rattle.jpick.proofs.lines.Picker.naming_words.Goals as goal

pub returns-then-not-begins_document : goal.returns-then-not-begins_document
returns-then-not-begins_document g c =
    let old = c.args.self.now in
    let why = rejection_words old.wanted.now.longest in
    c.in_ok-words.ensures ∙ ap₂ (λ n t. why n t c.args.error) c.number-number.ensures c.text.ensures ∙ sym (append-nil _)
    ∙ ap (λ b. why old.records.number old.records.text c.args.error ++ hint b)
    (sym c.if-not-begins_document.true ∙ c.begins_document-begins_document.ensures)

pub returns : goal.returns
returns g c =
    let old = c.args.self.now in
    let why = rejection_words old.wanted.now.longest in
    c.in_ok-writeln.ensures.bytes
    ∙ ap (λ us. us ++ hint true) (c.in_ok-words.ensures ∙ ap₂ (λ n t. why n t c.args.error) c.number-number.ensures c.text.ensures)
    ∙ ap (λ b. why old.records.number old.records.text c.args.error ++ hint b)
    (sym c.if-not-begins_document.false ∙ c.begins_document-begins_document.ensures)
