use Rattle.std.proofs.Common.{◌∙◌, ap, take, false}
use Rattle.std.specs.Str.{chars}
use Rattle.std.proofs.lemmas.Result.{IfOk-weaker}
use Rattle.jcheck.proofs.Texts.{excerpt-is}
use Rattle.jcheck.proofs.excerpt.excerpt.Goals as goal
use Rattle.unicode_width.specs.Width.{str_width}

pub returns : goal.returns
returns c =
    IfOk-weaker c.format.result _ _
    (λ t is. is
    ∙ excerpt-is c.args.style c.args.input.now c.args.byte c.min.result c.characters.result c.min-indent.result c.saturating_sub.result
    c.width.result c.split_at.result.0.now c.split_at.result.1.now c.split_at-2.result.1.now c.split_at-3.result.0.now _ _ _ _
    c.min.ensures c.split_at.ensures.front c.split_at.ensures.back (c.split_at-2.ensures.back ∙ c.line_start.ensures.start)
    (c.split_at-3.ensures.front ∙ ap (λ n. take n c.split_at.result.1.now) c.line_end.ensures.end) c.characters.ensures
    c.min-indent.ensures c.saturating_sub.ensures c.in_ok-end.ensures c.in_ok-front.ensures
    (c.width.ensures.value ∙ ap (λ t. str_width false (chars t)) c.as_str.ensures.value) c.in_ok-spaces.ensures.bytes c.caret-caret.ensures)
    c.format.ensures.ok
