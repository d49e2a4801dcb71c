use Rattle.std.proofs.Common.{◌≡◌, ◌<◌, ◌+◌, ◌∙◌, ap, sym, subst, suc, length, drop, refl, arith}
use Rattle.std.specs.Prelude.{Ok}
use Rattle.simd_json_parts.specs.StringAt.{closing_quote}
use Rattle.simd_json_stages.specs.Inputs.{HasQuoted, Reads}
use Rattle.simd_json_stages.proofs.Tokens.StringEnds.{string_at-end}
use Rattle.simd_json_stages.proofs.Machine.InputLaws.{closes-here, lent-all, reads-after}
use Rattle.simd_json_stages.proofs.stage2.input.Unread.parse_string.Goals as goal

pub parse_str-requires-clause-closing : goal.parse_str-requires-clause-closing
parse_str-requires-clause-closing c =
    let q : HasQuoted (λ b. Reads b c.args.self.now) c.args.at c.requires.quoted.next = c.requires.quoted.quoted in
    let is : c.split_at_mut-unread.result.0.now ≡ drop c.args.at q.b = lent-all (q.reads.part c.requires.lent)
    (c.split.ensures.end ∙ q.reads.end) (ap (λ r. r.now) c.take.ensures.value ∙ c.split.ensures.rest)
    c.split_at_mut-unread.ensures.front in
    subst (λ us. closing_quote us 0 < length us) (sym is) (closes-here q.b c.args.at c.requires.quoted.next q.string)

pub overflow_add-self : goal.overflow_add-self
overflow_add-self c =
    let q : HasQuoted (λ b. Reads b c.args.self.now) c.args.at c.requires.quoted.next = c.requires.quoted.quoted in
    let is : c.split_at_mut-unread.result.0.now ≡ drop c.args.at q.b = lent-all (q.reads.part c.requires.lent)
    (c.split.ensures.end ∙ q.reads.end) (ap (λ r. r.now) c.take.ensures.value ∙ c.split.ensures.rest)
    c.split_at_mut-unread.ensures.front in
    let read = c.in_ok-string.ensures q.b c.args.at (sym is) in
    omega (arith, string_at-end q.b c.args.at _ _ read.0, q.string.closed, q.string.within, q.reads.fits)

pub returns : goal.returns
returns c b next reads string =
    let is : c.split_at_mut-unread.result.0.now ≡ drop c.args.at b = lent-all (reads.part c.requires.lent)
    (c.split.ensures.end ∙ reads.end) (ap (λ r. r.now) c.take.ensures.value ∙ c.split.ensures.rest)
    c.split_at_mut-unread.ensures.front in
    let read = c.in_ok-string.ensures b c.args.at (sym is) in
    let end : c.args.at + c.in_ok-string.string.len ≡ suc (closing_quote b c.args.at) = string_at-end b c.args.at _ _ read.0 in (
      read.0 ∙ ap (λ n. Ok (c.in_ok-string.string.string.now, n)) end,
      reads-after b c.args.self.now _ c.args.at next _ reads string c.requires.lent c.split.ensures.shared.1 c.split.ensures.escapes
          c.split.ensures.end refl end read.1,
    )
