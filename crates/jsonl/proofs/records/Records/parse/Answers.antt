use Rattle.std.proofs.Common.{◌≡◌, ◌≢◌, ◌∙◌, [], ap, subst}
use Rattle.std.specs.Prelude.{IfNone, OnOk}
use Rattle.std.specs.Result.{result_err}
use Rattle.simd_json.specs.Parsed.{IsParsed}
use Rattle.jsonl.specs.Records.{Numbered}
use Rattle.jsonl.proofs.Outcomes.{no-deeper, value-read}
use Rattle.jsonl.proofs.records.Records.parse.Goals as goal

pub returns-in_default : goal.returns-in_default
returns-in_default g c =
    let inside = c.self.inside in
    let text = c.args.text.now in
    let limit = c.args.self.now.depth in
    let refilled = c.refill_tape-parsed in
    let nodes = refilled.result.1.nodes in
    let is : IsParsed text limit nodes =
    subst (λ n. IsParsed text n nodes) (ap (λ (n : Numbered). n.depth) c.self.view_is)
    (subst (λ r. IfNone (result_err r) (IsParsed text inside.buffers.limit nodes)) c.in_default.is refilled.ensures.parse.parsed) in
    let same : Numbered → Numbered = λ n. n in (
      ap (λ n. same (record { longest = inside.longest; depth = n; number = inside.number; text = inside.text.items }))
          refilled.ensures.limit ∙ c.self.view_is,
      (
        value-read text limit nodes is,
        (subst (λ r. OnOk r (nodes ≢ [])) c.in_default.is refilled.ensures.some, no-deeper text limit nodes is),
      ),
    )
