use Rattle.std.proofs.Common.{◌≤◌, ◌∙◌, ap, true, false}
use Rattle.std.specs.Str.{chars}
use Rattle.std.proofs.lemmas.List.{take-replicate}
use Rattle.simd_json_regexp.specs.Marks.{accepts, matches, size}
use Rattle.simd_json_regexp.specs.Nodes.{regexp}
use Rattle.simd_json_regexp.proofs.matching.matches.Goals as goal

pub returns : goal.returns
unfolding matches
returns c =
    let p = regexp c.args.nodes.now in
    let few : size p ≤ 512 = rw c.size.ensures.size at c.size.ensures.small in
    c.accepts.ensures
    ∙ ap (λ ms. accepts p true ms (chars c.args.text.now)) (rw c.size.ensures.size (take-replicate (size p) 512 false few))
