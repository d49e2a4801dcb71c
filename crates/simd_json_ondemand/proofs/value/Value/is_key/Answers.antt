use Rattle.std.proofs.Common.{sym, ◌∙◌, ap}
use Rattle.simd_json_ondemand.specs.Keys.{is_key}
use Rattle.simd_json_ondemand.proofs.Lookup.{string-is}
use Rattle.simd_json_ondemand.proofs.Quoted.{IsQuoted, quoted-value}
use Rattle.simd_json_ondemand.proofs.value.Value.is_key.Goals as goal

pub is_at-requires-clause-closing : goal.is_at-requires-clause-closing
is_at-requires-clause-closing c =
    let q : IsQuoted c.bytes.result.now = quoted-value c.args.self c.requires c.bytes.result.now c.bytes.ensures.bytes in
    q.closing

pub returns : goal.returns
returns c =
    c.is_at.ensures ∙ ap (is_key c.args.wanted.key.now) (sym (string-is c.args.self c.bytes.result.now c.bytes.ensures.bytes c.requires))
