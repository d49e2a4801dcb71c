use Rattle.std.proofs.Common.{sym, ◌∙◌, ap}
use Rattle.simd_json_ondemand.specs.Keys.{is_key}
use Rattle.simd_json_ondemand.proofs.Lookup.{string-is}
use Rattle.simd_json_ondemand.proofs.Quoted.{IsQuoted, quoted-value}
use Rattle.simd_json_ondemand.proofs.value.Value.is_named.Goals as goal

pub is_written-requires-clause-closing : goal.is_written-requires-clause-closing
is_written-requires-clause-closing c =
    let q : IsQuoted c.bytes.result.now = quoted-value c.args.self c.requires.opening c.bytes.result.now c.bytes.ensures.bytes in
    q.closing

pub returns : goal.returns
returns c key named =
    c.is_written.ensures key named
    ∙ ap (is_key key) (sym (string-is c.args.self c.bytes.result.now c.bytes.ensures.bytes c.requires.opening))
