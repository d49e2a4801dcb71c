use Rattle.std.proofs.Common.{◌≡◌, ◌+◌, ◌-◌, arith, drop, subst, take, IsUtf8}
use Rattle.std.proofs.lemmas.Str.{IsUtf8-from_is_utf8}
use Rattle.simd_json_serde.proofs.in_place.text_at.Goals as goal

pub from_utf8_unchecked-requires : goal.from_utf8_unchecked-requires
from_utf8_unchecked-requires c =
    let a = c.args in
    let same : a.len ≡ a.at + a.len - a.at = omega arith in
    subst (λ k. IsUtf8 (take k (drop a.at a.input.now))) same (IsUtf8-from_is_utf8 _ c.requires.1)
