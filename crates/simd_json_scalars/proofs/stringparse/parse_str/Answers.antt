use Rattle.std.proofs.Common.{◌+◌, ◌∙◌, ap, sym, subst, refl, IsUtf8}
use Rattle.std.specs.Prelude.{Ok}
use Rattle.simd_json_scalars.proofs.Strings.Reader.{slice-prefix}
use Rattle.simd_json_scalars.proofs.stringparse.parse_str.Goals as goal

pub from_utf8_unchecked-string-requires : goal.from_utf8_unchecked-string-requires
from_utf8_unchecked-string-requires c =
    let d = c.in-Ok.ensures.string c.args.unread.now 0 refl in
    subst IsUtf8 (sym (slice-prefix _ _ _ _ c.in-Ok.ensures.within.0 c.in-Ok.ensures.within.1 c.split_at_mut-prefix.ensures.front)) d.utf8

pub returns : goal.returns
returns c b i e =
    let d = c.in-Ok.ensures.string b i e in
    let split = c.split_at_mut-prefix.ensures in (
      d.string ∙ ap (λ us. Ok (us, i + c.in-Ok.decoded.len))
          (sym (c.from_utf8_unchecked-string.ensures ∙ slice-prefix _ _ _ _ c.in-Ok.ensures.within.0 c.in-Ok.ensures.within.1 split.front)),
      split.back ∙ d.rest,
    )
