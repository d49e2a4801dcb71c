use Rattle.std.proofs.Common.{refl, arith}
use Rattle.simd_json_scalars.proofs.Strings.Decoding.{decoded-further}
use Rattle.simd_json_scalars.proofs.Strings.Reader.{opened, decoded-string, string_at-shared, string_at-left}
use Rattle.simd_json_scalars.proofs.stringparse.decode.Goals as goal

pub plain_end-plain-requires : goal.plain_end-plain-requires
plain_end-plain-requires c = opened c.args.unread.now c.requires.opening c.requires.closing c.requires.utf8

pub returns-in-Ok-clause-string : goal.returns-in-Ok-clause-string
returns-in-Ok-clause-string c b i e =
    let d = decoded-further _ _ _ _ _ _ _ _ _ c.plain_end-plain.ensures.1 c.in-Ok.ensures.0 in
    let read = string_at-shared b c.args.unread.now c.unescape.new.unread _ _ i _ _ _ e c.requires.opening d
    c.in-Ok.ensures.1 refl refl refl in
    record {
      string = read.0;
      utf8 = decoded-string _ _ _ _ d;
      rest = read.1;
    }

pub returns-in-Ok-clause-within : goal.returns-in-Ok-clause-within
returns-in-Ok-clause-within c =
    let d = decoded-further _ _ _ _ _ _ _ _ _ c.plain_end-plain.ensures.1 c.in-Ok.ensures.0 in
    (omega (arith, d.grows), omega (arith, d.order), omega (arith, d.same_length, d.goes_on.closed))

pub returns-in-Err-clause-string : goal.returns-in-Err-clause-string
returns-in-Err-clause-string c b i e =
    string_at-left b c.args.unread.now c.args.unread.now i _ _ c.in-Err.bad e c.requires.opening c.plain_end-plain.ensures.1
    c.in-Err.ensures
