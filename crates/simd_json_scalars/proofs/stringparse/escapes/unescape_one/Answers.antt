use Rattle.std.proofs.Common.{◌≡◌, sym, ◌∙◌, ap, ℕ, ◌+◌, ◌-◌, ◌≤◌, List, length, drop, rules, arith}
use Rattle.std.specs.Prelude.{Some, encode_utf8}
use Rattle.std.proofs.lemmas.List.{take_rest}
use Rattle.std.proofs.lemmas.Str.{length-encode, IsUtf8-encode}
use borrow.Rule.Slice.PartMut.{put_mid}
use Rattle.simd_json_parts.specs.StringAt.{escape_at}
use Rattle.simd_json_scalars.specs.StringDecoded.{IsDecoded}
use Rattle.simd_json_scalars.proofs.Strings.Decoding.{backslash-fits, decoded-escape, escape-fits}
use Rattle.simd_json_parts.proofs.Utf8Writes.{IsWritten, put_mid-prefix}
use Rattle.simd_json_scalars.proofs.stringparse.escapes.unescape_one.Goals as goal

pub escape-requires : goal.escape-requires
escape-requires c = rw take_rest (backslash-fits c.args.unread.now c.args.ends.read c.requires.goes_on c.requires.backslash)

pub overflow_add-read-2 : goal.overflow_add-read-2
overflow_add-read-2 c =
    let read = c.args.ends.read in
    let escape : escape_at (drop read c.args.unread.now) ≡ Some (encode_utf8 c.in_ok-character.character, c.in_ok-character.more) =
    ap escape_at (sym (take_rest c.args.unread.now read)) ∙ c.in_ok-character.ensures.value in
    omega (arith, escape-fits c.args.unread.now _ read c.in_ok-character.more c.requires.goes_on c.requires.backslash escape)

pub returns : goal.returns
returns c =
    let u = c.args.unread.now in
    let ends = c.args.ends in
    let character = c.in_ok-character.character in
    let more = c.in_ok-character.more in
    let ok = c.in_ok-character.ensures in
    let put = c.codepoint_to_utf8-len in
    let new : List ℕ = put_mid ends.written (length u - ends.written) u put.new.bytes in
    let end : ℕ = ends.written + put.result in
    let escape : escape_at (drop ends.read u) ≡ Some (encode_utf8 character, more) =
    ap escape_at (sym (take_rest u ends.read)) ∙ ok.value in
    let fits : end ≤ length u = omega (arith, escape-fits u _ ends.read more c.requires.goes_on c.requires.backslash escape) in
    let w : IsWritten u new (encode_utf8 character) ends.written put.result =
    put_mid-prefix u put.new.bytes (encode_utf8 character) ends.written put.result fits
    (length-encode character ∙ sym put.ensures.len) put.ensures.written in
    let d : IsDecoded u ends.read ends.written new (ends.read + 1 + more) end =
    decoded-escape u new ends.read ends.written end character more c.requires.goes_on c.requires.backslash c.requires.order
    (IsUtf8-encode character (search rules)) escape ok.shorter (omega arith) w.written w.unread w.same_length in
    (d, omega arith)
