use Rattle.std.proofs.Common.{◌≡◌, sym, ◌∙◌, ap, ℕ, List, [], ◌++◌, length, take, not, nat_eq, Option, Some, None, option_map, encode_utf8}
use Rattle.std.proofs.lemmas.Str.{length-encode}
use lib.Seq.{take-append_seam}
use Rattle.simd_json_ondemand.specs.WantedKey.{key_of}
use Rattle.simd_json_ondemand.proofs.key.after_escape.Goals as goal

abbrev piece-of : Option (List ℕ × ℕ) → List ℕ
piece-of None = []
piece-of (Some p) = p.0

pub returns-in_err-rest : goal.returns-in_err-rest
returns-in_err-rest g c =
    let put = c.codepoint_to_utf8-len in
    let character = c.in_ok-character.character in
    let utf8 : take put.result put.new.bytes ≡ encode_utf8 character =
    ap (λ n. take n put.new.bytes) (put.ensures.len ∙ sym (length-encode character))
    ∙ ap (take (length (encode_utf8 character))) put.ensures.written ∙ take-append_seam (encode_utf8 character) _ in
    rw c.from_residual-in_err-rest.ensures
    (λ p k e is. c.in_err-rest.ensures k
    (is ∙ ap (λ us. Some (us ++ k)) (ap piece-of (sym e ∙ c.in_ok-character.ensures.value) ∙ sym utf8)))

pub returns : goal.returns
returns g c =
    let put = c.codepoint_to_utf8-len in
    let character = c.in_ok-character.character in
    let utf8 : take put.result put.new.bytes ≡ encode_utf8 character =
    ap (λ n. take n put.new.bytes) (put.ensures.len ∙ sym (length-encode character))
    ∙ ap (take (length (encode_utf8 character))) put.ensures.written ∙ take-append_seam (encode_utf8 character) _ in (
      _,
      c.in_ok-character.ensures.value,
      c.in_ok-rest.ensures ∙ ap (λ us. option_map (λ k. us ++ k) (key_of (not (nat_eq g.row.TOKEN 0)) c.in_ok-rest.rest.now)) utf8,
    )
