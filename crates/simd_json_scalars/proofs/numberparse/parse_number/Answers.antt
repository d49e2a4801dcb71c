use Rattle.std.proofs.Common.{◌≡◌, refl, sym, ap, subst, ◌∙◌, ◌+◌, ◌==◌, Ok}
use mir.Val.{bool_byte}
use Rattle.simd_json_parts.specs.Bytes.{byte_at}
use Rattle.simd_json_parts.specs.Document.{integer}
use Rattle.simd_json_parts.specs.NumberAt.{number_at}
use Rattle.simd_json_scalars.proofs.Numbers.Literals.{byte_at-front}
use Rattle.simd_json_scalars.proofs.Numbers.Steps.{SignEnd}
use Rattle.simd_json_scalars.proofs.Numbers.Reader.{sign-end, integer-end}
use Rattle.simd_json_scalars.proofs.numberparse.parse_number.Goals as goal

pub integer_node-requires : goal.integer_node-requires
integer_node-requires c =
    let read = c.in-Integer.ensures c.args.bytes.now 0 refl in
    rw c.byte_or_space-minus.ensures read.2

pub parse_long-requires : goal.parse_long-requires
parse_long-requires c = c.in-Long.ensures c.args.bytes.now 0 refl

pub returns-in-Integer : goal.returns-in-Integer
returns-in-Integer c b i e =
    let l = c.args.bytes.now in
    let minus = c.byte_or_space-minus.result == 45 in
    let n = c.in-Integer.magnitude in
    let read = c.in-Integer.ensures b i e in
    let first : byte_at b i ≡ c.byte_or_space-minus.result = byte_at-front b i l e ∙ sym c.byte_or_space-minus.ensures in
    let sign : SignEnd l (bool_byte minus) =
    subst (λ x. SignEnd l (bool_byte (x == 45))) (sym c.byte_or_space-minus.ensures) (sign-end l) in
    let at : number_at b i ≡ Ok (integer minus n, read.0) = read.1 ∙ ap (λ x. Ok (integer (x == 45) n, read.0)) first in
    let end : read.0 ≡ i + c.int_end-len.result =
    integer-end b i l e (bool_byte minus) c.int_end-len.result sign c.int_end-len.ensures.value minus n read.0 at in
    (minus, n, at ∙ ap (λ k. Ok (integer minus n, k)) end, c.integer_node.ensures)
