use Rattle.std.proofs.Common.{◌∙◌, ap, sym, map, ◌++◌}
use Rattle.simd_json_parts.specs.Nodes.{item_of}
use Rattle.simd_json_print.specs.Layout.{printed}
use Rattle.simd_json.specs.Viewed.{doc}
use Rattle.simd_json.proofs.Views.Encoded.{Denotes-printed, utf8-encoded, denoted-encoded}
use Rattle.simd_json.proofs.value.tape.value.Value.encode_as.Goals as goal

pub from_utf8_unchecked-requires : goal.from_utf8_unchecked-requires
from_utf8_unchecked-requires g c =
    let self = c.args.self.now in
    let layout = c.args.layout in
    let listed = ap (map item_of) c.nodes.ensures.nodes ∙ sym self.listed in
    utf8-encoded (printed layout) (Denotes-printed layout) self _
    (c.in_ok-append.ensures.appended (doc self) listed ∙ ap (λ xs. xs ++ printed layout (doc self)) c.new-text.ensures.items)

pub returns-clause-denoted : goal.returns-clause-denoted
returns-clause-denoted g c =
    let self = c.args.self.now in
    let layout = c.args.layout in
    let listed = ap (map item_of) c.nodes.ensures.nodes ∙ sym self.listed in
    denoted-encoded (printed layout) (Denotes-printed layout) self _
    (ap (λ v. v.items) c.from_utf8_unchecked.ensures.value ∙ c.in_ok-append.ensures.appended (doc self) listed
    ∙ ap (λ xs. xs ++ printed layout (doc self)) c.new-text.ensures.items)
