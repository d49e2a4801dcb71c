use Rattle.std.proofs.Common.{◌≡◌, sym, ◌∙◌, ap, ℕ, List, option_and_then, codes, true}
use Rattle.simd_json_ondemand.specs.Docs.{text, index_of}
use Rattle.simd_json_parts.specs.Views as views
use Rattle.simd_json_check.proofs.Words.{spells, spelt-here, true-standing, false-standing}
use Rattle.simd_json_ondemand.proofs.Standing.{no-bool}
use Rattle.simd_json_ondemand.proofs.value.Value.as_bool.Goals as goal

pub returns-then-spells : goal.returns-then-spells
returns-then-spells c =
    let b : List ℕ = text c.args.self.document in
    let i : ℕ = index_of c.args.self in
    let here : spells b i (codes "true") ≡ true =
    spelt-here b _ (codes "true") i _ c.bytes-bytes.ensures.bytes c.spells.ensures ∙ c.if-spells.true in
    sym (ap (option_and_then views.as_bool) (true-standing b i here))

pub returns-then-spells-2 : goal.returns-then-spells-2
returns-then-spells-2 c =
    let b : List ℕ = text c.args.self.document in
    let i : ℕ = index_of c.args.self in
    let here : spells b i (codes "false") ≡ true =
    spelt-here b _ (codes "false") i _ c.bytes-bytes.ensures.bytes c.spells-else-spells.ensures ∙ c.if-spells-2.true in
    sym (ap (option_and_then views.as_bool) (false-standing b i here))

pub returns-else-spells-2 : goal.returns-else-spells-2
returns-else-spells-2 c =
    let b : List ℕ = text c.args.self.document in
    let i : ℕ = index_of c.args.self in
    sym (no-bool b i (spelt-here b _ (codes "true") i _ c.bytes-bytes.ensures.bytes c.spells.ensures ∙ c.if-spells.false)
    (spelt-here b _ (codes "false") i _ c.bytes-bytes.ensures.bytes c.spells-else-spells.ensures ∙ c.if-spells-2.false))
