use Rattle.std.proofs.Common.{◌≡◌, sym, ◌∙◌, ap, ℕ, List, option_and_then, codes, true}
use Rattle.simd_json_ondemand.specs.Docs.{text, index_of}
use Rattle.simd_json_parts.specs.Views as views
use Rattle.simd_json_check.proofs.Words.{spells, spelt-here, null-standing}
use Rattle.simd_json_ondemand.proofs.Standing.{no-null}
use Rattle.simd_json_ondemand.proofs.value.Value.as_null.Goals as goal

pub returns-then-spells : goal.returns-then-spells
returns-then-spells c =
    let b : List ℕ = text c.args.self.document in
    let i : ℕ = index_of c.args.self in
    let here : spells b i (codes "null") ≡ true =
    spelt-here b _ (codes "null") i _ c.bytes.ensures.bytes c.spells.ensures ∙ c.if-spells.true in
    sym (ap (option_and_then views.as_null) (null-standing b i here))

pub returns-else-spells : goal.returns-else-spells
returns-else-spells c =
    let b : List ℕ = text c.args.self.document in
    let i : ℕ = index_of c.args.self in
    sym (no-null b i (spelt-here b _ (codes "null") i _ c.bytes.ensures.bytes c.spells.ensures ∙ c.if-spells.false))
