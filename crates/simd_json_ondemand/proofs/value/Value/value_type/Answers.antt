use Rattle.std.proofs.Common.{◌≡◌, sym, ◌∙◌, ap, ℕ, List, ◌==◌, false, ne_eqb}
use Rattle.simd_json_parts.specs.Bytes.{byte_at}
use Rattle.simd_json_stages.proofs.Tokens.TokenForms.{opens, opens_object, quotes}
use Rattle.simd_json_ondemand.specs.Docs.{text, index_of}
use Rattle.simd_json_ondemand.specs.Standing.{kind_of}
use Rattle.simd_json_ondemand.proofs.Standing.{kind-scalar}
use Rattle.simd_json_ondemand.proofs.value.Value.value_type.Goals as goal

pub returns-then-first-eq91 : goal.returns-then-first-eq91
returns-then-first-eq91 c =
    let b : List ℕ = text c.args.self.document in
    let i : ℕ = index_of c.args.self in
    sym (ap kind_of (opens b i (sym c.first-first.ensures ∙ c.if-first-eq91.true)))

pub returns-then-first-eq123 : goal.returns-then-first-eq123
returns-then-first-eq123 c =
    let b : List ℕ = text c.args.self.document in
    let i : ℕ = index_of c.args.self in
    sym (ap kind_of (opens_object b i (sym c.first-first.ensures ∙ c.if-first-eq123.true)))

pub returns-then-first-eq34 : goal.returns-then-first-eq34
returns-then-first-eq34 c =
    let b : List ℕ = text c.args.self.document in
    let i : ℕ = index_of c.args.self in
    sym (ap kind_of (quotes b i (sym c.first-first.ensures ∙ c.if-first-eq34.true)))

pub returns : goal.returns
returns c =
    let b : List ℕ = text c.args.self.document in
    let i : ℕ = index_of c.args.self in
    let other : (k : ℕ) → (c.first-first.result ≡ k → ⊥) → (byte_at b i == k) ≡ false =
    λ k h. ne_eqb (byte_at b i) k (λ is. h (c.first-first.ensures ∙ is)) in
    c.scalar_type.ensures ∙ sym (kind-scalar b i (other 91 c.if-first-eq91.false) (other 123 c.if-first-eq123.false)
    (other 34 c.if-first-eq34.false))
