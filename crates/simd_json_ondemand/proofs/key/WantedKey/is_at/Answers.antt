use Rattle.std.proofs.Common.{refl, ◌∙◌, arith, lt-ltb, ne_eqb}
use Rattle.simd_json_ondemand.proofs.Keys.{not-key, the-key}
use Rattle.simd_json_ondemand.proofs.key.WantedKey.is_at.Goals.{then-bytes-same-eq92, else-bytes-same-eq92}
use Rattle.simd_json_ondemand.proofs.key.WantedKey.is_at.Goals.{else-same-lt8-via-then-same-lt8+else-same-self}
use Rattle.simd_json_ondemand.proofs.key.WantedKey.is_at.Goals.{else-same-lt8-via-else-same-lt8}
use Rattle.simd_json_ondemand.proofs.key.WantedKey.is_at.Goals as goal

pub returns-then-same-self : goal.returns-then-same-self
returns-then-same-self c = elim c.if-bytes-same-eq92.branch [
  | then-bytes-same-eq92 w ↦ w.result-is ∙ w.is_written-then-bytes-same-eq92.ensures c.args.self.key.now refl
  | else-bytes-same-eq92 w ↦
      w.result-is ∙ ne_eqb _ 92 w.if-bytes-same-eq92.false
      ∙ not-key c.args.bytes.now c.args.self.key.now c.args.self.first c.args.self.is_plain c.args.self.made
      c.if-not-self.false c.if-bytes-lt9.false c.requires.opening c.common-same.result c.common-same.ensures
      c.if-same-lt8.true c.if-same-self.true w.if-bytes-same-eq92.false
]

pub returns-then-self-lt8 : goal.returns-then-self-lt8
returns-then-self-lt8 c =
    lt-ltb _ 8 c.if-self-lt8.true
    ∙ the-key c.args.bytes.now c.args.self.key.now c.args.self.first c.args.self.is_plain c.args.self.made
    c.if-not-self.false c.if-bytes-lt9.false c.requires.opening c.common-same.result c.common-same.ensures
    (λ l m. elim c.else-same-lt8.branch [
      | else-same-lt8-via-then-same-lt8+else-same-self w ↦ absurd (omega (arith, m, w.if-same-self.false))
      | else-same-lt8-via-else-same-lt8 w ↦ absurd (omega (arith, l, w.if-same-lt8.false))
    ])
    c.if-self-lt8.true
