use Rattle.std.proofs.Common.{◌≡◌, refl, sym, ◌∙◌, ℕ, ◌+◌, drop, cond, false, arith}
use Rattle.std.proofs.lemmas.Bool.{ne_eqb, or_from, or_right}
use Rattle.simd_json_parts.specs.Bytes.{byte_at}
use Rattle.simd_json_parts.specs.Document.{null, boolean}
use Rattle.simd_json_parts.specs.declared.node.StaticNode.TheVariants as fixed
use Rattle.simd_json_stages.proofs.Tokens.Booleans.{form_at-boolean, no_boolean}
use Rattle.simd_json_stages.proofs.Tokens.ScalarLaws.{form_at-null, form_at-word, form_at-number, word_null}
use Rattle.simd_json_stages.proofs.Machine.ScalarPut.{static-put, atom-rejected}
use Rattle.simd_json_stages.proofs.stage2.scalar.push_scalar.Goals as goal
use Rattle.simd_json_stages.proofs.stage2.scalar.push_scalar.Goals.{then-is_integer-via-then-is_integer}
use Rattle.simd_json_stages.proofs.stage2.scalar.push_scalar.Goals.{then-is_integer-via-else-is_integer+then-p-eq45}

pub push_number-requires : goal.push_number-requires
push_number-requires g c =
    let given = c.requires in
    record {
      at = given.at;
      form = form_at-number g.K.Original.bytes c.args.p.at c.args.p.byte (sym given.at.first)
          (elim c.then-is_integer.branch [
            | then-is_integer-via-then-is_integer w ↦ or_right _ _ (sym c.is_integer.ensures ∙ w.if-is_integer.true)
            | then-is_integer-via-else-is_integer+then-p-eq45 w ↦ rw w.if-p-eq45.true refl
          ]);
    }

pub from-rest-requires : goal.from-rest-requires
from-rest-requires g c =
    let at = c.requires.at in
    record { b = g.K.Original.bytes; reads = at.input; within = omega (arith, at.within) }

pub returns-then-not-is_valid_null_atom-clause-rejected : goal.returns-then-not-is_valid_null_atom-clause-rejected
returns-then-not-is_valid_null_atom-clause-rejected g c =
    let b = g.K.Original.bytes in
    let given = c.requires in
    let i : ℕ = c.args.p.at in
    let after : drop i b ≡ c.from-rest.result.now = sym (c.from-rest.ensures.bytes b given.at.input) in
    let first : byte_at b i ≡ c.args.p.byte = sym given.at.first in
    atom-rejected b i c.args.p.byte c.no_scalar.result c.no_scalar.ensures given.at.first
    (rw c.if-p-eq110.true (form_at-word word_null false b c.from-rest.result.now i after
    (first ∙ c.if-p-eq110.true) (sym c.is_valid_null_atom.ensures ∙ c.if-not-is_valid_null_atom.true)))

pub returns-then-p-eq110-clause-put : goal.returns-then-p-eq110-clause-put
returns-then-p-eq110-clause-put g c =
    let b = g.K.Original.bytes in
    let given = c.requires in
    static-put null fixed.Null (c.args.p.at + 4) (c.push_static.ensures.reads b _ given.at.input)
    (form_at-null b c.from-rest.result.now c.args.p.at (sym (c.from-rest.ensures.bytes b given.at.input))
    (sym given.at.first ∙ c.if-p-eq110.true)
    (sym c.is_valid_null_atom.ensures ∙ c.if-not-is_valid_null_atom.false)) refl c.push_static.ensures.put

pub returns-in-None-clause-rejected : goal.returns-in-None-clause-rejected
returns-in-None-clause-rejected g c =
    let b = g.K.Original.bytes in
    let given = c.requires in
    let i : ℕ = c.args.p.at in
    let x : ℕ = c.args.p.byte in
    let after : drop i b ≡ c.from-rest.result.now = sym (c.from-rest.ensures.bytes b given.at.input) in
    no_boolean b c.from-rest.result.now i x after given.at.first c.in-None.ensures (ne_eqb x 110 c.if-p-eq110.false)
    (or_from _ _ (ne_eqb x 45 c.if-p-eq45.false) (sym c.is_integer.ensures ∙ c.if-is_integer.false))
    c.no_scalar-in-None.result c.no_scalar-in-None.ensures
    given.no_string given.no_array given.no_object

pub returns-clause-put : goal.returns-clause-put
returns-clause-put g c =
    let b = g.K.Original.bytes in
    let given = c.requires in
    let v = c.in-Some.value in
    static-put (boolean v) (fixed.Bool v) (c.args.p.at + cond v 4 5)
    (c.push_static-in-Some.ensures.reads b _ given.at.input)
    (form_at-boolean v b c.from-rest.result.now c.args.p.at (sym (c.from-rest.ensures.bytes b given.at.input)) c.in-Some.ensures)
    refl c.push_static-in-Some.ensures.put
