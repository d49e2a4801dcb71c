-- What the kind of a value tells, over any bytes.
use Rattle.std.proofs.Common.{◌≡◌, ◌≢◌, ◌∙◌, ap, sym, refl, ℕ, List, Bool, true, false, length, Option, Some, None, Result, Ok, Err}
use Rattle.std.proofs.Common.{IfOk, ℤ, arith, cond, inl, inr, nat_le, unwrap_or}
use mir.Val.{bool_byte}
use Rattle.std.specs.Prelude.{MatchOption, option_and_then}
use Rattle.std.proofs.lemmas.Bool.{cond_both}
use Rattle.simd_json_parts.specs.Accessors as accessors
use Rattle.simd_json_parts.specs.AtomAt.{atom_at}
use Rattle.simd_json_parts.specs.Bytes.{byte_at}
use Rattle.simd_json_parts.specs.Document.{Document, null, boolean, integer, decimal, string, array, object}
use Rattle.simd_json_parts.specs.Integers.{integer_node, max_magnitude_64, number_of}
use Rattle.simd_json_parts.specs.NumberAt.{number_at}
use Rattle.simd_json_parts.specs.NodeTypes.{static_type}
use Rattle.simd_json_parts.specs.Tokens.{Form, scalar, form_at}
use Rattle.simd_json_parts.specs.Views.{as_bool, as_integer, value_type}
use Rattle.simd_json_parts.specs.declared.error.Error.{Error}
use Rattle.simd_json_parts.specs.declared.node.StaticNode.{StaticNode}
use Rattle.simd_json_parts.specs.declared.node.StaticNode.TheVariants as fixed
use Rattle.simd_json_parts.specs.declared.node.ValueType.{ValueType}
use Rattle.simd_json_parts.specs.declared.node.ValueType.TheVariants as kinds
use Rattle.simd_json_check.specs.Scalars.{scalar_of}
use Rattle.simd_json_ondemand.specs.Docs.{HasEscape, as_standing, between_quotes, index_of}
use Rattle.simd_json_ondemand.specs.Standing.{IsInteger, kind_of}
use Rattle.simd_json_ondemand.specs.declared.value.Value.{Value}
use Rattle.simd_json_ondemand.proofs.Standing.{by_atom, by_form, by_number}
use Rattle.simd_json_stages.specs.Placed.{is_long}
use Rattle.simd_json_c.specs.Fields.{IsEscapeOf, IsFieldAs, field_with}
use Rattle.simd_json_c.specs.Found.{kind_number}
use Rattle.simd_json_c.specs.declared.fields.Field.{Field}

-- ---- a string begins with a quote, and a truth value stands where that is the kind

-- what is told of a value with this first byte, which stands for a document if it is a scalar
pub record Tells (c : ℕ) (o : Option ValueType) (d : Option Document) : Type 0 where
  pub text : o ≡ Some kinds.String → c ≡ 34
  pub truth : o ≡ Some kinds.Bool → (t : Bool) × (option_and_then as_bool d ≡ Some t)

abbrev TellsOf : ℕ → Form → Type 0
TellsOf c form = Tells c (kind_of form) (scalar_of form)

abbrev TellsScalar : ℕ → Document → Type 0
TellsScalar c d = Tells c (Some (value_type d)) (Some d)

of-integer : (c : ℕ) (minus : Bool) (n : ℕ) → TellsScalar c (integer minus n)
of-integer c true n =
    cond_both (nat_le n (max_magnitude_64 true)) (fixed.I64 (number_of true n)) (fixed.I128 (number_of true n))
    (λ s. Tells c (Some (static_type s)) (Some (integer true n)))
    (λ _. record { text = λ e. absurd (cc); truth = λ e. absurd (cc) }) (λ _. record { text = λ e. absurd (cc); truth = λ e. absurd (cc) })
of-integer c false n =
    cond_both (nat_le n (max_magnitude_64 false)) (fixed.U64 n) (fixed.U128 n)
    (λ s. Tells c (Some (static_type s)) (Some (integer false n)))
    (λ _. record { text = λ e. absurd (cc); truth = λ e. absurd (cc) }) (λ _. record { text = λ e. absurd (cc); truth = λ e. absurd (cc) })

of-read : (c : ℕ) (r : Result (Document × ℕ) Error) → IfOk r (λ p. TellsScalar c p.0) → TellsOf c (scalar r)
of-read c (Ok s) tells = tells
of-read c (Err e) tells = record { text = λ e. absurd (cc); truth = λ e. absurd (cc) }

pub tells : (b : List ℕ) (i : ℕ) → TellsOf (byte_at b i) (form_at b i)
tells b i =
    by_form b i (TellsOf c) (λ _. record { text = λ e. absurd (cc); truth = λ e. absurd (cc) })
    (record { text = λ e. absurd (cc); truth = λ e. absurd (cc) })
    (λ _. record { text = λ e. absurd (cc); truth = λ e. absurd (cc) })
    (record { text = λ e. absurd (cc); truth = λ e. absurd (cc) })
    (record { text = λ e. absurd (cc); truth = λ e. absurd (cc) })
    (record { text = λ e. absurd (cc); truth = λ e. absurd (cc) })
    (λ e. record { text = λ _. e; truth = λ f. absurd (cc) })
    (of-read c (atom_at b i) (by_atom b i (TellsScalar c)
    (λ _. record { text = λ e. absurd (cc); truth = λ _. (true, refl) })
    (λ _. record { text = λ e. absurd (cc); truth = λ _. (false, refl) })
    (λ _. record { text = λ e. absurd (cc); truth = λ e. absurd (cc) })))
    (λ _. of-read c (number_at b i) (by_number b i (TellsScalar c) (of-integer c)
    (λ literal. record { text = λ e. absurd (cc); truth = λ e. absurd (cc) })))
    (record { text = λ e. absurd (cc); truth = λ e. absurd (cc) })
  where
    c : ℕ
    c = byte_at b i

-- ---- fields

-- of no truth value and no string, and not null
pub as-written : (v : Value) (k : ValueType) (bytes : List ℕ) (f : Field) → k ≢ kinds.Null → k ≢ kinds.Bool → k ≢ kinds.String
    → f ≡ field_with (kind_number k) (length bytes) (index_of v) → IsFieldAs v k bytes f
as-written v kinds.Null bytes f other truth text is = absurd (other refl)
as-written v kinds.Bool bytes f other truth text is = absurd (truth refl)
as-written v kinds.String bytes f other truth text is = absurd (text refl)
as-written v kinds.I64 bytes f other truth text is = is
as-written v kinds.U64 bytes f other truth text is = is
as-written v kinds.I128 bytes f other truth text is = is
as-written v kinds.U128 bytes f other truth text is = is
as-written v kinds.Decimal bytes f other truth text is = is
as-written v kinds.Array bytes f other truth text is = is
as-written v kinds.Object bytes f other truth text is = is

pub some-kind : (k : ValueType) → kind_number k ≢ 10
some-kind kinds.Null e = absurd (omega (arith, e))
some-kind kinds.Bool e = absurd (omega (arith, e))
some-kind kinds.I64 e = absurd (omega (arith, e))
some-kind kinds.U64 e = absurd (omega (arith, e))
some-kind kinds.I128 e = absurd (omega (arith, e))
some-kind kinds.U128 e = absurd (omega (arith, e))
some-kind kinds.Decimal e = absurd (omega (arith, e))
some-kind kinds.String e = absurd (omega (arith, e))
some-kind kinds.Array e = absurd (omega (arith, e))
some-kind kinds.Object e = absurd (omega (arith, e))

-- ---- integers

integer-long : (minus : Bool) (n : ℕ) (x : StaticNode) → x ≡ integer_node minus n → ((z : ℤ) → x ≢ fixed.I64 z)
    → ((m : ℕ) → x ≢ fixed.U64 m) → is_long x ≡ true
integer-long true n x is signed unsigned = ap is_long is ∙ go (nat_le n (max_magnitude_64 true)) (λ z e. signed z (is ∙ e))
  where
    go : (t : Bool) → ((z : ℤ) → cond t (fixed.I64 (number_of true n)) (fixed.I128 (number_of true n)) ≢ fixed.I64 z)
        → is_long (cond t (fixed.I64 (number_of true n)) (fixed.I128 (number_of true n))) ≡ true
    go true other = absurd (other (number_of true n) refl)
    go false other = refl
integer-long false n x is signed unsigned = ap is_long is ∙ go (nat_le n (max_magnitude_64 false)) (λ m e. unsigned m (is ∙ e))
  where
    go : (t : Bool) → ((m : ℕ) → cond t (fixed.U64 n) (fixed.U128 n) ≢ fixed.U64 m) → is_long (cond t (fixed.U64 n) (fixed.U128 n)) ≡ true
    go true other = absurd (other n refl)
    go false other = refl

same-integer : (o : Option Document) (x y : StaticNode) → IsInteger x o → IsInteger y o → x ≡ y
same-integer o x y a b =
    let same : Some (integer a.0 a.1) ≡ Some (integer b.0 b.1) = sym a.2 ∙ b.2 in
    let minus : a.0 ≡ b.0 = cc in
    let n : a.1 ≡ b.1 = cc in
    a.3 ∙ ap (λ m. integer_node m a.1) minus ∙ ap (integer_node b.0) n ∙ sym b.3

-- where the integer is none of 64 bits, or is none
pub long-only : (o : Option Document) (r : Option StaticNode) → MatchOption r (option_and_then as_integer o ≡ None) (λ x. IsInteger x o)
    → ((z : ℤ) → r ≢ Some (fixed.I64 z)) → ((m : ℕ) → r ≢ Some (fixed.U64 m)) → (x : StaticNode) → IsInteger x o → is_long x ≡ true
long-only o None none signed unsigned x is = absurd (let e = none in let f = is.2 in cc)
long-only o (Some y) some signed unsigned x is =
    ap is_long (same-integer o x y is some)
    ∙ integer-long some.0 some.1 y some.3 (λ z e. signed z (ap Some e)) (λ m e. unsigned m (ap Some e))

-- ---- strings

pub escape-of : (v : Value) (t : Bool) (n : ℕ) → n ≡ bool_byte t → (t ≡ true → HasEscape v)
    → (t ≡ false → as_standing accessors.str v ≡ Some (between_quotes v)) → IsEscapeOf v n
escape-of v false n is some none = inl (is, none refl)
escape-of v true n is some none = inr (is, some refl)

-- ---- truth values

pub truth-of : (v : Value) (t : Bool) (o : Option Bool) (n : ℕ) (bytes : List ℕ) (f : Field) → as_standing accessors.bool v ≡ Some t
    → o ≡ as_standing accessors.bool v → n ≡ bool_byte (unwrap_or o false) → f ≡ field_with 1 0 n → IsFieldAs v kinds.Bool bytes f
truth-of v t o n bytes f here read is field =
    let all : o ≡ Some t = read ∙ here in
    (t, here, field ∙ ap (field_with 1 0) (is ∙ ap (λ x. bool_byte (unwrap_or x false)) all ∙ bit t))
  where
    bit : (t : Bool) → bool_byte t ≡ cond t 1 0
    bit true = refl
    bit false = refl
