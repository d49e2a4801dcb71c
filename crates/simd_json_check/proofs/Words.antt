-- The words `true`, `false` and `null`, where they stand at an index.
use Rattle.std.proofs.Common.{◌≡◌, refl, sym, ◌∙◌, ap, ℕ, ◌+◌, List, length, drop, Bool, true, false, ◌&&◌}
use Rattle.std.proofs.Common.{nat_eq, [], ◌∷◌, arith}
use Rattle.std.specs.Prelude.{Some, codes}
use Rattle.std.specs.List.{starts_with}
use Rattle.std.proofs.lemmas.Bool.{and_parts, eqb-true}
use Rattle.simd_json_parts.specs.Bytes.{byte_at, is_terminator}
use Rattle.simd_json_parts.specs.Document.{null, boolean}
use Rattle.simd_json_parts.specs.Tokens.{form_at}
use Rattle.simd_json_stages.proofs.Tokens.ScalarLaws.{form_at-null, form_at-true, form_at-false, byte_at-after}
use Rattle.simd_json_check.specs.Scalars.{scalar_of}

-- these letters stand at the index, and a terminator after them
abbrev pub spells : List ℕ → ℕ → List ℕ → Bool
spells b i letters = starts_with nat_eq (drop i b) letters && is_terminator (byte_at b (i + length letters))

-- the first byte of letters that stand at an index
first-letter : (b : List ℕ) (i c : ℕ) (letters : List ℕ) → starts_with nat_eq (drop i b) (c ∷ letters) ≡ true → byte_at b i ≡ c
first-letter b i c letters h = byte_at-here ∙ go (drop i b) h
  where
    byte_at-here : byte_at b i ≡ byte_at (drop i b) 0
    byte_at-here = ap (byte_at b) (omega arith) ∙ byte_at-after b (drop i b) i 0 refl

    go : (bs : List ℕ) → starts_with nat_eq bs (c ∷ letters) ≡ true → byte_at bs 0 ≡ c
    go [] e = cc
    go (x ∷ bs) e = sym (eqb-true c x (and_parts _ _ e).0)

pub spelt : (b : List ℕ) (i : ℕ) (letters : List ℕ) → spells b i letters ≡ true
    → (starts_with nat_eq (drop i b) letters && is_terminator (byte_at (drop i b) (length letters))) ≡ true
spelt b i letters h =
    ap (λ c. starts_with nat_eq (drop i b) letters && is_terminator c) (sym (byte_at-after b (drop i b) i (length letters) refl)) ∙ h

pub first : (b : List ℕ) (i c : ℕ) (letters : List ℕ) → spells b i (c ∷ letters) ≡ true → byte_at b i ≡ c
first b i c letters h =
    let parts : (starts_with nat_eq (drop i b) (c ∷ letters) ≡ true) × (is_terminator (byte_at b (i + length (c ∷ letters))) ≡ true) =
    and_parts _ _ h in
    first-letter b i c letters parts.0

-- as a reader says whether they are spelled at the front of the bytes from the index on
pub spelt-here : (b bs letters : List ℕ) (i : ℕ) (r : Bool) → bs ≡ drop i b
    → r ≡ (starts_with nat_eq bs letters && is_terminator (byte_at bs (length letters))) → spells b i letters ≡ r
spelt-here b bs letters i r at is =
    ap (λ c. starts_with nat_eq (drop i b) letters && is_terminator c) (byte_at-after b (drop i b) i (length letters) refl)
    ∙ ap (λ us. starts_with nat_eq us letters && is_terminator (byte_at us (length letters))) (sym at) ∙ sym is

pub null-standing : (b : List ℕ) (i : ℕ) → spells b i (codes "null") ≡ true → scalar_of (form_at b i) ≡ Some null
null-standing b i h = ap scalar_of (form_at-null b (drop i b) i refl (first b i 110 (codes "ull") h) (spelt b i (codes "null") h))

pub true-standing : (b : List ℕ) (i : ℕ) → spells b i (codes "true") ≡ true → scalar_of (form_at b i) ≡ Some (boolean true)
true-standing b i h = ap scalar_of (form_at-true b (drop i b) i refl (first b i 116 (codes "rue") h) (spelt b i (codes "true") h))

pub false-standing : (b : List ℕ) (i : ℕ) → spells b i (codes "false") ≡ true → scalar_of (form_at b i) ≡ Some (boolean false)
false-standing b i h = ap scalar_of (form_at-false b (drop i b) i refl (first b i 102 (codes "alse") h) (spelt b i (codes "false") h))
