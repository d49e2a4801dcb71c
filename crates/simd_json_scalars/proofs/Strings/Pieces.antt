-- Pieces are read to their end, as their characters; so they spell one string.
use Rattle.std.proofs.Common.{◌≡◌, ◌≢◌, sym, ◌∙◌, ap, subst, ℕ, ◌+◌, ◌/◌, ◌≤◌, inl, inr, List, [], ◌∷◌, ◌++◌, Bool, true, false}
use Rattle.std.proofs.Common.{cond, nat_eq, nat_lt, drop, arith}
use Rattle.std.specs.Char.{encode_utf8}
use Rattle.std.specs.Prelude.{Option, Some, None, encode_utf8_all, if◌then◌else◌}
use lib.Utf8.{next}
use Rattle.std.proofs.lemmas.Bool.{eqb-true, ne_eqb, cases_Bool}
use Rattle.simd_json_parts.specs.Bytes.{backslash}
use Rattle.simd_json_parts.specs.Strings.{escaped_character, hex_value, is_high_surrogate, is_low_surrogate, paired, IsCodeUnit}
use Rattle.simd_json_parts.specs.Strings.{IsPiece, ArePieces}
use Rattle.simd_json_scalars.specs.StringContent.{with_prefix}
use Rattle.simd_json_parts.specs.StringAt.{escape_at, code_unit_at, simple_piece, pair_piece, unicode_piece, piece_at, with_piece}
use Rattle.simd_json_parts.specs.StringAt.{read_pieces}

abbrev pub Read : Type 0
Read = List ℕ × List ℕ

-- a byte that is no backslash stands for itself
pub read_byte : (x : ℕ) (ys : List ℕ) → nat_eq x 92 ≡ false → read_pieces 0 (x ∷ ys) ≡ with_prefix (x ∷ []) (read_pieces 0 ys)
unfolding read_pieces piece_at
read_byte x ys e = ap (λ t. with_piece (if t then escape_at (x ∷ ys) else Some (x ∷ [], 0)) (x ∷ ys) (λ n. read_pieces n ys)) e

no_simple_u : (letter c : ℕ) → escaped_character letter ≡ Some c → nat_eq letter 117 ≡ false
no_simple_u letter c e = elim (cases_Bool (nat_eq letter 117)) [
  | inl h ↦
      let none : None ≡ Some c = ap escaped_character (sym (eqb-true letter 117 h)) ∙ e in
      absurd (None-not-Some c none)
  | inr h ↦ h
]
  where
    None-not-Some : (c : ℕ) → let o : Option ℕ = None in o ≡ Some c → ⊥
    None-not-Some c e = cc

read_escape : (letter c : ℕ) (ys : List ℕ) → escaped_character letter ≡ Some c
    → read_pieces 0 (92 ∷ letter ∷ ys) ≡ with_prefix (encode_utf8 c) (read_pieces 0 ys)
unfolding read_pieces piece_at
read_escape letter c ys e =
    ap (λ t. with_piece (if t then unicode_piece (code_unit_at (92 ∷ letter ∷ ys)) (code_unit_at (drop 4 ys)) else simple_piece
    (escaped_character letter)) (92 ∷ letter ∷ ys) (λ n. read_pieces n (letter ∷ ys))) (no_simple_u letter c e)
    ∙ ap (λ o. with_piece (simple_piece o) (92 ∷ letter ∷ ys) (λ n. read_pieces n (letter ∷ ys))) e

read_unicode : (a b c d u : ℕ) (ys : List ℕ) → hex_value a b c d ≡ Some u → is_high_surrogate u ≡ false → is_low_surrogate u ≡ false
    → read_pieces 0 (92 ∷ 117 ∷ a ∷ b ∷ c ∷ d ∷ ys) ≡ with_prefix (encode_utf8 u) (read_pieces 0 ys)
unfolding read_pieces piece_at
read_unicode a b c d u ys e high low =
    let all : List ℕ = 92 ∷ 117 ∷ a ∷ b ∷ c ∷ d ∷ ys in
    let more : ℕ → Read = λ n. read_pieces n (117 ∷ a ∷ b ∷ c ∷ d ∷ ys) in
    ap (λ o. with_piece (unicode_piece o (code_unit_at ys)) all more) e
    ∙ ap (λ t. with_piece
    (if t then pair_piece u (code_unit_at ys) else if is_low_surrogate u then None else Some (encode_utf8 u, 5)) all more) high
    ∙ ap (λ t. with_piece (if t then None else Some (encode_utf8 u, 5)) all more) low

read_pair : (a b c d e f g h high low : ℕ) (ys : List ℕ) → hex_value a b c d ≡ Some high → hex_value e f g h ≡ Some low
    → is_high_surrogate high ≡ true → is_low_surrogate low ≡ true
    → read_pieces 0 (92 ∷ 117 ∷ a ∷ b ∷ c ∷ d ∷ 92 ∷ 117 ∷ e ∷ f ∷ g ∷ h ∷ ys)
    ≡ with_prefix (encode_utf8 (paired high low)) (read_pieces 0 ys)
unfolding read_pieces piece_at
read_pair a b c d e f g h high low ys first second is_high is_low =
    let all : List ℕ = 92 ∷ 117 ∷ a ∷ b ∷ c ∷ d ∷ 92 ∷ 117 ∷ e ∷ f ∷ g ∷ h ∷ ys in
    let more : ℕ → Read = λ n. read_pieces n (117 ∷ a ∷ b ∷ c ∷ d ∷ 92 ∷ 117 ∷ e ∷ f ∷ g ∷ h ∷ ys) in
    ap (λ o. with_piece (unicode_piece o (hex_value e f g h)) all more) first
    ∙ ap (λ t. with_piece (if t then pair_piece high (hex_value e f g h) else if is_low_surrogate high then None
    else Some (encode_utf8 high, 5)) all more) is_high
    ∙ ap (λ o. with_piece (pair_piece high o) all more) second
    ∙ ap (λ t. with_piece (if t then Some (encode_utf8 (paired high low), 11) else None) all more) is_low

big_byte : (n : ℕ) → 128 ≤ n → nat_eq n 92 ≡ false
big_byte n l = ne_eqb n 92 (λ e. omega arith)

high : (x : ℕ) → 128 ≤ x → (ys : List ℕ) → read_pieces 0 (x ∷ ys) ≡ with_prefix (x ∷ []) (read_pieces 0 ys)
high x l ys = read_byte x ys (big_byte x l)

-- the bytes of a character that is no backslash
read_plain : (c : ℕ) (ys : List ℕ) → c ≢ backslash → read_pieces 0 (encode_utf8 c ++ ys) ≡ with_prefix (encode_utf8 c) (read_pieces 0 ys)
unfolding encode_utf8
read_plain c ys ne = go (nat_lt c 128) (nat_lt c 2048) (nat_lt c 65536)
  where
    go : (x y z : Bool) → let bytes : List ℕ = cond x (c ∷ []) (cond y ((192 + c / 64) ∷ next c ∷ []) (cond z
        ((224 + c / 4096) ∷ next (c / 64) ∷ next c ∷ []) ((240 + c / 262144) ∷ next (c / 4096) ∷ next (c / 64) ∷ next c ∷ []))) in
        read_pieces 0 (bytes ++ ys) ≡ with_prefix bytes (read_pieces 0 ys)
    go true y z = read_byte c ys (ne_eqb c 92 ne)
    go false true z = high (192 + c / 64) (omega arith) (next c ∷ ys)
        ∙ ap (with_prefix ((192 + c / 64) ∷ [])) (high (next c) (omega arith) ys)
    go false false true =
        high (224 + c / 4096) (omega arith) (next (c / 64) ∷ next c ∷ ys)
        ∙ ap (with_prefix ((224 + c / 4096) ∷ [])) (high (next (c / 64)) (omega arith) (next c ∷ ys)
        ∙ ap (with_prefix (next (c / 64) ∷ [])) (high (next c) (omega arith) ys))
    go false false false =
        high (240 + c / 262144) (omega arith) (next (c / 4096) ∷ next (c / 64) ∷ next c ∷ ys)
        ∙ ap (with_prefix ((240 + c / 262144) ∷ []))
        (high (next (c / 4096)) (omega arith) (next (c / 64) ∷ next c ∷ ys)
        ∙ ap (with_prefix (next (c / 4096) ∷ [])) (high (next (c / 64)) (omega arith) (next c ∷ ys)
        ∙ ap (with_prefix (next (c / 64) ∷ [])) (high (next c) (omega arith) ys)))

-- ---- pieces

read_code_unit : (xs ys : List ℕ) (u : ℕ) → IsCodeUnit xs u → is_high_surrogate u ≡ false → is_low_surrogate u ≡ false
    → read_pieces 0 (xs ++ ys) ≡ with_prefix (encode_utf8 u) (read_pieces 0 ys)
read_code_unit xs ys u code_unit high low = subst (λ zs. read_pieces 0 (zs ++ ys) ≡ with_prefix (encode_utf8 u) (read_pieces 0 ys))
    (sym code_unit.4) (read_unicode code_unit.0 code_unit.1 code_unit.2 code_unit.3 u ys code_unit.5 high low)

read_code_units : (xs zs ys : List ℕ) (high low : ℕ) → IsCodeUnit xs high → IsCodeUnit zs low → is_high_surrogate high ≡ true
    → is_low_surrogate low ≡ true
    → read_pieces 0 ((xs ++ zs) ++ ys) ≡ with_prefix (encode_utf8 (paired high low)) (read_pieces 0 ys)
read_code_units xs zs ys high low first second is_high is_low =
    ap (λ us. read_pieces 0 (us ++ ys))
    (ap (λ us. us ++ zs) first.4 ∙ ap (λ us. (92 ∷ 117 ∷ first.0 ∷ first.1 ∷ first.2 ∷ first.3 ∷ []) ++ us) second.4)
    ∙ read_pair first.0 first.1 first.2 first.3 second.0 second.1 second.2 second.3 high low ys first.5 second.5 is_high is_low

pub read_piece : (xs ys : List ℕ) (c : ℕ) → IsPiece xs c → read_pieces 0 (xs ++ ys) ≡ with_prefix (encode_utf8 c) (read_pieces 0 ys)
read_piece xs ys c (inl (scalar, control, no_quote, no_backslash, e)) = ap (λ zs. read_pieces 0 (zs ++ ys)) e ∙ read_plain c ys no_backslash
read_piece xs ys c (inr (inl (letter, e, f))) = ap (λ zs. read_pieces 0 (zs ++ ys)) e ∙ read_escape letter c ys f
read_piece xs ys c (inr (inr (inl (code_unit, high, low)))) = read_code_unit xs ys c code_unit high low
read_piece xs ys c (inr (inr (inr (us, vs, high, low, e, first, second, is_high, is_low, f)))) =
    ap (λ zs. read_pieces 0 (zs ++ ys)) e ∙ read_code_units us vs ys high low first second is_high is_low
    ∙ ap (λ n. with_prefix (encode_utf8 n) (read_pieces 0 ys)) (sym f)

-- Pieces are read to the end, as their characters.
pub read_pieces-pieces : (bs cs : List ℕ) → ArePieces bs cs → read_pieces 0 bs ≡ (encode_utf8_all cs, [])
unfolding read_pieces
read_pieces-pieces bs [] e = ap (read_pieces 0) e
read_pieces-pieces bs (c ∷ cs) (xs, ys, e, piece, more) =
    ap (read_pieces 0) e ∙ read_piece xs ys c piece ∙ ap (with_prefix (encode_utf8 c)) (read_pieces-pieces ys cs more)

-- So bytes are pieces for one string at most.
pub encode_utf8_all-pieces : (bs cs ds : List ℕ) → ArePieces bs cs → ArePieces bs ds → encode_utf8_all cs ≡ encode_utf8_all ds
encode_utf8_all-pieces bs cs ds p q = ap (λ (r : Read). r.0) (sym (read_pieces-pieces bs cs p) ∙ read_pieces-pieces bs ds q)
