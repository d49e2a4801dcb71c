-- What is read of a string's content is the longest prefix of it that is pieces.
use Rattle.std.proofs.Common.{◌≡◌, refl, sym, ◌∙◌, ap, ℕ, zero, suc, ◌+◌, ◌≤◌, ◌<◌, List, [], ◌∷◌, ◌++◌, length, take, drop}
use Rattle.std.proofs.Common.{append-nil, append_assoc, length-drop, arith, IsUtf8}
use Rattle.std.specs.Prelude.{Option, Some, None, IsFalse, encode_utf8_all}
use Rattle.std.proofs.lemmas.List.{take-append-drop}
use Rattle.simd_json_parts.specs.Bytes.{byte_at}
use Rattle.simd_json_parts.specs.Positions.{is_real_quote, backslashes_before}
use Rattle.simd_json_parts.specs.StringAt.{piece_at, with_piece, read_pieces}
use Rattle.simd_json_parts.specs.Strings.{ArePieces}
use Rattle.simd_json_scalars.proofs.Strings.Pieces.{Read, read_piece}
use Rattle.simd_json_theorems.proofs.Sound.Strings.{ArePiecesRead, pieces-read}

-- What is left after pieces is what is left of what follows them.
left-after : (xs ys cs : List ℕ) → ArePieces xs cs → (read_pieces 0 (xs ++ ys)).1 ≡ (read_pieces 0 ys).1
left-after xs ys [] e = ap (λ us. (read_pieces 0 (us ++ ys)).1) e
left-after xs ys (c ∷ cs) (us, vs, e, piece, more) =
    ap (λ ws. (read_pieces 0 (ws ++ ys)).1) e ∙ ap (λ ws. (read_pieces 0 ws).1) (append_assoc us vs ys)
    ∙ ap (λ (r : Read). r.1) (read_piece us (vs ++ ys) c piece) ∙ left-after vs ys cs more

-- No more is left than was there.
left-with : (o : Option (List ℕ × ℕ)) (content : List ℕ) (more : ℕ → Read) (n : ℕ) → length content ≤ n
    → ((k : ℕ) → length (more k).1 ≤ n) → length (with_piece o content more).1 ≤ n
left-with None content more n l h = l
left-with (Some p) content more n l h = h p.1

left-le : (skip : ℕ) (bs : List ℕ) → length (read_pieces skip bs).1 ≤ length bs
unfolding read_pieces
left-le skip [] = omega arith
left-le (suc skip) (x ∷ bs) = omega (arith, left-le skip bs)
left-le zero (x ∷ bs) = left-with (piece_at (x ∷ bs)) (x ∷ bs) (λ n. read_pieces n bs) (suc (length bs)) (omega arith)
    (λ k. omega (arith, left-le k bs))

-- No longer prefix is pieces.
pub pieces-longest : (bs : List ℕ) (n : ℕ) (cs : List ℕ) → n ≤ length bs → ArePieces (take n bs) cs
    → n + length (read_pieces 0 bs).1 ≤ length bs
pieces-longest bs n cs l p =
    let same : (read_pieces 0 bs).1 ≡ (read_pieces 0 (drop n bs)).1 =
    ap (λ us. (read_pieces 0 us).1) (sym (take-append-drop n bs)) ∙ left-after (take n bs) (drop n bs) cs p in
    omega (arith, ap length same, left-le 0 (drop n bs), length-drop n bs, l)

-- What is read is pieces, where no byte is a control byte or a quote that ends the string.
pub pieces-prefix : (bs : List ℕ) → IsUtf8 bs → ((i : ℕ) → i < length bs → 32 ≤ byte_at bs i)
    → ((i : ℕ) → i < length bs → IsFalse (is_real_quote bs i))
    → (own : List ℕ) × (cs : List ℕ) × (bs ≡ own ++ (read_pieces 0 bs).1) × ArePieces own cs × ((read_pieces 0 bs).0 ≡ encode_utf8_all cs)
unfolding backslashes_before
pieces-prefix bs utf8 printed none =
    let whole : 0 + length bs ≡ length bs = omega arith in
    let read : ArePiecesRead bs 0 (length bs) [] (λ j _ l. none j l) (λ j _ l. printed j l) bs (read_pieces 0 bs) =
    pieces-read bs 0 (length bs) [] (λ j _ l. none j l) (λ j _ l. printed j l) (length bs) 0 bs
    (record { short = omega arith; from = omega arith; size = whole; at = sym (append-nil bs); even = refl; utf8 = utf8 }) in
    (read.own, read.characters, read.whole, read.pieces, read.string)
