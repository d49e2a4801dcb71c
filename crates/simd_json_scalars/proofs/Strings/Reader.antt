-- What the reader of a string answers: the string at every index from which its bytes go on.
use Rattle.std.proofs.Common.{◌≡◌, refl, sym, ◌∙◌, ap, subst, ℕ, suc, ◌+◌, ◌-◌, ◌<◌, ◌≤◌, List, [], ◌∷◌, length, take, drop, get_or}
use Rattle.std.proofs.Common.{append-nil, arith}
use Rattle.std.specs.Prelude.{Ok, Err, IsUtf8, slice_range}
use Rattle.std.proofs.lemmas.List.{length-drop, drop-drop, drop_at, drop-take, get_or-drop, get_or_default, length-take-le, take-take}
use Rattle.std.proofs.lemmas.Str.{IsUtf8-drop, IsCharBoundary-after_ascii}
use Rattle.simd_json_parts.specs.Bytes.{quote, byte_at}
use Rattle.simd_json_parts.specs.StringAt.{closing_quote, escape_fault, read_pieces, string_read, string_at}
use Rattle.simd_json_scalars.specs.StringContent.{content, with_prefix}
use Rattle.simd_json_scalars.specs.StringDecoded.{IsOpen, IsDecoded, IsLeft}
use Rattle.simd_json_scalars.specs.declared.stringparse.BadEscape.{BadEscape}
use Rattle.simd_json_scalars.proofs.Strings.Content.{content-quote, closing_quote-content, string_at-content}
use Rattle.simd_json_parts.proofs.Lists.Drops.{drop-further}

-- ---- at the start

-- after an opening quote
pub opened : (bs : List ℕ) → byte_at bs 0 ≡ quote → closing_quote bs 0 < length bs → IsUtf8 bs → IsOpen bs 1
opened bs opening closing utf8 =
    let inside : 0 < length bs = omega arith in
    let ascii : get_or bs 0 0 < 128 = omega (arith, get_or_default bs 0 0 32 inside, opening) in
    record {
      closed = omega (arith, closing, closing_quote-content bs 0 opening);
      utf8 = IsUtf8-drop bs 1 utf8 (IsCharBoundary-after_ascii bs 0 utf8 inside ascii);
    }

-- ---- at the end

-- what was written is the string
pub decoded-slice : (old new : List ℕ) (s v : ℕ) (d : IsDecoded old 1 1 new s v) → slice_range new 1 v ≡ d.string
decoded-slice old new s v d =
    let split : 1 + (v - 1) ≡ v = omega (arith, d.grows) in
    let one : length (take 1 old) ≡ 1 = length-take-le 1 old (omega (arith, d.goes_on.closed, d.forward)) in
    sym (drop-take 1 (v - 1) new) ∙ ap (λ n. drop 1 (take n new)) split ∙ ap (drop 1) d.written ∙ drop_at (take 1 old) d.string 1 one

-- so that is UTF-8
pub decoded-string : (old new : List ℕ) (s v : ℕ) → IsDecoded old 1 1 new s v → IsUtf8 (slice_range new 1 v)
decoded-string old new s v d = subst IsUtf8 (sym (decoded-slice old new s v d)) d.is_string

-- it is the same of the bytes that it was written in
pub slice-prefix : (bs prefix : List ℕ) (len end : ℕ) → 1 ≤ end → end < len → prefix ≡ take len bs
    → take (end - 1) (drop 1 prefix) ≡ slice_range bs 1 end
slice-prefix bs prefix len end some l e =
    let size : len ≡ 1 + (len - 1) = omega arith in
    ap (λ us. take (end - 1) (drop 1 us)) (e ∙ ap (λ n. take n bs) size) ∙ ap (take (end - 1)) (drop-take 1 (len - 1) bs)
    ∙ take-take (end - 1) (len - 1) (drop 1 bs) (omega arith)

-- the bytes from an index on, and those after a quote there
opening-at : (b old : List ℕ) (i : ℕ) → drop i b ≡ old → byte_at old 0 ≡ quote → byte_at b i ≡ 34
opening-at b old i e opening =
    let same : i ≡ i + 0 = omega arith in
    ap (byte_at b) same ∙ sym (get_or-drop i b 0 32) ∙ ap (λ us. byte_at us 0) e ∙ opening

-- the bytes further on
after-at : (b old : List ℕ) (i n : ℕ) → drop i b ≡ old → drop n old ≡ drop (i + n) b
after-at b old i n e = ap (drop n) (sym e) ∙ drop-drop n i b

-- the string at the index, from the content of the bytes
pub string_at-drop : (b old : List ℕ) (i : ℕ) → drop i b ≡ old → byte_at old 0 ≡ quote
    → string_at b i ≡ string_read (read_pieces 0 (content (drop 1 old))) (i + (1 + length (content (drop 1 old))))
string_at-drop b old i e opening =
    let next : i + 1 ≡ suc i = omega arith in
    let after : drop (suc i) b ≡ drop 1 old = ap (λ n. drop n b) (sym next) ∙ sym (after-at b old i 1 e) in
    let end : suc i + length (content (drop 1 old)) ≡ i + (1 + length (content (drop 1 old))) = omega arith in
    string_at-content b i (opening-at b old i e opening)
    ∙ ap (λ us. string_read (read_pieces 0 (content us)) (suc i + length (content us))) after
    ∙ ap (string_read (read_pieces 0 (content (drop 1 old)))) end

-- nothing is read of nothing
pub read_pieces-none : read_pieces 0 [] ≡ ([], [])
unfolding read_pieces
read_pieces-none = refl

-- a quote at the front leaves no content
pub content-closed : (bs : List ℕ) → 0 < length bs → byte_at bs 0 ≡ quote → content bs ≡ []
content-closed [] l e = absurd (omega arith)
content-closed (x ∷ xs) l e = ap (λ y. content (y ∷ xs)) e ∙ content-quote xs

-- what was written up to a quote is the string at the index
string_at-decoded : (b old new : List ℕ) (i s v : ℕ) → drop i b ≡ old → byte_at old 0 ≡ quote → IsDecoded old 1 1 new s v
    → byte_at old s ≡ quote → string_at b i ≡ Ok (slice_range new 1 v, i + (s + 1))
string_at-decoded b old new i s v e opening d closing =
    let inside : 0 < length (drop s old) = omega (arith, d.goes_on.closed, length-drop s old) in
    let same : s + 0 ≡ s = omega arith in
    let none : content (drop s old) ≡ [] = content-closed (drop s old) inside (get_or-drop s old 0 32 ∙ ap (byte_at old) same ∙ closing) in
    let read : read_pieces 0 (content (drop 1 old)) ≡ (d.string, []) =
    d.reads ∙ ap (λ us. with_prefix d.string (read_pieces 0 us)) none ∙ ap (with_prefix d.string) read_pieces-none
    ∙ ap (λ us. (us, [])) (append-nil d.string) in
    let end : suc (i + (1 + length (content (drop 1 old)))) ≡ i + (s + 1) = omega (arith, d.size, ap length none) in
    let whole : string_at b i ≡ Ok (d.string, i + (s + 1)) =
    string_at-drop b old i e opening ∙ ap (λ r. string_read r (i + (1 + length (content (drop 1 old))))) read
    ∙ ap (λ n. Ok (d.string, n)) end in
    whole ∙ ap (λ us. Ok (us, i + (s + 1))) (sym (decoded-slice old new s v d))

-- Where all is read up to a quote, what is shared is the string, and the bytes after it are those of the input.
pub string_at-shared : (b old new string rest : List ℕ) (i s v len : ℕ) → drop i b ≡ old → byte_at old 0 ≡ quote
    → IsDecoded old 1 1 new s v → byte_at old s ≡ quote
    → string ≡ slice_range new 1 v → rest ≡ drop (s + 1) new → len ≡ s + 1
    → (string_at b i ≡ Ok (string, i + len)) × (rest ≡ drop (i + len) b)
string_at-shared b old new string rest i s v len e opening d closing shared after size =
    let whole : i + (s + 1) ≡ i + len = ap (λ n. i + n) (sym size) in (
      string_at-decoded b old new i s v e opening d closing ∙ ap (λ us. Ok (us, i + (s + 1))) (sym shared) ∙ ap (λ n. Ok (string, n)) whole,
      after ∙ drop-further new old s (s + 1) (omega arith) d.unread ∙ after-at b old i (s + 1) e ∙ ap (λ n. drop n b) whole,
    )

-- Where a bad escape is left, its fault is answered.
pub string_at-left : (b old new : List ℕ) (i s v : ℕ) (bad : BadEscape) → drop i b ≡ old → byte_at old 0 ≡ quote
    → IsDecoded old 1 1 new s v → IsLeft old s bad → string_at b i ≡ Err (escape_fault (i + bad.offset) bad.letter)
string_at-left b old new i s v bad e opening d (string, left, reads, at) =
    let end : ℕ = i + (1 + length (content (drop 1 old))) in
    let place : end - suc (suc (length left)) ≡ i + bad.offset = omega (arith, d.size, at) in
    string_at-drop b old i e opening
    ∙ ap (λ r. string_read r end) (d.reads ∙ ap (with_prefix d.string) reads)
    ∙ ap (λ n. Err (escape_fault n bad.letter)) place
