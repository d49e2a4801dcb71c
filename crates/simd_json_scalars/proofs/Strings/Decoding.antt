-- A string is decoded in place, step by step: an escape, a run of plain bytes that is moved down, and one step after another.
use Rattle.std.proofs.Common.{◌≡◌, refl, sym, ◌∙◌, ap, subst, ℕ, suc, ◌+◌, ◌-◌, ◌<◌, ◌≤◌, List, [], ◌∷◌, ◌++◌, length, take, drop, get_or}
use Rattle.std.proofs.Common.{false, append_assoc, append-nil, take-add, arith}
use Rattle.std.specs.Prelude.{Some, None, IsUtf8}
use Rattle.std.specs.Char.{encode_utf8, len_utf8}
use Rattle.std.specs.List.{prefix_len}
use Rattle.std.specs.Str.{IsCharBoundary}
use Rattle.std.proofs.lemmas.Bool.Decides.{nat_tests}
use Rattle.std.proofs.lemmas.List.{length-drop, drop-drop, get_or-drop, get_or_default}
use Rattle.std.proofs.lemmas.List.Sums.{prefix_len_stops}
use Rattle.std.proofs.lemmas.Str.{IsUtf8-append, IsUtf8-take, IsUtf8-drop, IsCharBoundary-before_ascii, IsCharBoundary-after_ascii}
use Rattle.simd_json_parts.specs.Bytes.{backslash, byte_at}
use Rattle.simd_json_parts.specs.StringAt.{escape_at, read_pieces}
use Rattle.simd_json_scalars.specs.StringContent.{content, is_plain, with_prefix}
use Rattle.simd_json_scalars.specs.StringDecoded.{IsOpen, IsDecoded, IsLeft}
use Rattle.simd_json_scalars.specs.declared.stringparse.BadEscape.{BadEscape}
use Rattle.simd_json_parts.proofs.Lists.Drops.{drop-further, drop-byte}
use Rattle.simd_json_scalars.proofs.Strings.Content.{content-dangling, content-escape}
use Rattle.simd_json_scalars.proofs.Strings.Steps.{PassesPieces, plain-passes, Escapes, escape-extent, escape-passes, escape-stops}

-- ---- a run of plain bytes

-- the run ends before the closing quote,
pub run-inside : (bs : List ℕ) (r : ℕ) → r + length (content (drop r bs)) < length bs → r + prefix_len is_plain (drop r bs) < length bs
run-inside bs r l = let p : PassesPieces (drop r bs) (prefix_len is_plain (drop r bs)) _ = plain-passes (drop r bs) in omega (arith, p.size)

-- at a byte that is not plain,
pub run-stops : (bs : List ℕ) (r s : ℕ) → IsOpen bs r → s ≡ r + prefix_len is_plain (drop r bs) → is_plain (byte_at bs s) ≡ false
run-stops bs r s goes_on e =
    let n : ℕ = prefix_len is_plain (drop r bs) in
    let inside : n < length (drop r bs) = omega (arith, run-inside bs r goes_on.closed, length-drop r bs) in
    ap (λ i. is_plain (byte_at bs i)) e ∙ ap is_plain (sym (get_or-drop r bs n 32)) ∙ prefix_len_stops is_plain (drop r bs) 32 inside

-- a byte that is not plain is ASCII
stop-ascii : (c : ℕ) → is_plain c ≡ false → c < 128
stop-ascii c e = grind (arith, nat_tests)

-- where a character may begin.
run-boundary : (bs : List ℕ) (r : ℕ) → IsOpen bs r → IsCharBoundary (drop r bs) (prefix_len is_plain (drop r bs))
run-boundary bs r goes_on =
    let n : ℕ = prefix_len is_plain (drop r bs) in
    let inside : n < length (drop r bs) = omega (arith, run-inside bs r goes_on.closed, length-drop r bs) in
    let ascii : get_or (drop r bs) n 0 < 128 = stop-ascii _ (prefix_len_stops is_plain (drop r bs) 0 inside) in
    IsCharBoundary-before_ascii (drop r bs) n inside ascii

-- A run that is moved down is read and written.
pub decoded-run : (old new : List ℕ) (r w s v : ℕ) → IsOpen old r → w ≤ r → s ≡ r + prefix_len is_plain (drop r old) → v ≡ w + (s - r)
    → take v new ≡ take w old ++ take (s - r) (drop r old) → drop s new ≡ drop s old → length new ≡ length old → IsDecoded old r w new s v
decoded-run old new r w s v goes_on after e f written unread same =
    let n : ℕ = prefix_len is_plain (drop r old) in
    let run : s - r ≡ n = omega arith in
    let p : PassesPieces (drop r old) n (take n (drop r old)) = plain-passes (drop r old) in
    let rest : drop n (drop r old) ≡ drop s old = drop-drop n r old ∙ ap (λ i. drop i old) (sym e) in
    let boundary : IsCharBoundary (drop r old) n = run-boundary old r goes_on in
    let size : r + length (content (drop r old)) ≡ s + length (content (drop s old)) =
    omega (arith, p.size, ap (λ us. length (content us)) rest) in
    record {
      string = take (s - r) (drop r old);
      reads = p.read ∙ ap (λ us. with_prefix (take n (drop r old)) (read_pieces 0 (content us))) rest
          ∙ ap (λ k. with_prefix (take k (drop r old)) (read_pieces 0 (content (drop s old)))) (sym run);
      size = size;
      written = written;
      unread = unread;
      same_length = same;
      forward = omega arith;
      grows = omega arith;
      order = omega arith;
      is_string = subst (λ k. IsUtf8 (take k (drop r old))) (sym run) (IsUtf8-take (drop r old) n goes_on.utf8 boundary);
      goes_on = record {
        closed = omega (arith, goes_on.closed);
        utf8 = subst IsUtf8 rest (IsUtf8-drop (drop r old) n goes_on.utf8 boundary);
      };
    }

-- A run that is not moved is read too.
pub run-decoded : (bs : List ℕ) (r s : ℕ) → IsOpen bs r → s ≡ r + prefix_len is_plain (drop r bs) → IsDecoded bs r r bs s s
run-decoded bs r s goes_on e =
    let split : r + (s - r) ≡ s = omega arith in
    decoded-run bs bs r r s s goes_on (omega arith) e (omega arith) (ap (λ n. take n bs) (sym split) ∙ take-add r (s - r) bs) refl refl

-- So it is, up to its end.
pub run-ended : (bs : List ℕ) (r s : ℕ) → IsOpen bs r → s ≡ r + prefix_len is_plain (drop r bs)
    → (s < length bs) × IsDecoded bs r r bs s s × (is_plain (byte_at bs s) ≡ false)
run-ended bs r s goes_on e =
    (omega (arith, e, run-inside bs r goes_on.closed), run-decoded bs r s goes_on e, run-stops bs r s goes_on e)

-- ---- an escape

-- what is open at a backslash goes on after it
pub record Backslash (bs : List ℕ) : Type 0 where
  pub letter : ℕ
  pub rest : List ℕ
  pub is : bs ≡ 92 ∷ letter ∷ rest

-- at the front
pub backslash-first : (bs : List ℕ) → length (content bs) < length bs → byte_at bs 0 ≡ 92 → Backslash bs
backslash-first [] l e = absurd (omega arith)
backslash-first (x ∷ []) l e =
    let all : length (content (x ∷ [])) ≡ 1 = ap (λ y. length (content (y ∷ []))) e ∙ ap length content-dangling in absurd (omega arith)
backslash-first (x ∷ y ∷ ys) l e = record { letter = y; rest = ys; is = ap (λ z. z ∷ y ∷ ys) e }

-- at an index
backslash-at : (bs : List ℕ) (r : ℕ) → IsOpen bs r → byte_at bs r ≡ 92 → Backslash (drop r bs)
backslash-at bs r goes_on here =
    let within : length (content (drop r bs)) < length (drop r bs) = omega (arith, goes_on.closed, length-drop r bs) in
    let zero_on : r + 0 ≡ r = omega arith in
    backslash-first (drop r bs) within (get_or-drop r bs 0 32 ∙ ap (byte_at bs) zero_on ∙ here)

-- so a byte stands after the backslash
pub backslash-fits : (bs : List ℕ) (r : ℕ) → IsOpen bs r → byte_at bs r ≡ backslash → 2 ≤ length (drop r bs)
backslash-fits bs r goes_on here = let b : Backslash (drop r bs) = backslash-at bs r goes_on here in omega (arith, ap length b.is)

-- and all of the escape stands before the closing quote
pub escape-fits : (bs string : List ℕ) (r more : ℕ) → IsOpen bs r → byte_at bs r ≡ backslash
    → escape_at (drop r bs) ≡ Some (string, more) → r + 1 + more < length bs
escape-fits bs string r more goes_on here e =
    let b : Backslash (drop r bs) = backslash-at bs r goes_on here in
    let p : PassesPieces (drop r bs) (suc more) string =
    subst (λ us. PassesPieces us (suc more) string) (sym b.is)
    (escape-passes b.letter b.rest string more (ap escape_at (sym b.is) ∙ e)) in
    omega (arith, p.size, goes_on.closed)

-- An escape whose character is written is read and written.
pub decoded-escape : (old new : List ℕ) (r w v c more : ℕ) → IsOpen old r → byte_at old r ≡ backslash → w ≤ r → IsUtf8 (encode_utf8 c)
    → escape_at (drop r old) ≡ Some (encode_utf8 c, more) → len_utf8 c ≤ more → v ≡ w + len_utf8 c
    → take v new ≡ take w old ++ encode_utf8 c → drop v new ≡ drop v old → length new ≡ length old → IsDecoded old r w new (r + 1 + more) v
decoded-escape old new r w v c more goes_on here after utf8 e shorter f written unread same =
    let b : Backslash (drop r old) = backslash-at old r goes_on here in
    let gives : escape_at (92 ∷ b.letter ∷ b.rest) ≡ Some (encode_utf8 c, more) = ap escape_at (sym b.is) ∙ e in
    let x : Escapes (drop r old) more =
    subst (λ us. Escapes us more) (sym b.is) (escape-extent b.letter b.rest (encode_utf8 c, more) gives) in
    let p : PassesPieces (drop r old) (suc more) (encode_utf8 c) =
    subst (λ us. PassesPieces us (suc more) (encode_utf8 c)) (sym b.is)
    (escape-passes b.letter b.rest (encode_utf8 c) more gives) in
    let end : r + suc more ≡ r + 1 + more = omega arith in
    let rest : drop (suc more) (drop r old) ≡ drop (r + 1 + more) old = drop-drop (suc more) r old ∙ ap (λ i. drop i old) end in
    let next : more + 1 ≡ suc more = omega arith in
    let last : get_or (drop r old) more 0 < 128 = omega (arith, get_or_default (drop r old) more 0 32 x.inside, x.last) in
    let boundary : IsCharBoundary (drop r old) (suc more) =
    subst (IsCharBoundary (drop r old)) next (IsCharBoundary-after_ascii (drop r old) more goes_on.utf8 x.inside last) in
    let size : r + length (content (drop r old)) ≡ r + 1 + more + length (content (drop (r + 1 + more) old)) =
    omega (arith, p.size, ap (λ us. length (content us)) rest) in
    record {
      string = encode_utf8 c;
      reads = p.read ∙ ap (λ us. with_prefix (encode_utf8 c) (read_pieces 0 (content us))) rest;
      size = size;
      written = written;
      unread = drop-further new old v (r + 1 + more) (omega arith) unread;
      same_length = same;
      forward = omega arith;
      grows = omega arith;
      order = omega arith;
      is_string = utf8;
      goes_on = record {
        closed = omega (arith, goes_on.closed);
        utf8 = subst IsUtf8 rest (IsUtf8-drop (drop r old) (suc more) goes_on.utf8 boundary);
      };
    }

-- ---- one after another

-- The bytes as they are now go on as they did.
pub decoded-open : (old new : List ℕ) (r w s v : ℕ) → IsDecoded old r w new s v → IsOpen new s
decoded-open old new r w s v d = record {
  closed = omega (arith, d.goes_on.closed, ap (λ us. length (content us)) d.unread);
  utf8 = subst IsUtf8 (sym d.unread) d.goes_on.utf8;
}

-- two strings as one prefix
pub with_prefix-with_prefix : (xs ys : List ℕ) (read : List ℕ × List ℕ) → with_prefix xs (with_prefix ys read) ≡ with_prefix (xs ++ ys) read
with_prefix-with_prefix xs ys read = ap (λ us. (us, read.1)) (sym (append_assoc xs ys read.0))

-- Two steps are one.
pub decoded-further : (old mid new : List ℕ) (r w s v t u : ℕ) → IsDecoded old r w mid s v → IsDecoded mid s v new t u
    → IsDecoded old r w new t u
decoded-further old mid new r w s v t u d e =
    let rest : drop t mid ≡ drop t old = drop-further mid old s t e.forward d.unread in
    record {
      string = d.string ++ e.string;
      reads =
          d.reads
          ∙ ap (λ us. with_prefix d.string (read_pieces 0 (content us))) (sym d.unread)
          ∙ ap (with_prefix d.string) e.reads
          ∙ ap (λ us. with_prefix d.string (with_prefix e.string (read_pieces 0 (content us)))) rest
          ∙ with_prefix-with_prefix d.string e.string (read_pieces 0 (content (drop t old)));
      size = omega (arith, d.size, e.size, ap (λ us. length (content us)) d.unread, ap (λ us. length (content us)) rest);
      written = e.written ∙ ap (λ us. us ++ e.string) d.written ∙ append_assoc (take w old) d.string e.string;
      unread = e.unread ∙ rest;
      same_length = e.same_length ∙ d.same_length;
      forward = omega (arith, d.forward, e.forward);
      grows = omega (arith, d.grows, e.grows);
      order = e.order;
      is_string = IsUtf8-append d.string e.string d.is_string e.is_string;
      goes_on = record {
        closed = omega (arith, e.goes_on.closed, d.same_length, ap (λ us. length (content us)) rest);
        utf8 = subst IsUtf8 rest e.goes_on.utf8;
      };
    }

-- ---- where it ends

-- The byte up to which the bytes are read is as it stood.
pub decoded-byte : (old new : List ℕ) (r w s v : ℕ) → IsDecoded old r w new s v → byte_at new s ≡ byte_at old s
decoded-byte old new r w s v d = drop-byte new old s d.unread

-- At a bad escape nothing more is read.
pub decoded-left : (old new : List ℕ) (from s v : ℕ) (bad : BadEscape) → IsDecoded old from from new s v → byte_at old s ≡ backslash
    → escape_at (drop s old) ≡ None
    → bad.offset ≡ s → bad.letter ≡ byte_at old (s + 1) → IsLeft old from bad
decoded-left old new from s v bad d here none at letter =
    let b : Backslash (drop s old) = backslash-at old s d.goes_on here in
    let second : byte_at old (s + 1) ≡ b.letter = sym (get_or-drop s old 1 32) ∙ ap (λ us. byte_at us 1) b.is in
    let left : content (drop s old) ≡ 92 ∷ b.letter ∷ content b.rest = ap content b.is ∙ content-escape b.letter b.rest in
    let stops : read_pieces 0 (content (drop s old)) ≡ ([], 92 ∷ b.letter ∷ content b.rest) =
    ap (λ us. read_pieces 0 (content us)) b.is ∙ escape-stops b.letter b.rest (ap escape_at (sym b.is) ∙ none) in (
      d.string,
      content b.rest,
      d.reads ∙ ap (with_prefix d.string) stops ∙ ap (λ us. (us, 92 ∷ b.letter ∷ content b.rest)) (append-nil d.string)
          ∙ ap (λ l. (d.string, 92 ∷ l ∷ content b.rest)) (sym (letter ∙ second)),
      omega (arith, at, d.size, ap length left),
    )

-- Where the byte that stands now is a backslash, it was one,
pub was-backslash : (old cur : List ℕ) (from s v : ℕ) → IsDecoded old from from cur s v → get_or cur s 0 ≡ backslash
    → byte_at old s ≡ backslash
was-backslash old cur from s v d here =
    let inside : s < length cur = omega (arith, d.goes_on.closed, d.same_length) in
    sym (decoded-byte old cur from from s v d) ∙ get_or_default cur s 32 0 inside ∙ here

-- and a byte stands after it.
pub decoded-fits : (old cur : List ℕ) (from s v : ℕ) → IsDecoded old from from cur s v → get_or cur s 0 ≡ backslash → s + 1 < length cur
decoded-fits old cur from s v d here =
    omega (arith, backslash-fits old s d.goes_on (was-backslash old cur from s v d here), length-drop s old, d.same_length)

-- the same of the bytes as they are now
pub decoded-bad : (old cur now : List ℕ) (from s v : ℕ) (bad : BadEscape) → IsDecoded old from from cur s v
    → get_or cur s 0 ≡ backslash → escape_at (drop s cur) ≡ None
    → now ≡ cur → bad.offset ≡ s → bad.letter ≡ get_or now (s + 1) 0 → IsLeft old from bad
decoded-bad old cur now from s v bad d here none same at letter =
    let next : s + 1 < length cur = decoded-fits old cur from s v d here in
    let was : get_or now (s + 1) 0 ≡ byte_at old (s + 1) =
    ap (λ us. get_or us (s + 1) 0) same ∙ get_or_default cur (s + 1) 0 32 next
    ∙ drop-byte cur old (s + 1) (drop-further cur old s (s + 1) (omega arith) d.unread) in
    decoded-left old cur from s v bad d (was-backslash old cur from s v d here) (ap escape_at (sym d.unread) ∙ none) at (letter ∙ was)
