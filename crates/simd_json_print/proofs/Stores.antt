-- Bytes that are stored in a list from an index on: what stands in front of where they end, and behind.
use Rattle.std.proofs.Common.{◌≡◌, ◌∙◌, ap, sym, ℕ, ◌+◌, ◌-◌, ◌≤◌, List, ◌++◌, length, take, drop, append_assoc, take-add, drop-drop, arith}
use Rattle.std.proofs.lemmas.List.{length-append, length-take-le, take-take, take_at, drop_at}
use Rattle.std.proofs.Math.Seq.{take-length}
use Rattle.std.proofs.lemmas.Simd.{put_chunk_is, length-chunk}
use lib.Lanes.{chunk, put_chunk}

-- a vector
pub stored-vector : (all bytes : List ℕ) (at from n : ℕ) → from + n ≤ length bytes → at + n ≤ length all
    → take (at + n) (put_chunk at all (chunk from n bytes)) ≡ take at all ++ take n (drop from bytes)
stored-vector all bytes at from n some room =
    let part : List ℕ = chunk from n bytes in
    let size : length part ≡ n = length-chunk from n bytes some in
    let front : length (take at all) ≡ at = length-take-le at all (omega arith) in
    let both : length (take at all ++ part) ≡ at + n = omega (arith, length-append (take at all) part) in
    ap (take (at + n)) (put_chunk_is at all part (omega arith) ∙ sym (append_assoc (take at all) part (drop (length part) (drop at all))))
    ∙ take_at (take at all ++ part) (drop (length part) (drop at all)) (at + n) both

-- what stands in front of an index within what is stored
stored-front : (old new bytes : List ℕ) (at m n : ℕ) → m ≤ n → at ≤ length old → take (at + n) new ≡ take at old ++ take n bytes
    → take (at + m) new ≡ take at old ++ take m bytes
stored-front old new bytes at m n l room is =
    let size : length (take at old) ≡ at = length-take-le at old room in
    sym (take-take (at + m) (at + n) new (omega arith))
    ∙ ap (take (at + m)) is
    ∙ take-add at m (take at old ++ take n bytes)
    ∙ ap (λ us. us ++ take m (drop at (take at old ++ take n bytes))) (take_at (take at old) (take n bytes) at size)
    ∙ ap (λ us. take at old ++ take m us) (drop_at (take at old) (take n bytes) at size)
    ∙ ap (λ us. take at old ++ us) (take-take m n bytes l)

-- a second part, from an index within the first on
pub stored-then : (old middle new bytes : List ℕ) (at m n k : ℕ) → m ≤ n → at ≤ length old
    → take (at + n) middle ≡ take at old ++ take n bytes
    → take (at + m + k) new ≡ take (at + m) middle ++ take k (drop m bytes) → take (at + (m + k)) new ≡ take at old ++ take (m + k) bytes
stored-then old middle new bytes at m n k l room first second =
    let place : at + (m + k) ≡ at + m + k = omega arith in
    ap (λ i. take i new) place
    ∙ second
    ∙ ap (λ us. us ++ take k (drop m bytes)) (stored-front old middle bytes at m n l room first)
    ∙ append_assoc (take at old) (take m bytes) (take k (drop m bytes))
    ∙ ap (λ us. take at old ++ us) (sym (take-add m k bytes))

-- all of the bytes
pub stored-ends : (old middle new bytes : List ℕ) (at n : ℕ) → n ≤ length bytes → length bytes ≤ n + n → at ≤ length old
    → take (at + n) middle ≡ take at old ++ take n bytes
    → take (at + (length bytes - n) + n) new ≡ take (at + (length bytes - n)) middle ++ take n (drop (length bytes - n) bytes)
    → take (at + length bytes) new ≡ take at old ++ bytes
stored-ends old middle new bytes at n covers within room first second =
    let all : length bytes - n + n ≡ length bytes = omega arith in
    sym (ap (λ i. take (at + i) new) all)
    ∙ stored-then old middle new bytes at (length bytes - n) n n (omega arith) room first second
    ∙ ap (λ i. take at old ++ take i bytes) all
    ∙ ap (λ us. take at old ++ us) (take-length bytes)

-- ---- a run

-- a part that begins within what is stored, as far as it counts
pub stored-run : (old middle new bytes : List ℕ) (at from done n count : ℕ) → from ≤ done → count ≤ n → at ≤ length old
    → take (at + done) middle ≡ take at old ++ take done bytes
    → take (at + from + n) new ≡ take (at + from) middle ++ take n (drop from bytes)
    → take (at + (from + count)) new ≡ take at old ++ take (from + count) bytes
stored-run old middle new bytes at from done n count l within room first second =
    stored-front old new bytes at (from + count) (from + n) (omega arith) room
    (stored-then old middle new bytes at from done n l room first second)

-- ---- what is behind

-- a vector
pub behind-vector : (all bytes : List ℕ) (at from n : ℕ) → from + n ≤ length bytes → at + n ≤ length all
    → drop (at + n) (put_chunk at all (chunk from n bytes)) ≡ drop (at + n) all
behind-vector all bytes at from n some room =
    let part : List ℕ = chunk from n bytes in
    let size : length part ≡ n = length-chunk from n bytes some in
    let front : length (take at all) ≡ at = length-take-le at all (omega arith) in
    let both : length (take at all ++ part) ≡ at + n = omega (arith, length-append (take at all) part) in
    let rest : drop (length part) (drop at all) ≡ drop (at + n) all =
    drop-drop (length part) at all ∙ ap (λ i. drop (at + i) all) size in
    ap (drop (at + n)) (put_chunk_is at all part (omega arith) ∙ sym (append_assoc (take at all) part (drop (length part) (drop at all))))
    ∙ drop_at (take at all ++ part) (drop (length part) (drop at all)) (at + n) both
    ∙ rest

-- the first n and the last n of `len`
pub behind-ends : (old middle new : List ℕ) (at n len : ℕ) → n ≤ len → drop (at + n) middle ≡ drop (at + n) old
    → drop (at + (len - n) + n) new ≡ drop (at + (len - n) + n) middle → drop (at + len) new ≡ drop (at + len) old
behind-ends old middle new at n len covers first second =
    let end : at + (len - n) + n ≡ at + len = omega arith in
    let parts : at + n + (len - n) ≡ at + len = omega arith in
    let later : drop (at + len) new ≡ drop (at + len) middle =
    ap (λ i. drop i new) (sym end) ∙ second ∙ ap (λ i. drop i middle) end in
    let same : drop (at + len) middle ≡ drop (at + len) old =
    ap (λ i. drop i middle) (sym parts) ∙ sym (drop-drop (len - n) (at + n) middle) ∙ ap (drop (len - n)) first
    ∙ drop-drop (len - n) (at + n) old ∙ ap (λ i. drop i old) parts in
    later ∙ same
