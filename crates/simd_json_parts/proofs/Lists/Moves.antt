-- Bytes are moved down within their list, part by part.
use Rattle.std.proofs.Common.{◌≡◌, sym, ◌∙◌, ap, subst, ℕ, ◌+◌, ◌-◌, ◌≤◌, List, ◌++◌, length, take, drop, append_assoc, take-add, arith}
use Rattle.std.proofs.lemmas.List.{length-drop, drop-drop, take-take, take_at, drop_at, length-take-le}
use Rattle.std.proofs.lemmas.List.Edits.{take-paste, drop-paste, length-paste}
use Rattle.std.proofs.lemmas.Simd.{put_chunk_is, length-chunk, length-put_chunk}
use lib.Seq.{paste}
use lib.Lanes.{chunk, put_chunk}
use Rattle.simd_json_parts.proofs.Lists.Drops.{drop-further}

-- of the bytes from `from` on, so many stand at `to`, and nothing after them has changed
pub record Moved (old new : List ℕ) (from to done : ℕ) : Type 0 where
  pub written : take (to + done) new ≡ take to old ++ take done (drop from old)
  pub unread : drop (to + done) new ≡ drop (to + done) old
  pub same_length : length new ≡ length old

-- a stored vector is a pasted part
pub put_chunk-paste : (xs : List ℕ) (i j n : ℕ) → j + n ≤ length xs → i + n ≤ length xs
    → put_chunk i xs (chunk j n xs) ≡ paste xs i (drop j xs) n
put_chunk-paste xs i j n from to =
    let size : length (chunk j n xs) ≡ n = length-chunk j n xs from in
    put_chunk_is i xs (chunk j n xs) (omega arith)
    ∙ ap (λ k. take i xs ++ (chunk j n xs ++ drop k (drop i xs))) size
    ∙ ap (λ us. take i xs ++ (chunk j n xs ++ us)) (drop-drop n i xs)
    ∙ sym (append_assoc (take i xs) (chunk j n xs) (drop (i + n) xs))

-- With a part that is pasted after them, so many more are moved,
pub moved-more : (old cur new : List ℕ) (from to done n : ℕ) → to ≤ from → from + done + n ≤ length old → Moved old cur from to done
    → new ≡ paste cur (to + done) (drop (from + done) cur) n → Moved old new from to (done + n)
moved-more old cur new from to done n down fits m e =
    let whole : to + done + n ≡ to + (done + n) = omega arith in
    let enough : n ≤ length (drop (from + done) cur) = omega (arith, length-drop (from + done) cur, m.same_length) in
    let rest : drop (from + done) cur ≡ drop done (drop from old) =
    drop-further cur old (to + done) (from + done) (omega arith) m.unread ∙ sym (drop-drop done from old) in
    record {
      written =
          ap (take (to + (done + n))) e
          ∙ ap (λ k. take k (paste cur (to + done) (drop (from + done) cur) n)) (sym whole)
          ∙ take-paste cur (to + done) (drop (from + done) cur) n (omega (arith, m.same_length)) enough
          ∙ ap (λ us. us ++ take n (drop (from + done) cur)) m.written
          ∙ ap (λ us. (take to old ++ take done (drop from old)) ++ take n us) rest
          ∙ append_assoc (take to old) (take done (drop from old)) (take n (drop done (drop from old)))
          ∙ ap (λ us. take to old ++ us) (sym (take-add done n (drop from old)));
      unread =
          ap (drop (to + (done + n))) e
          ∙ ap (λ k. drop k (paste cur (to + done) (drop (from + done) cur) n)) (sym whole)
          ∙ drop-paste cur (to + done) (drop (from + done) cur) n (omega (arith, m.same_length)) enough
          ∙ ap (λ k. drop k cur) whole
          ∙ drop-further cur old (to + done) (to + (done + n)) (omega arith) m.unread;
      same_length = ap length e
          ∙ length-paste cur (to + done) (drop (from + done) cur) n (omega (arith, m.same_length)) enough ∙ m.same_length;
    }

-- and with the rest of them, all
pub moved-rest : (old cur new : List ℕ) (from to done end : ℕ) → to ≤ from → from + done ≤ end → end ≤ length old
    → Moved old cur from to done
    → new ≡ paste cur (to + done) (drop (from + done) cur) (end - (from + done)) → Moved old new from to (end - from)
moved-rest old cur new from to done end down short inside m e =
    let all : done + (end - (from + done)) ≡ end - from = omega arith in
    subst (Moved old new from to) all (moved-more old cur new from to done (end - (from + done)) down (omega arith) m e)

-- What is still to be moved is as it stood.
pub moved-ahead : (old cur : List ℕ) (from to done : ℕ) → to ≤ from → Moved old cur from to done
    → drop (from + done) cur ≡ drop (from + done) old
moved-ahead old cur from to done down m = drop-further cur old (to + done) (from + done) (omega arith) m.unread

-- the first part of what was pasted, and more after it
take-pasted : (xs zs : List ℕ) (to k m : ℕ) → m ≤ k → to + k ≤ length xs → k ≤ length zs
    → take (to + m) (paste xs to zs k) ≡ take to xs ++ take m zs
take-pasted xs zs to k m l fits enough =
    let pasted : List ℕ = paste xs to zs k in
    let prefix : List ℕ = take to xs in
    let size : length prefix ≡ to = length-take-le to xs (omega arith) in
    let both : take (to + k) pasted ≡ prefix ++ take k zs = take-paste xs to zs k (omega arith) enough in
    sym (take-take (to + m) (to + k) pasted (omega arith))
    ∙ ap (take (to + m)) both
    ∙ take-add to m (prefix ++ take k zs)
    ∙ ap (λ us. us ++ take m (drop to (prefix ++ take k zs))) (take_at prefix (take k zs) to size)
    ∙ ap (λ us. prefix ++ take m us) (drop_at prefix (take k zs) to size)
    ∙ ap (λ us. prefix ++ us) (take-take m k zs l)

-- Two vectors that overlap, the second loaded before the first is stored, are one part.
pub two-stored : (xs : List ℕ) (from to n k last : ℕ) → to ≤ from → k ≤ n → n ≤ k + k → from + n ≤ length xs → last ≡ from + (n - k)
    → put_chunk (to + (n - k)) (put_chunk to xs (chunk from k xs)) (chunk last k xs) ≡ paste xs to (drop from xs) n
two-stored xs from to n k last down most twice fits place =
    let zs : List ℕ = drop from xs in
    let first : List ℕ = put_chunk to xs (chunk from k xs) in
    let m : ℕ = n - k in
    let enough : k ≤ length zs = omega (arith, length-drop from xs) in
    let pasted : first ≡ paste xs to zs k = put_chunk-paste xs to from k (omega arith) (omega arith) in
    let long : length first ≡ length xs = length-put_chunk to xs (chunk from k xs) in
    let size : length (chunk last k xs) ≡ k = length-chunk last k xs (omega arith) in
    let second : chunk last k xs ≡ take k (drop m zs) = ap (λ i. take k (drop i xs)) place ∙ ap (take k) (sym (drop-drop m from xs)) in
    let prefix : take (to + m) first ≡ take to xs ++ take m zs =
    ap (take (to + m)) pasted ∙ take-pasted xs zs to k m (omega arith) (omega arith) enough in
    let kept : drop (to + k) first ≡ drop (to + k) xs = ap (drop (to + k)) pasted ∙ drop-paste xs to zs k (omega arith) enough in
    let end : to + m + k ≡ to + n = omega arith in
    let rest : drop k (drop (to + m) first) ≡ drop (to + n) xs =
    drop-drop k (to + m) first ∙ ap (λ i. drop i first) end ∙ drop-further first xs (to + k) (to + n) (omega arith) kept in
    let all : m + k ≡ n = omega arith in
    let run : take m zs ++ take k (drop m zs) ≡ take n zs = sym (take-add m k zs) ∙ ap (λ i. take i zs) all in
    put_chunk_is (to + m) first (chunk last k xs) (omega arith)
    ∙ ap (λ i. take (to + m) first ++ (chunk last k xs ++ drop i (drop (to + m) first))) size
    ∙ ap (λ us. take (to + m) first ++ (chunk last k xs ++ us)) rest
    ∙ ap (λ us. us ++ (chunk last k xs ++ drop (to + n) xs)) prefix
    ∙ ap (λ us. (take to xs ++ take m zs) ++ (us ++ drop (to + n) xs)) second
    ∙ append_assoc (take to xs) (take m zs) (take k (drop m zs) ++ drop (to + n) xs)
    ∙ ap (λ us. take to xs ++ us) (sym (append_assoc (take m zs) (take k (drop m zs)) (drop (to + n) xs)))
    ∙ ap (λ us. take to xs ++ (us ++ drop (to + n) xs)) run
    ∙ sym (append_assoc (take to xs) (take n zs) (drop (to + n) xs))
