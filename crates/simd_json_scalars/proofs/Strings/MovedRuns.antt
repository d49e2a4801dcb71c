-- A run of plain bytes is moved down while its end is looked for.
use Rattle.std.proofs.Common.{◌≡◌, refl, sym, ◌∙◌, ap, ℕ, ◌+◌, ◌-◌, ◌<◌, ◌≤◌, List, length, take, drop, append-nil, false, arith}
use Rattle.std.specs.List.{prefix_len, copy_within}
use lib.Lanes.{chunk, put_chunk}
use Rattle.simd_json_parts.specs.Bytes.{byte_at}
use Rattle.simd_json_parts.proofs.Lists.Drops.{drop-further}
use Rattle.simd_json_parts.proofs.Lists.Moves.{Moved, moved-more, moved-rest, moved-ahead, put_chunk-paste}
use Rattle.simd_json_scalars.specs.StringContent.{is_plain}
use Rattle.simd_json_scalars.specs.StringDecoded.{IsOpen, IsDecoded}
use Rattle.simd_json_scalars.proofs.Strings.Decoding.{run-inside, run-stops, decoded-run, decoded-byte}

-- So many bytes are moved, and as many of the run are left as stand after them.
pub record IsMoving (old now : List ℕ) (from to done : ℕ) : Type 0 where
  pub moved : Moved old now from to done
  pub value : from + prefix_len is_plain (drop from old) ≡ from + done + prefix_len is_plain (drop (from + done) now)
  pub bound : from + prefix_len is_plain (drop from old) < length now

-- At first none are.
pub moving-none : (bs : List ℕ) (from to : ℕ) → IsOpen bs from → IsMoving bs bs from to 0
moving-none bs from to goes_on =
    let front : from + 0 ≡ from = omega arith in
    let same : to + 0 ≡ to = omega arith in
    record {
      moved = record { written = ap (λ n. take n bs) same ∙ sym (append-nil (take to bs)); unread = refl; same_length = refl };
      value = omega (arith, ap (λ i. prefix_len is_plain (drop i bs)) front);
      bound = run-inside bs from goes_on.closed;
    }

-- Bytes of the run are moved on.
pub moving-more : (old now : List ℕ) (from to done n : ℕ) → to ≤ from → IsMoving old now from to done
    → prefix_len is_plain (drop (from + done) now) ≡ n + prefix_len is_plain (drop (from + done + n) now)
    → from + done + n ≤ length now → IsMoving old (put_chunk (to + done) now (chunk (from + done) n now)) from to (done + n)
moving-more old now from to done n down m run fits =
    let next : List ℕ = put_chunk (to + done) now (chunk (from + done) n now) in
    let place : from + done + n ≡ from + (done + n) = omega arith in
    let more : Moved old next from to (done + n) =
    moved-more old now next from to done n down (omega (arith, (m.moved).same_length)) m.moved
    (put_chunk-paste now (to + done) (from + done) n (omega arith) (omega arith)) in
    let left : drop (from + (done + n)) now ≡ drop (from + (done + n)) next =
    drop-further now old (from + done) (from + (done + n)) (omega arith) (moved-ahead old now from to done down m.moved)
    ∙ sym (moved-ahead old next from to (done + n) down more) in
    record {
      moved = more;
      value = omega (arith, m.value, run, ap (λ i. prefix_len is_plain (drop i now)) place, ap (prefix_len is_plain) left);
      bound = omega (arith, m.bound, (m.moved).same_length, more.same_length);
    }

-- With the rest of the run all of it is read and written.
pub moving-ends : (old now new : List ℕ) (from to done end : ℕ) → IsOpen old from → to ≤ from → IsMoving old now from to done
    → end ≡ from + done + prefix_len is_plain (drop (from + done) now) → new ≡ copy_within now (from + done) end (to + done)
    → IsDecoded old from to new end (to + (end - from)) × (is_plain (byte_at new end) ≡ false)
moving-ends old now new from to done end goes_on down m run copied =
    let whole : end ≡ from + prefix_len is_plain (drop from old) = omega (arith, run, m.value) in
    let all : Moved old new from to (end - from) =
    moved-rest old now new from to done end down (omega (arith, run)) (omega (arith, whole, m.bound, (m.moved).same_length))
    m.moved copied in
    let d : IsDecoded old from to new end (to + (end - from)) =
    decoded-run old new from to end (to + (end - from)) goes_on down whole refl all.written
    (drop-further new old (to + (end - from)) end (omega arith) all.unread) all.same_length in
    (d, ap is_plain (decoded-byte old new from to end (to + (end - from)) d) ∙ run-stops old from end goes_on whole)
