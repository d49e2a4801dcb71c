-- Digits, with zeros before or after them.
use Rattle.std.specs.Prelude.{ℕ, zero, suc, List, ◌++◌, drop, replicate, slice_index}
use Rattle.std.specs.Ordering.{nat_cmp, ordering_then}
use Rattle.std.specs.declared.cmp.Ordering.{Ordering}
use Rattle.std.specs.declared.cmp.Ordering.TheVariants.{Equal}
use Rattle.simd_json_number.specs.Numbers.{digits}
use Rattle.simd_json_number.specs.declared.digits.Digits.{Digits}

abbrev pub digits_left : Digits → List ℕ
digits_left d = replicate d.zeros 0 ++ digits d.bytes.now

-- the first that differ among so many decide, where zeros stand after the last one
abbrev pub compare_first : ℕ → List ℕ → List ℕ → Ordering
compare_first zero xs ys = Equal
compare_first (suc n) xs ys = ordering_then (nat_cmp (slice_index xs 0) (slice_index ys 0)) (compare_first n (drop 1 xs) (drop 1 ys))
