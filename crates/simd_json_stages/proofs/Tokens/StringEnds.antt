-- Where a string ends: after its closing quote, and so inside the bytes.
use Rattle.std.proofs.Common.{◌≡◌, ap, ℕ, suc, List, [], ◌∷◌}
use Rattle.std.specs.Prelude.{Ok, slice_range}
use Rattle.simd_json_parts.specs.StringAt.{closing_quote, read_pieces, string_read, string_at}

string_read-end : (r : List ℕ × List ℕ) (close : ℕ) (t : List ℕ) (end : ℕ) → string_read r close ≡ Ok (t, end) → end ≡ suc close
string_read-end (u, []) close t end h = let r : List ℕ × ℕ = (u, suc close) in let s : List ℕ × ℕ = (t, end) in
    let same : s ≡ r = cc h in ap (λ (x : List ℕ × ℕ). x.1) same
string_read-end (u, x ∷ left) close t end h = cc h

-- a string that is read ends after its closing quote
pub string_at-end : (b : List ℕ) (i : ℕ) (t : List ℕ) (end : ℕ) → string_at b i ≡ Ok (t, end) → end ≡ suc (closing_quote b i)
unfolding string_at
string_at-end b i t end h = string_read-end (read_pieces 0 (slice_range b (suc i) (closing_quote b i))) (closing_quote b i) t end h
