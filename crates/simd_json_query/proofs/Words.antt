-- Characters that a text begins with.
use Rattle.std.proofs.Common.{◌≡◌, ◌∙◌, ap, sym, ◌≤◌, ◌+◌, ℕ, List, ◌++◌, length, drop, arith}
use Rattle.std.specs.Borrow.{Bor}
use Rattle.std.specs.Prelude.{Option, Some, None, IfSome, MatchOption}
use Rattle.std.specs.Str.Pattern.{FindsTextPrefix}

pub word-found : (w s : List ℕ) (r : Option (Bor (List ℕ)))
    → MatchOption r (FindsTextPrefix w s None)
    (λ x. (n : ℕ) × FindsTextPrefix w s (Some n) × (x.now ≡ drop n s) × (length x.now + n ≡ length s))
    → IfSome r (λ x. s ≡ w ++ x.now)
word-found w s None said = tt
word-found w s (Some x) (n, (is, whole, boundary), rest, len) = whole ∙ ap (λ bs. w ++ bs) (sym rest)

pub word-shorter : (w s : List ℕ) (r : Option (Bor (List ℕ)))
    → MatchOption r (FindsTextPrefix w s None)
    (λ x. (n : ℕ) × FindsTextPrefix w s (Some n) × (x.now ≡ drop n s) × (length x.now + n ≡ length s))
    → IfSome r (λ x. length x.now ≤ length s)
word-shorter w s None said = tt
word-shorter w s (Some x) (n, found, rest, len) = omega (arith, len)
