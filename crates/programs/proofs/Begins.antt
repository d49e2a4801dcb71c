-- A beginning of some bytes was written.
use Rattle.std.proofs.Common.{◌≡◌, ◌∙◌, ap, sym, subst, ℕ, ◌+◌, List, ◌++◌, append_assoc, length, take, drop, Option}
use Rattle.std.proofs.KnownBytes.{Appends-nil, Appends-trans}
use Rattle.std.proofs.Math.Seq.{take-append-add, take-append_seam, take-length}
use Rattle.std.proofs.lemmas.List.{take-append-drop}
use Rattle.std.specs.Io.KnownBytes.{Appends}
use Rattle.programs.specs.Failures.{Begins}

pub begins-none : (held : Option (List ℕ)) (bytes : List ℕ) → Begins held held bytes
begins-none held bytes = (0, Appends-nil held)

pub begins-all : (held holds : Option (List ℕ)) (bytes : List ℕ) → Appends held holds bytes → Begins held holds bytes
begins-all held holds bytes all = (length bytes, subst (Appends held holds) (sym (take-length bytes)) all)

pub begins-then : (a b c : Option (List ℕ)) (us vs : List ℕ) → Appends a b us → Begins b c vs → Begins a c (us ++ vs)
begins-then a b c us vs all begun =
    (length us + begun.0, subst (Appends a c) (sym (take-append-add us vs begun.0)) (Appends-trans a b c us (take begun.0 vs) all begun.1))

-- a beginning of a beginning
pub front-of : (n : ℕ) (front rest : List ℕ) → take (length (take n front)) (front ++ rest) ≡ take n front
front-of n front rest =
    let begun = take n front in
    let all : front ++ rest ≡ begun ++ (drop n front ++ rest) =
    ap (λ us. us ++ rest) (sym (take-append-drop n front)) ∙ append_assoc begun (drop n front) rest in
    ap (take (length begun)) all ∙ take-append_seam begun (drop n front ++ rest)

pub begins-more : (held holds : Option (List ℕ)) (front rest : List ℕ) → Begins held holds front → Begins held holds (front ++ rest)
begins-more held holds front rest begun =
    (length (take begun.0 front), subst (Appends held holds) (sym (front-of begun.0 front rest)) begun.1)
