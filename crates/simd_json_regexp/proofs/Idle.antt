-- Where nothing is marked and no character comes first, nothing will be marked.
use Rattle.std.proofs.Common.{◌≡◌, refl, sym, ◌∙◌, ap, ℕ, ◌+◌, List, [], ◌∷◌, length, take, drop, not, Bool, true, false, ◌||◌, arith}
use Rattle.std.specs.List.{All, list_any}
use Rattle.std.proofs.lemmas.List.{length-drop, length-take, nil_from_length, take-append-drop}
use Rattle.std.proofs.lemmas.List.Elements.{All-cons, All-drop, All-head, All-nil, All-take}
use Rattle.simd_json_regexp.specs.Regexps.{Regexp, never, empty, one, ◌then◌, ◌or◌, many}
use Rattle.simd_json_regexp.specs.Marks.{after, is_last, size}

all-unmarked : (ms : List Bool) → list_any (λ m. m) ms ≡ false → All (λ m. m ≡ false) ms
all-unmarked [] e = All-nil (λ m. m ≡ false)
all-unmarked (true ∷ ms) e = cc
all-unmarked (false ∷ ms) e = All-cons (λ m. m ≡ false) false ms refl (all-unmarked ms e)

front : (p q : ℕ) (ms : List Bool) → length ms ≡ p + q → length (take p ms) ≡ p
front p q ms e = length-take p ms ∙ omega arith

back : (p q : ℕ) (ms : List Bool) → length ms ≡ p + q → length (drop p ms) ≡ q
back p q ms e = length-drop p ms ∙ omega arith

idle-last : (p : Regexp) (ms : List Bool) → All (λ m. m ≡ false) ms → is_last p ms ≡ false
idle-last never ms none = refl
idle-last empty ms none = refl
idle-last (one is_kind) [] none = refl
idle-last (one is_kind) (m ∷ ms) none = All-head (λ b. b ≡ false) m ms none
idle-last (p then q) ms none =
    let x : is_last p (take (size p) ms) ≡ false = idle-last p (take (size p) ms) (All-take (λ b. b ≡ false) (size p) ms none) in
    let y : is_last q (drop (size p) ms) ≡ false = idle-last q (drop (size p) ms) (All-drop (λ b. b ≡ false) (size p) ms none) in
    rw (x, y) refl
idle-last (p or q) ms none =
    let x : is_last p (take (size p) ms) ≡ false = idle-last p (take (size p) ms) (All-take (λ b. b ≡ false) (size p) ms none) in
    let y : is_last q (drop (size p) ms) ≡ false = idle-last q (drop (size p) ms) (All-drop (λ b. b ≡ false) (size p) ms none) in
    rw (x, y) refl
idle-last (many p) ms none = idle-last p ms none

idle-after : (p : Regexp) (c : ℕ) (ms : List Bool) → length ms ≡ size p → All (λ m. m ≡ false) ms → after p false c ms ≡ ms
idle-after never c ms e none = sym (nil_from_length ms e)
idle-after empty c ms e none = sym (nil_from_length ms e)
idle-after (one is_kind) c [] e none = absurd (omega arith)
idle-after (one is_kind) c (m ∷ []) e none = ap (λ b. b ∷ []) (sym (All-head (λ b. b ≡ false) m [] none))
idle-after (one is_kind) c (m ∷ n ∷ ms) e none = absurd (omega arith)
idle-after (p then q) c ms e none =
    let few : All (λ m. m ≡ false) (take (size p) ms) = All-take (λ b. b ≡ false) (size p) ms none in
    let last : is_last p (take (size p) ms) ≡ false = idle-last p (take (size p) ms) few in
    let x : after p false c (take (size p) ms) ≡ take (size p) ms = idle-after p c (take (size p) ms) (front (size p) (size q) ms e) few in
    let y : after q false c (drop (size p) ms) ≡ drop (size p) ms =
    idle-after q c (drop (size p) ms) (back (size p) (size q) ms e) (All-drop (λ b. b ≡ false) (size p) ms none) in
    rw (last, x, y) (take-append-drop (size p) ms)
idle-after (p or q) c ms e none =
    let x : after p false c (take (size p) ms) ≡ take (size p) ms =
    idle-after p c (take (size p) ms) (front (size p) (size q) ms e) (All-take (λ b. b ≡ false) (size p) ms none) in
    let y : after q false c (drop (size p) ms) ≡ drop (size p) ms =
    idle-after q c (drop (size p) ms) (back (size p) (size q) ms e) (All-drop (λ b. b ≡ false) (size p) ms none) in
    rw (x, y) (take-append-drop (size p) ms)
idle-after (many p) c ms e none =
    let last : is_last p ms ≡ false = idle-last p ms none in
    rw last (idle-after p c ms e none)

not-true : (b : Bool) → not b ≡ true → b ≡ false
not-true true e = cc
not-true false e = refl

idle-both : (enters : Bool) (ms : List Bool) → not (enters || list_any (λ m. m) ms) ≡ true
    → (enters ≡ false) × All (λ m. m ≡ false) ms
idle-both true ms e = cc
idle-both false ms e = (refl, all-unmarked ms (not-true (list_any (λ m. m) ms) e))

pub idle-step : (p : Regexp) (enters : Bool) (c : ℕ) (ms : List Bool) → length ms ≡ size p
    → not (enters || list_any (λ m. m) ms) ≡ true → (ms ≡ after p enters c ms) × (false ≡ is_last p ms)
idle-step p enters c ms e idle =
    let (out, none) = idle-both enters ms idle in (sym (rw out (idle-after p c ms e none)), sym (idle-last p ms none))
