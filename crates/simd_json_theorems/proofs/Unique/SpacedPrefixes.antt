-- Where bytes tell how far a prefix of them goes and what it is, so do they with whitespace round it, and with another such prefix
-- after it.
use Rattle.std.proofs.Common.{◌≡◌, sym, ◌∙◌, ap, subst, ℕ, List, [], ◌∷◌, ◌++◌, drop, append_assoc, true, false}
use Rattle.std.specs.List.{list_all}
use Rattle.std.proofs.lemmas.Bool.{and_parts, or_right, both_ways}
use Rattle.simd_json_parts.specs.Bytes.{is_whitespace, is_structural, is_terminator, byte_at}
use Rattle.simd_json_parts.specs.Grammar.{IsWhitespace, Spaced, Joined, After}
use Rattle.simd_json_theorems.proofs.Unique.LeadingBytes.{NoSpace}

-- a terminator or the end stands first
abbrev pub Ended : List ℕ → Type 0
Ended rest = is_terminator (byte_at rest 0) ≡ true

-- the end, or a terminator that is no whitespace
abbrev pub Delimited : List ℕ → Type 0
Delimited rest = Ended rest × NoSpace rest

-- the same equation, with the prefixes in other words
pub append-replace : (xs ys us vs r s : List ℕ) → xs ≡ us → ys ≡ vs → xs ++ r ≡ ys ++ s → us ++ r ≡ vs ++ s
append-replace xs ys us vs r s g h e = sym (ap (λ ws. ws ++ r) g) ∙ e ∙ ap (λ ws. ws ++ s) h

-- Two prefixes of whitespace of the same bytes go as far, where none stands after them.
pub space-one : (xs ys r s : List ℕ) → IsWhitespace xs → IsWhitespace ys → NoSpace r → NoSpace s → xs ++ r ≡ ys ++ s → r ≡ s
space-one [] [] r s v w g h e = e
space-one [] (y ∷ ys) r s v w g h e = absurd (both_ways (is_whitespace y) (subst NoSpace e g) (and_parts _ _ w).0)
space-one (x ∷ xs) [] r s v w g h e = absurd (both_ways (is_whitespace x) (subst NoSpace (sym e) h) (and_parts _ _ v).0)
space-one (x ∷ xs) (y ∷ ys) r s v w g h e = space-one xs ys r s (and_parts _ _ v).1 (and_parts _ _ w).1 g h (cc)

-- Whitespace ends a value too.
Ended-space : (xs rest : List ℕ) → IsWhitespace xs → Ended rest → Ended (xs ++ rest)
Ended-space [] rest w t = t
Ended-space (x ∷ xs) rest w t = or_right (is_structural x) (is_whitespace x) (and_parts (is_whitespace x) (list_all is_whitespace xs) w).0

-- A prefix of bytes of this set and one of another, each with an end after it, are of one set and go as far.
abbrev pub OnePrefix : (A : Type 0) → (A → List ℕ → Type 0) → (List ℕ → Type 0) → A → Type 0
OnePrefix A P Ends x = (y : A) (xs ys r s : List ℕ) → P x xs → P y ys → xs ++ r ≡ ys ++ s → Ends r → Ends s → (x ≡ y) × (r ≡ s)

-- So are prefixes with whitespace round them.
pub spaced-one : (A : Type 0) (P : A → List ℕ → Type 0) → ((x : A) (xs rest : List ℕ) → P x xs → NoSpace (xs ++ rest))
    → (x : A) → OnePrefix A P Ended x → OnePrefix A (λ y. Spaced (P y)) Delimited x
spaced-one A P begins x one y xs ys r s g h e t u =
    let regrouped : g.before ++ (g.inner ++ (g.after ++ r)) ≡ h.before ++ (h.inner ++ (h.after ++ s)) =
    simp append_assoc at (append-replace xs ys _ _ r s g.whole h.whole e) in
    let inside : g.inner ++ (g.after ++ r) ≡ h.inner ++ (h.after ++ s) =
    space-one g.before h.before _ _ g.before_space h.before_space (begins x g.inner (g.after ++ r) g.holds)
    (begins y h.inner (h.after ++ s) h.holds) regrouped in
    let same : (x ≡ y) × (g.after ++ r ≡ h.after ++ s) =
    one y g.inner h.inner (g.after ++ r) (h.after ++ s) g.holds h.holds inside (Ended-space g.after r g.after_space t.0)
    (Ended-space h.after s h.after_space u.0) in
    (same.0, space-one g.after h.after r s g.after_space h.after_space t.1 u.1 same.1)

-- Whitespace up to a byte is nothing of a set whose lists begin with others.
pub space-nothing : (c : ℕ) (P : List ℕ → Type 0) → is_whitespace c ≡ false → ((bs rest : List ℕ) → P bs → NoSpace (bs ++ rest))
    → ((left right rest : List ℕ) → P left → c ∷ rest ≡ left ++ right → ⊥)
    → (xs ys r rest : List ℕ) → IsWhitespace xs → Spaced P ys → xs ++ c ∷ r ≡ ys ++ rest → ⊥
space-nothing c P plain begins other xs ys r rest w h e =
    other h.inner (h.after ++ rest) r h.holds
    (space-one xs h.before (c ∷ r) (h.inner ++ (h.after ++ rest)) w h.before_space plain (begins h.inner (h.after ++ rest) h.holds)
    (simp append_assoc at (e ∙ ap (λ us. us ++ rest) h.whole)))

-- ---- up to a byte

-- A prefix of bytes of this set and one of another, each with this byte after it, are of one set and go as far.
abbrev pub OneUpTo : (A : Type 0) → ℕ → (A → List ℕ → Type 0) → A → Type 0
OneUpTo A c P x = (y : A) (xs ys r s : List ℕ) → P x xs → P y ys → xs ++ c ∷ r ≡ ys ++ c ∷ s → (x ≡ y) × (r ≡ s)

-- So are those with other prefixes before them, whose ends they begin with,
pub joined-one : (A B : Type 0) (c : ℕ) (P : A → List ℕ → Type 0) (Q : B → List ℕ → Type 0)
    → ((z : B) (xs rest : List ℕ) → Q z xs → Delimited (xs ++ c ∷ rest))
    → (x : A) (z : B) → OnePrefix A P Delimited x → OneUpTo B c Q z → OneUpTo (A × B) c (λ p. Joined (P p.0) (Q p.1)) (x, z)
joined-one A B c P Q ends x z one more (x', z') xs ys r s g h e =
    let regrouped : g.left ++ (g.right ++ c ∷ r) ≡ h.left ++ (h.right ++ c ∷ s) =
    simp append_assoc at (append-replace xs ys _ _ (c ∷ r) (c ∷ s) g.whole h.whole e) in
    let first : (x ≡ x') × (g.right ++ c ∷ r ≡ h.right ++ c ∷ s) =
    one x' g.left h.left _ _ g.left_holds h.left_holds regrouped (ends z g.right r g.right_holds) (ends z' h.right s h.right_holds) in
    let rest : (z ≡ z') × (r ≡ s) = more z' g.right h.right r s g.right_holds h.right_holds first.1 in
    (cc, rest.1)

-- and those with a byte before them.
pub after-one : (A : Type 0) (k c : ℕ) (P : A → List ℕ → Type 0) (x : A) → OneUpTo A c P x → OneUpTo A c (λ y. After k (P y)) x
after-one A k c P x one y xs ys r s (us, g, p) (vs, h, q) e =
    one y us vs r s p q (ap (drop 1) (append-replace xs ys (k ∷ us) (k ∷ vs) (c ∷ r) (c ∷ s) g h e))
