-- What is given between values.
use Rattle.std.proofs.Common.{◌≡◌, ◌∙◌, ap, sym, refl, subst, ◌≤◌, ◌<◌, ◌+◌, ◌*◌, ◌/◌, ◌%◌, ℕ, not, nat_eq, Bor, List, [], ◌∷◌, ◌++◌}
use Rattle.std.proofs.Common.{append_assoc, flat_map, take, replicate, codes, arith, ne_eqb}
use Rattle.std.proofs.lemmas.List.{replicate-append-replicate, take-replicate}
use Rattle.std.proofs.Math.Seq.{take-append-add}
use Rattle.simd_json_parts.specs.Bytes.{line_feed, space, quote}
use Rattle.simd_json_parts.specs.Nodes.{item_of, string_item}
use Rattle.simd_json_parts.specs.Printed.{escaped_byte, quoted, new_line, line, after_name}
use Rattle.simd_json_parts.specs.declared.node.Node.{Node}
use Rattle.simd_json_parts.specs.declared.node.Node.TheVariants as nodes
use Rattle.simd_json_print.specs.Texts.{TargetState, Adds}
use Rattle.simd_json_print.specs.declared.text.Text.{Text}
use Rattle.simd_json_print.proofs.Texts.{adds-none, adds-is}

-- ---- lines

pub adds-no-line : {T : Type 0} {size : ℕ} (state : T → TargetState) (m n : ℕ) (a : Text T size) → m ≡ 0
    → Adds state a a (line (not (nat_eq m 0)) n)
adds-no-line state m n a is = subst (λ k. Adds state a a (line (not (nat_eq k 0)) n)) (sym is) (adds-none state a)

pub adds-a-line : {T : Type 0} {size : ℕ} (state : T → TargetState) (m n : ℕ) (a b : Text T size) → (m ≡ 0 → ⊥)
    → Adds state a b (new_line n) → Adds state a b (line (not (nat_eq m 0)) n)
adds-a-line state m n a b is g = subst (λ p. Adds state a b (line p n)) (sym (ap not (ne_eqb m 0 is))) g

pub front-of-line : (n : ℕ) → n ≤ 32 → take (1 + n) (line_feed ∷ replicate 32 space) ≡ line_feed ∷ replicate n space
front-of-line n within = take-append-add (line_feed ∷ []) (replicate 32 space) n
    ∙ ap (λ us. line_feed ∷ us) (take-replicate n 32 space within)

pub short-line : (n : ℕ) → n < 16 → take (1 + 2 * (n % 16)) (line_feed ∷ replicate 32 space) ≡ new_line n
short-line n short =
    let all : n % 16 ≡ n = omega arith in
    front-of-line (2 * (n % 16)) (omega arith) ∙ ap new_line all

pub deep-line : (n : ℕ) → take (1 + 2 * (n % 16)) (line_feed ∷ replicate 32 space) ++ replicate (32 * (n / 16)) space ≡ new_line n
deep-line n =
    let all : 2 * (n % 16) + 32 * (n / 16) ≡ 2 * n = omega arith in
    ap (λ us. us ++ replicate (32 * (n / 16)) space) (front-of-line (2 * (n % 16)) (omega arith))
    ∙ ap (λ us. line_feed ∷ us) (replicate-append-replicate (2 * (n % 16)) (32 * (n / 16)) space ∙ ap (λ k. replicate k space) all)

pub more-spaces : (n : ℕ) → replicate (32 * n) space ++ replicate 32 space ≡ replicate (32 * (n + 1)) space
more-spaces n =
    let more : 32 * n + 32 ≡ 32 * (n + 1) = omega arith in
    replicate-append-replicate (32 * n) 32 space ∙ ap (λ k. replicate k space) more

-- ---- strings

-- between the quotes, and what follows
pub quoted-then : (t back : List ℕ) → quote ∷ (flat_map escaped_byte t ++ quote ∷ back) ≡ quoted t ++ back
unfolding quoted
quoted-then t back = ap (λ us. quote ∷ us) (sym (append_assoc (flat_map escaped_byte t) (quote ∷ []) back))

pub quoted-whole : (t : List ℕ) → quote ∷ (flat_map escaped_byte t ++ quote ∷ []) ≡ quoted t
unfolding quoted
quoted-whole t = refl

pub adds-string : {T : Type 0} {size : ℕ} (state : T → TargetState) (a b : Text T size) (before : ℕ) (front t back : List ℕ)
    → front ≡ before ∷ quote ∷ [] → Adds state a b (front ++ (flat_map escaped_byte t ++ quote ∷ back))
    → Adds state a b (before ∷ (quoted t ++ back))
adds-string state a b before front t back is g =
    adds-is state a b _ _ (ap (λ us. us ++ (flat_map escaped_byte t ++ quote ∷ back)) is ∙ ap (λ us. before ∷ us) (quoted-then t back)) g

pub adds-front : {T : Type 0} {size : ℕ} (state : T → TargetState) (a b : Text T size) (before : ℕ) (front : List ℕ)
    → front ≡ before ∷ quote ∷ [] → Adds state a b (take 1 front) → Adds state a b (before ∷ [])
adds-front state a b before front is g = adds-is state a b _ _ (ap (take 1) is) g

-- ---- names

pub adds-pretty-name : {T : Type 0} {size : ℕ} (state : T → TargetState) (m n before : ℕ) (a b : Text T size) (t k : List ℕ) → (m ≡ 0 → ⊥)
    → string_item t ≡ string_item k → Adds state a b (before ∷ (new_line n ++ (quoted t ++ codes ": ")))
    → Adds state a b (before ∷ (line (not (nat_eq m 0)) n ++ (quoted k ++ after_name (not (nat_eq m 0)))))
adds-pretty-name state m n before a b t k is same g =
    let name : t ≡ k = cc in
    subst (λ p. Adds state a b (before ∷ (line p n ++ (quoted k ++ after_name p)))) (sym (ap not (ne_eqb m 0 is)))
    (subst (λ us. Adds state a b (before ∷ (new_line n ++ (quoted us ++ codes ": ")))) name g)

pub adds-compact-name : {T : Type 0} {size : ℕ} (state : T → TargetState) (m n before : ℕ) (a b : Text T size) (t k : List ℕ) → m ≡ 0
    → string_item t ≡ string_item k → Adds state a b (before ∷ (quoted t ++ codes ":"))
    → Adds state a b (before ∷ (line (not (nat_eq m 0)) n ++ (quoted k ++ after_name (not (nat_eq m 0)))))
adds-compact-name state m n before a b t k is same g =
    let name : t ≡ k = cc in
    subst (λ j. Adds state a b (before ∷ (line (not (nat_eq j 0)) n ++ (quoted k ++ after_name (not (nat_eq j 0)))))) (sym is)
    (subst (λ us. Adds state a b (before ∷ (quoted us ++ codes ":"))) name g)

-- a name is a string's node
pub no-name : (x : Node) (k : List ℕ) → ((s : Bor (List ℕ)) → x ≡ nodes.String s → ⊥) → item_of x ≡ string_item k → ⊥
no-name (nodes.String s) k no_string is = no_string s refl
no-name (nodes.Static s) k no_string is = cc
no-name (nodes.Decimal s) k no_string is = cc
no-name (nodes.Array len count) k no_string is = cc
no-name (nodes.Object len count) k no_string is = cc
