-- Texts that are cut, since a row has no more room.
use Rattle.std.proofs.Common.{◌≡◌, ◌∙◌, refl, ap, sym, subst, arith, ℕ, ◌+◌, ◌-◌, ◌<◌, ◌≤◌, List, [], ◌∷◌, ◌++◌, append_assoc}
use Rattle.std.proofs.Common.{append-nil, codes, take, drop, length, length-append, flat_map, Bool, true, false, ◌==◌, cond, min, nat_lt}
use Rattle.std.proofs.Common.{get_or, Option, Some, None, Bor, Result, Ok, Err}
use Rattle.std.proofs.lemmas.List.Concat.{flat_map-append}
use Rattle.std.specs.Io.KnownBytes.{WriteAppends}
use Rattle.std.specs.Prelude.{OnOk, is_some, option_map, unwrap_or}
use Rattle.programs.proofs.Begins.{front-of}
use Rattle.programs.proofs.Kept.{take-all, take-least}
use Rattle.std.proofs.Math.Seq.{take-append-add, take-length}
use Rattle.std.proofs.lemmas.Bool.{eqb-false, ltb-false, ltb-true, lt-ltb, le-ltb}
use Rattle.std.proofs.lemmas.List.{length-take, take-append-drop, take-append-le}
use Rattle.simd_json_parts.specs.Bytes.{backslash, carriage_return, line_feed, tab}
use Rattle.simd_json_parts.specs.Document.{Document, null, boolean, integer, decimal, string, array, object}
use Rattle.simd_json_parts.specs.Printed.{compact}
use Rattle.simd_json_parts.specs.Views.{as_null, as_str}
use Rattle.simd_json_print.proofs.FlatMaps.{flat_map-more}
use Rattle.programs.specs.Cells.{tsv_escape}
use Rattle.log_report.specs.Rows.{Extends, most_bytes, row_label, row_text, tsv_byte, tsv_text}
use Rattle.log_report.specs.Table.{others}
use Rattle.log_report.specs.declared.rows.Wanted.{Wanted}

-- ---- rows

again-step : (n : ℕ) (us vs : List ℕ) (t : Bool) → nat_lt n (length us) ≡ t → take n (take n us ++ vs) ≡ take n (us ++ vs)
again-step n us vs true is =
    let more = ltb-true n (length us) is in
    let full : n ≤ length (take n us) = omega (arith, more, length-take n us) in
    take-append-le n (take n us) vs full ∙ take-all n (take n us) (omega (arith, length-take n us))
    ∙ sym (take-append-le n us vs (omega (arith, more)))
again-step n us vs false is = ap (λ ws. take n (ws ++ vs)) (take-all n us (ltb-false n (length us) is))

again : (us vs : List ℕ) → take most_bytes (take most_bytes us ++ vs) ≡ take most_bytes (us ++ vs)
again us vs = again-step most_bytes us vs (nat_lt most_bytes (length us)) refl

pub extends-none : (row : List ℕ) → Extends row row []
extends-none row = ap (take most_bytes) (sym (append-nil row))

pub extends-then : (a b c us vs : List ℕ) → Extends a b us → Extends b c vs → Extends a c (us ++ vs)
extends-then a b c us vs more then =
    then ∙ sym (again b vs) ∙ ap (λ ws. take most_bytes (ws ++ vs)) more ∙ again (a ++ us) vs ∙ ap (take most_bytes) (append_assoc a us vs)

put-step : (row new bytes : List ℕ) (n : ℕ) (t : Bool) → nat_lt most_bytes (length row) ≡ t
    → n ≡ min (most_bytes - length row) (length bytes) → new ≡ row ++ take n bytes → Extends row new bytes
put-step row new bytes n true is least added =
    let more = ltb-true most_bytes (length row) is in
    ap (take most_bytes) added ∙ take-append-le most_bytes row (take n bytes) (omega (arith, more))
    ∙ sym (take-append-le most_bytes row bytes (omega (arith, more)))
put-step row new bytes n false is least added =
    let fits = ltb-false most_bytes (length row) is in
    let room : length row + (most_bytes - length row) ≡ most_bytes = omega (arith, fits) in
    let all : take most_bytes (row ++ bytes) ≡ row ++ take (most_bytes - length row) bytes =
    ap (λ k. take k (row ++ bytes)) (sym room) ∙ take-append-add row bytes (most_bytes - length row) in
    let same : take n bytes ≡ take (most_bytes - length row) bytes = take-least n (most_bytes - length row) bytes (omega (arith, least)) in
    let short : length new ≤ most_bytes = omega (
      arith,
      fits,
      ap length (added ∙ ap (λ us. row ++ us) same ∙ sym all),
      length-take most_bytes (row ++ bytes),
    ) in
    take-all most_bytes new short ∙ added ∙ ap (λ us. row ++ us) same ∙ sym all

ok-is : {E : Type 0} (r : Result ℕ E) (n k : ℕ) → r ≡ Ok n → r ≡ Ok k → n ≡ k
ok-is r n k is same = cc

-- as many bytes as there is room for
extends-put : (row new bytes : List ℕ) (n : ℕ) → n ≡ min (most_bytes - length row) (length bytes) → new ≡ row ++ take n bytes
    → Extends row new bytes
extends-put row new bytes n = put-step row new bytes n (nat_lt most_bytes (length row)) refl

pub extends-write : {E : Type 0} (row new bytes : List ℕ) (r : Result ℕ E) → r ≡ Ok (min (most_bytes - length row) (length bytes))
    → WriteAppends (Some row) (Some new) r bytes → Extends row new bytes
extends-write row new bytes (Ok n) is added = extends-put row new bytes n (ok-is (Ok n) n _ refl is) added
extends-write row new bytes (Err e) is added = cc

-- a beginning that fills it
pub extends-full : (row new text : List ℕ) (n : ℕ) → new ≡ row ++ take n text → length new ≡ most_bytes → Extends row new text
extends-full row new text n begun full =
    let all = row ++ text in
    let front : new ≡ take (length row + n) all = begun ∙ sym (take-append-add row text n) in
    take-all most_bytes new (omega (arith, full)) ∙ front ∙ sym (front-of (length row + n) all [])
    ∙ ap (λ us. take (length (take (length row + n) all)) us) (append-nil all)
    ∙ ap (λ k. take k all) (ap length (sym front) ∙ full)

pub on-ok : {T E : Type 0} (r : Result T E) (P Q : Type 0) → (P → Q) → OnOk r P → OnOk r Q
on-ok (Ok x) P Q then holds = then holds
on-ok (Err e) P Q then holds = tt

-- ---- loops

-- one element more
pub extends-more : {X : Type 0} (f : X → List ℕ) (xs : List X) (i : ℕ) (d : X) (row rows new piece : List ℕ) → i < length xs
    → Extends row rows (flat_map f (take i xs)) → Extends rows new piece → piece ≡ f (get_or xs i d)
    → Extends row new (flat_map f (take (i + 1) xs))
extends-more f xs i d row rows new piece more so_far put is =
    subst (Extends row new) (ap (λ us. flat_map f (take i xs) ++ us) is ∙ sym (flat_map-more f xs i d more))
    (extends-then row rows new (flat_map f (take i xs)) piece so_far put)

-- all of them
pub extends-all : {X : Type 0} (f : X → List ℕ) (xs : List X) (i : ℕ) (row rows : List ℕ) → i ≡ length xs
    → Extends row rows (flat_map f (take i xs)) → Extends row rows (flat_map f xs)
extends-all f xs i row rows all so_far =
    subst (λ us. Extends row rows (flat_map f us)) (ap (λ n. take n xs) all ∙ take-length xs) so_far

-- ---- escapes

-- a byte, or what stands for it
pub escape-is : (x : ℕ) (o : Option (Bor (List ℕ))) (d u : Bor (List ℕ)) → option_map (λ e. e.now) o ≡ tsv_escape x → d.now ≡ x ∷ []
    → u ≡ unwrap_or o d → u.now ≡ tsv_byte x
escape-is x None d u escape is from = ap (λ b. b.now) from ∙ is ∙ ap (λ e. unwrap_or e (x ∷ [])) escape
escape-is x (Some e) d u escape is from = ap (λ b. b.now) from ∙ ap (λ e. unwrap_or e (x ∷ [])) escape

-- of a string, and of any other value
pub string-of : (d : Document) (t : List ℕ) → Some t ≡ as_str d → tsv_text d ≡ flat_map tsv_byte t
string-of null u is = cc
string-of (boolean b) u is = cc
string-of (integer m n) u is = cc
string-of (decimal v) u is = cc
string-of (string t) u is = cc
string-of (array ds) u is = cc
string-of (object ms) u is = cc

pub other-of : (d : Document) → None ≡ as_str d → is_some (as_null d) ≡ false → tsv_text d ≡ flat_map tsv_byte (compact d)
other-of null is some = cc
other-of (boolean b) is some = refl
other-of (integer m n) is some = refl
other-of (decimal t) is some = refl
other-of (string t) is some = cc
other-of (array ds) is some = refl
other-of (object ms) is some = refl

some-step : (a b c d : Bool) (x : ℕ) → 1 ≤ length (unwrap_or (cond a (Some (codes "\\t")) (cond b (Some (codes "\\n"))
    (cond c (Some (codes "\\r")) (cond d (Some (codes "\\\\")) None)))) (x ∷ []))
some-step true b c d x = omega arith
some-step false true c d x = omega arith
some-step false false true d x = omega arith
some-step false false false true x = omega arith
some-step false false false false x = omega arith

some-byte : (x : ℕ) → 1 ≤ length (tsv_byte x)
some-byte x = some-step (x == tab) (x == line_feed) (x == carriage_return) (x == backslash) x

escaped-long : (us : List ℕ) → length us ≤ length (flat_map tsv_byte us)
escaped-long [] = omega arith
escaped-long (x ∷ us) =
    omega (arith, some-byte x, escaped-long us, length-append (tsv_byte x) (flat_map tsv_byte us))

escaped-step : (row text : List ℕ) (t : Bool) → nat_lt most_bytes (length text) ≡ t
    → take most_bytes (row ++ flat_map tsv_byte (take most_bytes text)) ≡ take most_bytes (row ++ flat_map tsv_byte text)
escaped-step row text true is =
    let front = take most_bytes text in
    let some = flat_map tsv_byte front in
    let rest = flat_map tsv_byte (drop most_bytes text) in
    let all : row ++ flat_map tsv_byte text ≡ (row ++ some) ++ rest =
    ap (λ us. row ++ flat_map tsv_byte us) (sym (take-append-drop most_bytes text))
    ∙ ap (λ us. row ++ us) (flat_map-append tsv_byte front (drop most_bytes text)) ∙ sym (append_assoc row some rest) in
    let long : most_bytes ≤ length (row ++ some) = omega (
      arith,
      ltb-true most_bytes (length text) is,
      escaped-long front,
      length-take most_bytes text,
      length-append row some,
    ) in
    sym (ap (take most_bytes) all ∙ take-append-le most_bytes (row ++ some) rest long)
escaped-step row text false is =
    ap (λ us. take most_bytes (row ++ flat_map tsv_byte us)) (take-all most_bytes text (ltb-false most_bytes (length text) is))

-- the text of a value, of which the beginning is in a row of its own
pub extends-escaped : (row new held text : List ℕ) → Extends [] held text → length held ≤ most_bytes
    → Extends row new (flat_map tsv_byte held) → Extends row new (flat_map tsv_byte text)
extends-escaped row new held text is fits added =
    let cut : held ≡ take most_bytes text = sym (take-all most_bytes held fits) ∙ is in
    added ∙ ap (λ us. take most_bytes (row ++ flat_map tsv_byte us)) cut ∙ escaped-step row text (nat_lt most_bytes (length text)) refl

-- ---- the row of a line, of which the beginning is kept

pub row-is : (us row text : List ℕ) → us ≡ [] → length row ≤ most_bytes → Extends us row text → row ≡ take most_bytes text
row-is us row text none fits added =
    sym (take-all most_bytes row fits) ∙ subst (λ vs. Extends vs row text) none added

pub label-full : (w : Wanted) (d : Document) (row : List ℕ) → row ≡ take most_bytes (row_text w d) → length row ≡ most_bytes
    → others w.is_tsv ≡ row_label w d
label-full w d row is full =
    sym (ap (λ t. cond t (others w.is_tsv) (row_text w d)) (lt-ltb 1024 (length (row_text w d))
    (omega (arith, full, ap length is, length-take most_bytes (row_text w d)))))

pub label-short : (w : Wanted) (d : Document) (row : List ℕ) → row ≡ take most_bytes (row_text w d) → length row ≤ most_bytes
    → (length row == most_bytes) ≡ false → row ≡ row_label w d
label-short w d row is fits short =
    let few : length (row_text w d) ≤ 1024 =
    omega (arith, fits, eqb-false (length row) most_bytes short, ap length is, length-take most_bytes (row_text w d)) in
    is ∙ take-all most_bytes (row_text w d) (omega (arith, few))
    ∙ sym (ap (λ t. cond t (others w.is_tsv) (row_text w d)) (le-ltb 1024 (length (row_text w d)) few))
