-- The place of a text in a table, and more lines there.
use Rattle.std.proofs.Common.{◌≡◌, ◌∙◌, refl, ap, sym, subst, arith, zero-add, ℕ, suc, ◌+◌, ◌<◌, ◌≤◌, List, [], ◌∷◌, ◌++◌, length, map}
use Rattle.std.proofs.Common.{Bool, true, false, ◌||◌, cond, nat_lt, Option, Some, None, Vec}
use Rattle.std.specs.Prelude.{bytes_eq, slice_get, MatchOption}
use Rattle.std.specs.List.{position, position_from}
use Rattle.std.specs.Map.{keys_of, values_of}
use Rattle.std.proofs.lemmas.Iterator.Adapters.{position_from-zero}
use Rattle.std.proofs.lemmas.Bool.{lt-ltb, le-ltb}
use Rattle.indexmap.specs.IndexMap.{insert_entry, set_value_at}
use Rattle.log_report.specs.Table.{Count, added, counted, has_text, lines_of, most_texts, no_value, none_counted, others, plus, rejected}
use Rattle.log_report.specs.Runs.{as_count}

abbrev Entry : Type 0 → Type 0
Entry A = Vec ℕ A × ℕ

abbrev counts : {A : Type 0} → List (Entry A) → List Count
counts es = map as_count es

abbrev pub is_text : {A : Type 0} → List ℕ → Vec ℕ A → Bool
is_text t k = bytes_eq t k.items

-- n lines more, at a place where the text stands
pub record IsAt {A : Type 0} (n : ℕ) (t : List ℕ) (es : List (Entry A)) (j : ℕ) : Type 0 where
  pub has : has_text t (counts es) ≡ true
  pub count : ℕ
  pub lines : lines_of t (counts es) ≡ count
  pub is_there : slice_get (values_of es) j ≡ Some count
  pub more : counts (set_value_at es j (plus n count)) ≡ added n t (counts es)

pub record IsNowhere {A : Type 0} (n : ℕ) (t : List ℕ) (es : List (Entry A)) : Type 0 where
  pub lacks : has_text t (counts es) ≡ false
  pub none : lines_of t (counts es) ≡ 0
  pub same : added n t (counts es) ≡ counts es

abbrev pub IsPlace : {A : Type 0} → ℕ → List ℕ → List (Entry A) → ℕ → Option ℕ → Type 0
IsPlace n t es i r = MatchOption r (IsNowhere n t es) (λ k. (j : ℕ) × (k ≡ i + j) × IsAt n t es j)

shift : (i j k : ℕ) → k ≡ (i + 1) + j → k ≡ i + suc j
shift i j k is = omega arith

at-first : {A : Type 0} (n : ℕ) (t : List ℕ) (e : Entry A) (es : List (Entry A)) (b : Bool) → bytes_eq t e.0.items ≡ b
    → added n t (counts (e ∷ es)) ≡ cond b ((e.0.items, plus n e.1) ∷ counts es) (as_count e ∷ added n t (counts es))
at-first n t e es b is = ap (λ x. cond x ((e.0.items, plus n e.1) ∷ counts es) (as_count e ∷ added n t (counts es))) is

lines-first : {A : Type 0} (t : List ℕ) (e : Entry A) (es : List (Entry A)) (b : Bool) → bytes_eq t e.0.items ≡ b
    → lines_of t (counts (e ∷ es)) ≡ cond b e.1 (lines_of t (counts es))
lines-first t e es b is = ap (λ x. cond x e.1 (lines_of t (counts es))) is

first-at : {A : Type 0} (n : ℕ) (t : List ℕ) (e : Entry A) (es : List (Entry A)) → bytes_eq t e.0.items ≡ true → IsAt n t (e ∷ es) 0
first-at n t e es is = record {
  has = ap (λ b. b || has_text t (counts es)) is;
  count = e.1;
  lines = lines-first t e es true is;
  is_there = refl;
  more = sym (at-first n t e es true is);
}

later-at : {A : Type 0} (n : ℕ) (t : List ℕ) (e : Entry A) (es : List (Entry A)) (j : ℕ) → bytes_eq t e.0.items ≡ false → IsAt n t es j
    → IsAt n t (e ∷ es) (suc j)
later-at n t e es j is at = record {
  has = ap (λ b. b || has_text t (counts es)) is ∙ at.has;
  count = at.count;
  lines = lines-first t e es false is ∙ at.lines;
  is_there = at.is_there;
  more = ap (λ cs. as_count e ∷ cs) at.more ∙ sym (at-first n t e es false is);
}

later : {A : Type 0} (n : ℕ) (t : List ℕ) (e : Entry A) (es : List (Entry A)) (i : ℕ) (r : Option ℕ) → bytes_eq t e.0.items ≡ false
    → IsPlace n t es (i + 1) r → IsPlace n t (e ∷ es) i r
later n t e es i None is absent = record {
  lacks = ap (λ b. b || has_text t (counts es)) is ∙ absent.lacks;
  none = lines-first t e es false is ∙ absent.none;
  same = at-first n t e es false is ∙ ap (λ cs. as_count e ∷ cs) absent.same;
}
later n t e es i (Some k) is (j, at_k, at) = (suc j, shift i j k at_k, later-at n t e es j is at)

place-step : {A : Type 0} (n : ℕ) (t : List ℕ) (e : Entry A) (es : List (Entry A)) (i : ℕ) (r : Option ℕ) (b : Bool)
    → bytes_eq t e.0.items ≡ b → IsPlace n t es (i + 1) r → IsPlace n t (e ∷ es) i (cond b (Some i) r)
place-step n t e es i r true is _ = (0, omega arith, first-at n t e es is)
place-step n t e es i r false is rest = later n t e es i r is rest

place-of : {A : Type 0} (n : ℕ) (t : List ℕ) (es : List (Entry A)) (i : ℕ) → IsPlace n t es i (position_from (is_text t) i (keys_of es))
place-of n t [] i = record { lacks = refl; none = refl; same = refl }
place-of n t (e ∷ es) i = place-step n t e es i _ (bytes_eq t e.0.items) refl (place-of n t es (i + 1))

at-zero : {A : Type 0} (n : ℕ) (t : List ℕ) (es : List (Entry A)) (r : Option ℕ) → r ≡ position (is_text t) (keys_of es)
    → IsPlace n t es 0 r
at-zero n t es r is = subst (IsPlace n t es 0) (sym (is ∙ position_from-zero (is_text t) (keys_of es))) (place-of n t es 0)

pub found-at : {A : Type 0} (n : ℕ) (t : List ℕ) (es : List (Entry A)) (k : ℕ) → Some k ≡ position (is_text t) (keys_of es) → IsAt n t es k
found-at n t es k is =
    let found = at-zero n t es (Some k) is in
    subst (IsAt n t es) (sym (found.1 ∙ zero-add found.0)) found.2

pub found-nowhere : {A : Type 0} (n : ℕ) (t : List ℕ) (es : List (Entry A)) → None ≡ position (is_text t) (keys_of es) → IsNowhere n t es
found-nowhere n t es is = at-zero n t es None is

some-is : {a b : ℕ} → Some a ≡ Some b → a ≡ b
some-is is = cc

-- how many lines count there
pub lines-at : {A : Type 0} (n : ℕ) (t : List ℕ) (es : List (Entry A)) (k count : ℕ) → IsAt n t es k
    → slice_get (values_of es) k ≡ Some count → count ≡ lines_of t (counts es)
lines-at n t es k count at is = some-is (sym is ∙ at.is_there) ∙ sym at.lines

-- the count that is there is this one
pub more-at : {A : Type 0} (n : ℕ) (t : List ℕ) (es : List (Entry A)) (k count new : ℕ) → IsAt n t es k
    → slice_get (values_of es) k ≡ Some count → new ≡ plus n count → counts (set_value_at es k new) ≡ added n t (counts es)
more-at n t es k count new at is more =
    ap (λ m. counts (set_value_at es k m)) (more ∙ ap (plus n) (some-is (sym is ∙ at.is_there))) ∙ at.more

inserted-step : {A : Type 0} (k : Vec ℕ A) (n : ℕ) (e : Entry A) (es new : List (Entry A)) (b rest : Bool) → (b || rest) ≡ false
    → (rest ≡ false → counts new ≡ counts es ++ (k.items, n) ∷ [])
    → counts (cond b ((e.0, n) ∷ es) (e ∷ new)) ≡ counts (e ∷ es) ++ (k.items, n) ∷ []
inserted-step k n e es new true rest is more = cc
inserted-step k n e es new false rest is more = ap (λ cs. as_count e ∷ cs) (more is)

-- a new text goes last
pub inserted : {A : Type 0} (k : Vec ℕ A) (n : ℕ) (es : List (Entry A)) → has_text k.items (counts es) ≡ false
    → counts (insert_entry (λ a b. bytes_eq a.items b.items) es k n) ≡ counts es ++ (k.items, n) ∷ []
inserted k n [] lacks = refl
inserted k n (e ∷ es) lacks =
    inserted-step k n e es _ (bytes_eq k.items e.0.items) (has_text k.items (counts es)) lacks (λ rest. inserted k n es rest)

-- ---- what more lines come to

if-has : (tsv : Bool) (values n : ℕ) (t : List ℕ) (cs : List Count) (b : Bool) → has_text t cs ≡ b
    → counted tsv values n t cs
    ≡ cond b (added n t cs) (cond (nat_lt (length cs) (most_texts values)) (cs ++ (t, n) ∷ []) (added n (others tsv) cs))
if-has tsv values n t cs b is =
    ap (λ x. cond x (added n t cs) (cond (nat_lt (length cs) (most_texts values)) (cs ++ (t, n) ∷ []) (added n (others tsv) cs))) is

pub counted-known : (tsv : Bool) (values n : ℕ) (t : List ℕ) (cs : List Count) → has_text t cs ≡ true
    → added n t cs ≡ counted tsv values n t cs
counted-known tsv values n t cs is = sym (if-has tsv values n t cs true is)

pub counted-new : (tsv : Bool) (values n : ℕ) (t : List ℕ) (cs : List Count) → has_text t cs ≡ false → length cs < most_texts values
    → cs ++ (t, n) ∷ [] ≡ counted tsv values n t cs
counted-new tsv values n t cs lacks few =
    sym (if-has tsv values n t cs false lacks
    ∙ ap (λ x. cond x (cs ++ (t, n) ∷ []) (added n (others tsv) cs)) (lt-ltb (length cs) (most_texts values) few))

pub counted-other : (tsv : Bool) (values n : ℕ) (t : List ℕ) (cs : List Count) → has_text t cs ≡ false → most_texts values ≤ length cs
    → added n (others tsv) cs ≡ counted tsv values n t cs
counted-other tsv values n t cs lacks many =
    sym (if-has tsv values n t cs false lacks
    ∙ ap (λ x. cond x (cs ++ (t, n) ∷ []) (added n (others tsv) cs)) (le-ltb (length cs) (most_texts values) many))

-- the marks, before any line
marks : (tsv : Bool) (values : ℕ) → has_text (others tsv) ((no_value tsv, 0) ∷ []) ≡ false
    → has_text (rejected tsv) ((no_value tsv, 0) ∷ (others tsv, 0) ∷ []) ≡ false
    → counted tsv values 0 (rejected tsv) (counted tsv values 0 (others tsv) (counted tsv values 0 (no_value tsv) [])) ≡ none_counted tsv
marks tsv values second third =
    ap (λ cs. counted tsv values 0 (rejected tsv) (counted tsv values 0 (others tsv) cs))
    (sym (counted-new tsv values 0 (no_value tsv) [] refl (omega arith)))
    ∙ ap (counted tsv values 0 (rejected tsv)) (sym (counted-new tsv values 0 (others tsv) ((no_value tsv, 0) ∷ []) second (omega arith)))
    ∙ sym (counted-new tsv values 0 (rejected tsv) ((no_value tsv, 0) ∷ (others tsv, 0) ∷ []) third (omega arith))

all-marks : (tsv : Bool) (values : ℕ)
    → counted tsv values 0 (rejected tsv) (counted tsv values 0 (others tsv) (counted tsv values 0 (no_value tsv) [])) ≡ none_counted tsv
all-marks true values = marks true values refl refl
all-marks false values = marks false values refl refl

pub starts : (tsv : Bool) (values : ℕ) (a b c : List ℕ) → a ≡ no_value tsv → b ≡ others tsv → c ≡ rejected tsv
    → counted tsv values 0 c (counted tsv values 0 b (counted tsv values 0 a [])) ≡ none_counted tsv
starts tsv values a b c first second third =
    ap (λ a. counted tsv values 0 c (counted tsv values 0 b (counted tsv values 0 a []))) first
    ∙ ap (λ b. counted tsv values 0 c (counted tsv values 0 b (counted tsv values 0 (no_value tsv) []))) second
    ∙ ap (λ c. counted tsv values 0 c (counted tsv values 0 (others tsv) (counted tsv values 0 (no_value tsv) []))) third
    ∙ all-marks tsv values
