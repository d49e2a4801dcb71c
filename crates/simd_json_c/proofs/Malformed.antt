-- A malformed JSON Pointer leads nowhere (RFC 6901, section 3).
use Rattle.std.proofs.Common.{◌≡◌, ◌∙◌, ap, sym, refl, ℕ, ◌+◌, Bool, true, false, true≢false, cond, ◌⊎◌, inl, inr, List, [], ◌∷◌, length}
use Rattle.std.proofs.Common.{Option, Some, None, is_some, Result, Ok, Err, ◌&&◌, ◌==◌, option_and_then}
use Rattle.std.specs.Char.{is_ascii_digit}
use Rattle.std.specs.List.{list_all}
use Rattle.std.specs.Result.{result_ok}
use Rattle.std.proofs.lemmas.Bool.{and_parts, cond_both}
use Rattle.simd_json_parts.specs.Document.{Document, null, boolean, integer, decimal, string, array, object}
use Rattle.simd_json_parts.specs.Followed.{fits_64}
use Rattle.simd_json_parts.specs.Pointed.{array_index, element_at, followed, go_on, is_array_index, is_pointer, member_at, named}
use Rattle.simd_json_parts.specs.Pointed.{pointed, tokens, unescaped}
use Rattle.simd_json_parts.specs.Positions.{positions}
use Rattle.simd_json_parts.specs.Tokens.{form_at}
use Rattle.simd_json_parts.specs.declared.pointer.PointerError.{PointerError}
use Rattle.simd_json_parts.specs.declared.pointer.PointerExpected.{PointerExpected}
use Rattle.simd_json_parts.proofs.Pointers.Keys.{formed-further, plain-head}
use Rattle.simd_json_ondemand.specs.Reached.{Reached, element_reached, followed_at, member_reached, named_at, reach_further}
use Rattle.simd_json_ondemand.specs.Sites.{Site, element_site, pair_sites}
use Rattle.simd_json_ondemand.specs.Standing.{opens_array, opens_object}
use Rattle.simd_json_ondemand.specs.Unexpected.{unexpected}
use Rattle.simd_json_ondemand.specs.Walks.{elements_seen, found, members_seen}
use Rattle.simd_json_ondemand.specs.declared.array.Position.TheVariants.{First}
use Rattle.simd_json_ondemand.specs.declared.unexpected.Expected.TheVariants.{Container}
use Rattle.simd_json_c.specs.Found.{site_named}

abbrev formed : List ℕ → Bool
formed t = is_some (unescaped t)

-- ---- a malformed token is no key, and no array index

no-key : {A : Type 0} (o : Option A) → is_some o ≡ false → o ≡ None
no-key None is = refl
no-key (Some x) is = absurd (true≢false is)

digits-formed : (t : List ℕ) → list_all is_ascii_digit t ≡ true → formed t ≡ true
digits-formed [] all = refl
digits-formed (c ∷ t) all =
    let parts = and_parts (is_ascii_digit c) (list_all is_ascii_digit t) all in
    formed-further (unescaped (c ∷ t)) (unescaped t) c
    (plain-head c t (λ e. true≢false (sym parts.0 ∙ ap is_ascii_digit e))) ∙ digits-formed t parts.1

index-formed : (t : List ℕ) → is_array_index t ≡ true → formed t ≡ true
index-formed [] is = refl
index-formed (c ∷ t) is = digits-formed (c ∷ t) (and_parts (list_all is_ascii_digit (c ∷ t)) _ is).0

no-index : (t : List ℕ) → formed t ≡ false → array_index t ≡ None
no-index t bad =
    cond_both (is_array_index t) _ _ (λ o. o ≡ None) (λ is. absurd (true≢false (sym (index-formed t is) ∙ bad))) (λ _. refl)

-- ---- in a document

child-lost : (t : List ℕ) (d : Document) → formed t ≡ false → result_ok (named t d) ≡ None
child-lost t (array ds) bad = ap (λ i. result_ok (element_at ds i)) (no-index t bad)
child-lost t (object ms) bad = ap (λ k. result_ok (member_at ms k)) (no-key (unescaped t) bad)
child-lost t null bad = refl
child-lost t (boolean b) bad = refl
child-lost t (integer minus n) bad = refl
child-lost t (decimal literal) bad = refl
child-lost t (string s) bad = refl

lost-by : (i : ℕ) (d : Document) (further : Document → Result Document PointerError) (r : Result Document PointerExpected)
    → (result_ok r ≡ None) ⊎ ((e : Document) → result_ok (further e) ≡ None) → result_ok (go_on i d further r) ≡ None
lost-by i d further (Ok e) (inl lost) = absurd (cc)
lost-by i d further (Ok e) (inr lost) = lost e
lost-by i d further (Err lacks) lost = refl

-- the first token is malformed, or a later one
first-lost : (a b : Bool) (P Q : Type 0) → a && b ≡ false → (a ≡ false → P) → (b ≡ false → Q) → P ⊎ Q
first-lost false b P Q bad here later = inl (here refl)
first-lost true b P Q bad here later = inr (later bad)

lost-after : (i : ℕ) (ts : List (List ℕ)) (d : Document) → list_all formed ts ≡ false → result_ok (followed i ts d) ≡ None
lost-after i [] d bad = absurd (true≢false bad)
lost-after i (t ∷ ts) d bad =
    lost-by i d (followed (i + 1 + length t) ts) (named t d)
    (first-lost (formed t) (list_all formed ts) _ _ bad (child-lost t d) (λ later e. lost-after (i + 1 + length t) ts e later))

tokens-lost : (a b : Bool) → a && b ≡ false → a ≡ true → b ≡ false
tokens-lost true b bad slashed = bad
tokens-lost false b bad slashed = absurd (true≢false (sym slashed))

pub lost : (p : List ℕ) (d : Document) → is_pointer p ≡ false → result_ok (pointed p d) ≡ None
lost [] d bad = absurd (true≢false bad)
lost (c ∷ p) d bad =
    cond_both (c == 47) _ _ (λ r. result_ok r ≡ None)
    (λ slashed. lost-after 0 (tokens p) d (tokens-lost (c == 47) (list_all formed (tokens p)) bad slashed)) (λ _. refl)

-- ---- on demand, over any bytes

each-lost : (a b : Bool) (x y z : Reached) → found x ≡ None → found y ≡ None → found z ≡ None → found (cond a x (cond b y z)) ≡ None
each-lost true b x y z p q r = p
each-lost false true x y z p q r = q
each-lost false false x y z p q r = r

site-lost-at : (t : List ℕ) (s : Site) → formed t ≡ false → found (named_at t s) ≡ None
site-lost-at t (b, []) bad = refl
site-lost-at t (b, i ∷ is) bad =
    let es = elements_seen (element_site b) b First is in
    let ms = members_seen (pair_sites b) b First is in
    each-lost (opens_array (form_at b i)) (opens_object (form_at b i)) (element_reached (option_and_then fits_64 (array_index t)) es)
    (member_reached (unescaped t) ms) (Err (unexpected b Container (i ∷ is)))
    (ap (λ o. found (element_reached (option_and_then fits_64 o) es)) (no-index t bad))
    (ap (λ k. found (member_reached k ms)) (no-key (unescaped t) bad)) refl

site-lost-by : (further : Site → Reached) (r : Reached) → (found r ≡ None) ⊎ ((s : Site) → found (further s) ≡ None)
    → found (reach_further r further) ≡ None
site-lost-by further (Ok (Some s)) (inl lost) = absurd (cc)
site-lost-by further (Ok (Some s)) (inr lost) = lost s
site-lost-by further (Ok None) lost = refl
site-lost-by further (Err e) lost = refl

site-lost-after : (ts : List (List ℕ)) (s : Site) → list_all formed ts ≡ false → found (followed_at ts s) ≡ None
site-lost-after [] s bad = absurd (true≢false bad)
site-lost-after (t ∷ ts) s bad =
    site-lost-by (followed_at ts) (named_at t s)
    (first-lost (formed t) (list_all formed ts) _ _ bad (site-lost-at t s) (λ later x. site-lost-after ts x later))

pub site-lost : (p b : List ℕ) → is_pointer p ≡ false → site_named p b ≡ None
site-lost [] b bad = absurd (true≢false bad)
site-lost (c ∷ p) b bad =
    cond_both (c == 47) (followed_at (tokens p) (b, positions b)) (Ok None) (λ (r : Reached). found r ≡ None)
    (λ slashed. site-lost-after (tokens p) (b, positions b) (tokens-lost (c == 47) (list_all formed (tokens p)) bad slashed)) (λ _. refl)
