-- Fields of several pointers, put one after another.
use Rattle.std.proofs.Common.{◌≡◌, ◌≢◌, ◌∙◌, ap, sym, refl, subst, ◌⊎◌, inl, inr, arith, ℕ, zero, suc, ◌+◌, ◌-◌, ◌<◌, ◌≤◌, List, [], ◌∷◌}
use Rattle.std.proofs.Common.{length, take, drop, set, map, get_or, min, Option, Some, None, option_map, Ok}
use Rattle.std.specs.List.{slice_get, slice_range}
use Rattle.std.specs.Prelude.{MatchOption}
use Rattle.std.specs.Result.{result_ok}
use Rattle.std.proofs.lemmas.Bool.{cases_eq, cases_lt}
use Rattle.std.proofs.lemmas.List.{length-map, length-set}
use Rattle.std.proofs.lemmas.Option.{slice_get-map, slice_get_within}
use Rattle.simd_json_parts.specs.Answer.{answer}
use Rattle.simd_json_parts.specs.Document.{Document}
use Rattle.simd_json_parts.specs.Pointed.{pointed}
use Rattle.simd_json_parts.specs.Positions.{positions}
use Rattle.simd_json_ondemand.specs.Docs.{doc}
use Rattle.simd_json_ondemand.specs.Prepared.{pointer_text}
use Rattle.simd_json_ondemand.specs.Reached.{pointed_at}
use Rattle.simd_json_ondemand.specs.Sites.{Site, site}
use Rattle.simd_json_ondemand.specs.Walks.{found as reached}
use Rattle.simd_json_ondemand.specs.declared.prepared.PreparedPointer.{PreparedPointer}
use Rattle.simd_json_ondemand.specs.declared.value.Value.{Value}
use Rattle.simd_json_c.specs.Fields.{AreFieldsFrom, AreFieldsPut, IsFieldAt, IsFieldFrom, IsFieldIn, IsFieldNamed, IsFieldOfSome}
use Rattle.simd_json_c.specs.Fields.{missing}
use Rattle.simd_json_c.specs.declared.fields.Field.{Field}

-- ---- elements of lists

pub at-set : {A : Type 0} (xs : List A) (i k : ℕ) (x : A) → k ≢ i → slice_get (set xs i x) k ≡ slice_get xs k
at-set [] i k x other = refl
at-set (y ∷ ys) zero zero x other = absurd (other refl)
at-set (y ∷ ys) zero (suc k) x other = refl
at-set (y ∷ ys) (suc i) zero x other = refl
at-set (y ∷ ys) (suc i) (suc k) x other = at-set ys i k x (λ e. other (ap suc e))

pub at-set-same : {A : Type 0} (xs : List A) (i : ℕ) (x : A) → i < length xs → slice_get (set xs i x) i ≡ Some x
at-set-same [] i x l = absurd (omega (arith, l))
at-set-same (y ∷ ys) zero x l = refl
at-set-same (y ∷ ys) (suc i) x l = at-set-same ys i x (omega (arith, l))

at-drop : {A : Type 0} (n : ℕ) (xs : List A) (k : ℕ) → slice_get (drop n xs) k ≡ slice_get xs (n + k)
at-drop zero xs k = let same : 0 + k ≡ k = omega arith in ap (slice_get xs) (sym same)
at-drop (suc n) [] k = refl
at-drop (suc n) (x ∷ xs) k = let same : suc n + k ≡ suc (n + k) = omega arith in at-drop n xs k ∙ ap (slice_get (x ∷ xs)) (sym same)

at-take : {A : Type 0} (n : ℕ) (xs : List A) (k : ℕ) → k < n → slice_get (take n xs) k ≡ slice_get xs k
at-take zero xs k l = absurd (omega (arith, l))
at-take (suc n) [] k l = refl
at-take (suc n) (x ∷ xs) zero l = refl
at-take (suc n) (x ∷ xs) (suc k) l = at-take n xs k (omega (arith, l))

pub at-range : {A : Type 0} (xs : List A) (i j k : ℕ) → i + k < j → slice_get (slice_range xs i j) k ≡ slice_get xs (i + k)
at-range xs i j k l = at-take (j - i) (drop i xs) k (omega (arith, l)) ∙ at-drop i xs k

pub some-at : {A : Type 0} (xs : List A) (k : ℕ) → k < length xs → (x : A) × (slice_get xs k ≡ Some x)
some-at [] k l = absurd (omega (arith, l))
some-at (x ∷ xs) zero l = (x, refl)
some-at (x ∷ xs) (suc k) l = some-at xs k (omega (arith, l))

-- of two lists that are seen alike
pub alike : {A B C : Type 0} (f : A → C) (g : B → C) (xs : List A) (ys : List B) (k : ℕ) (x : A) (y : B) → map f xs ≡ map g ys
    → slice_get xs k ≡ Some x → slice_get ys k ≡ Some y → f x ≡ g y
alike f g xs ys k x y same here there =
    let left : slice_get (map f xs) k ≡ Some (f x) = slice_get-map f xs k ∙ ap (option_map f) here in
    let right : slice_get (map g ys) k ≡ Some (g y) = slice_get-map g ys k ∙ ap (option_map g) there in
    let all : Some (f x) ≡ Some (g y) = sym left ∙ ap (λ zs. slice_get zs k) same ∙ right in
    cc

-- ---- one field

pub field-from : (root : Value) (p : List ℕ) (o : Option Value) (f : Field) → option_map site o ≡ reached (pointed_at p (site root))
    → ((d : Document) → doc root ≡ Some d → option_map doc o ≡ option_map (λ e. Some e) (result_ok (pointed p d)))
    → MatchOption o (f ≡ missing) (λ v. IsFieldOfSome v f) → IsFieldFrom root p f
field-from root p None f walk document is =
    (subst (λ place. IsFieldAt place f) walk is, λ d h. named (result_ok (pointed p d)) (document d h))
  where
    named : (n : Option Document) → None ≡ option_map (λ e. Some e) n → IsFieldNamed (reached (pointed_at p (site root))) n f
    named None h = is
    named (Some e) h = absurd (cc)
field-from root p (Some v) f walk document is =
    (subst (λ place. IsFieldAt place f) walk (v, refl, is), λ d h. named (result_ok (pointed p d)) (document d h))
  where
    named : (n : Option Document) → Some (doc v) ≡ option_map (λ e. Some e) n → IsFieldNamed (reached (pointed_at p (site root))) n f
    named None h = absurd (cc)
    named (Some e) h = let same : doc v ≡ Some e = cc in (v, sym walk, same, is)

-- ---- fields one after another

module _ {A : Type 0} (root : Value) (ps : List (PreparedPointer A)) where
  pub fields-none : (a : ℕ) (fs : List Field) → AreFieldsFrom root ps a a fs fs
  fields-none a fs = record { size = refl; others = λ k o. refl; each = λ k p f l m at there. absurd (omega (arith, l, m)) }

  pub fields-joined : (a b c : ℕ) (old now new : List Field) → a ≤ b → b ≤ c → AreFieldsFrom root ps a b old now
      → AreFieldsFrom root ps b c now new → AreFieldsFrom root ps a c old new
  fields-joined a b c old now new l m first then = record {
    size = then.size ∙ first.size;
    others = λ k o. elim o [
      | inl h ↦ then.others k (inl (omega (arith, l, h))) ∙ first.others k (inl h)
      | inr h ↦ then.others k (inr h) ∙ first.others k (inr (omega (arith, m, h)))
    ];
    each = λ k p f from to at there. elim (cases_lt k b) [
      | inl h ↦ first.each k p f from h at (sym (then.others k (inl h)) ∙ there)
      | inr h ↦ then.each k p f h to at there
    ];
  }

  -- one more
  pub fields-further : (a k : ℕ) (old now : List Field) (p : PreparedPointer A) (f : Field) → a ≤ k → k < length now
      → AreFieldsFrom root ps a k old now → slice_get ps k ≡ Some p → IsFieldFrom root (pointer_text p) f
      → AreFieldsFrom root ps a (k + 1) old (set now k f)
  fields-further a k old now p f l fits before at is = record {
    size = length-set now k f ∙ before.size;
    others = λ j o. elim o [
      | inl h ↦ at-set now k j f (λ e. omega (arith, e, h, l)) ∙ before.others j (inl h)
      | inr h ↦ at-set now k j f (λ e. omega (arith, e, h)) ∙ before.others j (inr (omega (arith, h)))
    ];
    each = λ j q g from to there here. elim (cases_eq j k) [
      | inl e ↦
          let same : Some p ≡ Some q = sym at ∙ ap (slice_get ps) (sym e) ∙ there in
          let put : Some f ≡ Some g = sym (at-set-same now k f fits) ∙ ap (slice_get (set now k f)) (sym e) ∙ here in
          let one : p ≡ q = cc in
          let other : f ≡ g = cc in
          subst (λ y. IsFieldFrom root (pointer_text y) g) one (subst (IsFieldFrom root (pointer_text p)) other is)
      | inr e ↦ before.each j q g from (omega (arith, to, e)) there (sym (at-set now k j f e) ∙ here)
    ];
  }

  -- of as many as there are of both
  pub fields-all : (n : ℕ) (old new : List Field) → min (length ps) (length old) ≤ n → n ≤ length ps → AreFieldsFrom root ps 0 n old new
      → AreFieldsFrom root ps 0 (length ps) old new
  fields-all n old new l m are = record {
    size = are.size;
    others = λ k o. elim o [ inl h ↦ are.others k (inl h) | inr h ↦ are.others k (inr (omega (arith, h, m))) ];
    each = λ k p f from to at there.
        are.each k p f from (omega (arith, l, to, slice_get_within new k f there, are.size)) at there;
  }

-- ---- in an input

some-of : {A B : Type 0} (f : A → B) (xs : List A) (k : ℕ) (y : B) → slice_get (map f xs) k ≡ Some y
    → (x : A) × (slice_get xs k ≡ Some x) × (f x ≡ y)
some-of f [] k y at = absurd (let e : None ≡ Some y = at in cc)
some-of f (x ∷ xs) zero y at = (x, refl, (let e : Some (f x) ≡ Some y = at in cc))
some-of f (x ∷ xs) (suc k) y at = some-of f xs k y at

pub fields-put : {A : Type 0} (b : List ℕ) (root : Value) (ps : List (PreparedPointer A)) (old new : List Field)
    → site root ≡ (b, positions b) → ((d : Document) (limit : ℕ) → answer b limit ≡ Ok d → doc root ≡ Some d)
    → AreFieldsFrom root ps 0 (length ps) old new → AreFieldsPut (map pointer_text ps) b old new
fields-put b root ps old new place document are = record {
  size = are.size;
  others = λ k l. are.others k (inr (omega (arith, l, length-map ps pointer_text)));
  each = λ k p f at there.
      let q = some-of pointer_text ps k p at in
      let is = are.each k q.0 f (omega arith) (slice_get_within ps k q.0 q.1) q.1 there in
      subst (λ t. IsFieldIn b t f) q.2 (
        subst (λ s. IsFieldAt (reached (pointed_at (pointer_text q.0) s)) f) place is.0,
        λ d limit a.
            subst (λ s. IsFieldNamed (reached (pointed_at (pointer_text q.0) s)) (result_ok (pointed (pointer_text q.0) d)) f) place
            (is.1 d (document d limit a)),
      );
}
