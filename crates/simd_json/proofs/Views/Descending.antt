-- What is left to an iterator over a value and the values beneath it, a step at a time.
use Rattle.std.proofs.Common.{◌≡◌, ◌≢◌, ◌∙◌, ap, sym, refl, subst, ◌<◌, ◌≤◌, ◌+◌, ◌-◌, ◌^◌, ℕ, zero, suc, Bool, true, false, cond, List, []}
use Rattle.std.proofs.Common.{◌∷◌, ◌++◌, length, map, drop, get_or, append_assoc, add-one, arith, ◌==◌, flat_map, slice_get, IfSome}
use Rattle.std.proofs.lemmas.List.{drop_more, drop_all, drop-set, get_or-set_same, append-nil}
use Rattle.std.proofs.Math.ListN.{set}
use Rattle.std.proofs.lemmas.Option.{slice_get-get_or}
use Rattle.simd_json_parts.specs.Document.{Document, array, object, Elements, no_elements}
use Rattle.simd_json_parts.specs.Document.{element, elements, Members, no_members, member, members}
use Rattle.simd_json_parts.specs.Listing.{listing, elements_listing, members_listing}
use Rattle.simd_json.specs.Tapes.{StandsFor}
use Rattle.simd_json_parts.specs.Nodes.{Item, string_item, item_of}
use Rattle.simd_json_parts.specs.Views.{values, is_array, is_object}
use Rattle.simd_json_parts.specs.declared.node.Node.{Node}
use Rattle.simd_json.specs.Beneath.{beneath, children}
use Rattle.simd_json.specs.Descending.{elements_joined, flat, unpacked, inside, outside, left_by, left_with}
use Rattle.simd_json.specs.Documents.{elements_of, front, other_elements, front_pairs, other_pairs, AreElementNodes, IsListing, document_of}
use Rattle.simd_json.specs.declared.value.tape.descendants.Open.{Open}
use Rattle.simd_json.proofs.Views.Beneath.{beneath-few}
use Rattle.simd_json.proofs.Views.Listed.{elements_of-all, elements_of-listing, front-joined, others-joined, front-flat, others-flat}

-- ---- rows

begins-with : (ns : List Node) (ds : Elements) → elements_listing ds ≡ map item_of ns → (length ns == 0) ≡ false
    → (d : Document) × StandsFor ns d
begins-with [] ds is some = cc
begins-with (n ∷ ns) no_elements is some = cc
begins-with (n ∷ ns) (element d ds) is some = (d, (elements_listing ds, sym is))

pub row-begins : (ns : List Node) → AreElementNodes (map item_of ns) → (length ns == 0) ≡ false → (d : Document) × StandsFor ns d
row-begins ns listed some = begins-with ns (elements_of (map item_of ns)) listed some

pub row-some : (ns : List Node) → elements_of (map item_of ns) ≢ no_elements → 0 < length ns
row-some [] some = absurd (some refl)
row-some (n ∷ ns) some = omega arith

pub record IsRowOf (xs : List Item) (d : Document) : Type 0 where
  pub listed : AreElementNodes xs
  pub whole : elements_of xs ≡ element d no_elements

pub row-of : (xs : List Item) → IsListing xs → IsRowOf xs (document_of xs)
row-of xs is =
    let whole : elements_of xs ≡ element (document_of xs) no_elements =
    ap elements_of (sym is ∙ sym (append-nil (listing (document_of xs)))) ∙ elements_of-listing (document_of xs) [] in
    record { listed = ap elements_listing whole ∙ append-nil (listing (document_of xs)) ∙ is; whole = whole }

listing-joined : (ds es : Elements) → elements_listing (elements_joined ds es) ≡ elements_listing ds ++ elements_listing es
listing-joined no_elements es = refl
listing-joined (element d ds) es =
    ap (λ ns. listing d ++ ns) (listing-joined ds es)
    ∙ sym (append_assoc (listing d) (elements_listing ds) (elements_listing es))

listing-flat : (ms : Members) (es : Elements) → elements_listing (flat ms es) ≡ members_listing ms ++ elements_listing es
listing-flat no_members es = refl
listing-flat (member k d ms) es =
    ap (λ ns. string_item k ∷ (listing d ++ ns)) (listing-flat ms es)
    ∙ ap (λ ns. string_item k ∷ ns) (sym (append_assoc (listing d) (members_listing ms) (elements_listing es)))

listing-entered : (ds : Elements) (x : Item) (ys : List Item) → elements_listing ds ≡ x ∷ ys → elements_listing (unpacked ds) ≡ ys
listing-entered no_elements x ys is = cc
listing-entered (element (array es) ds) x ys is = listing-joined es ds ∙ (cc)
listing-entered (element (object ms) ds) x ys is = listing-flat ms ds ∙ (cc)
listing-entered (element _ ds) x ys is = cc

pub record IsEntered (xs ys : List Item) : Type 0 where
  pub listed : AreElementNodes ys
  pub whole : elements_of ys ≡ unpacked (elements_of xs)

entered-of : (xs : List Item) (x : Item) (ys : List Item) → AreElementNodes xs → xs ≡ x ∷ ys → IsEntered xs ys
entered-of xs x ys listed is =
    let below : elements_listing (unpacked (elements_of xs)) ≡ ys = listing-entered (elements_of xs) x ys (listed ∙ is) in
    let whole : elements_of ys ≡ unpacked (elements_of xs) = ap elements_of (sym below) ∙ elements_of-all (unpacked (elements_of xs)) in
    record { listed = ap elements_listing whole ∙ below; whole = whole }

pub row-entered : (ns others : List Node) → AreElementNodes (map item_of ns) → 0 < length ns → others ≡ drop 1 ns
    → IsEntered (map item_of ns) (map item_of others)
row-entered [] others listed some is = absurd (omega arith)
row-entered (n ∷ ns) others listed some is = rw is (entered-of (item_of n ∷ map item_of ns) (item_of n) (map item_of ns) listed refl)

-- ---- levels

inside-none : (b : Bool) (n : ℕ) → inside b n no_elements ≡ []
inside-none true zero = refl
inside-none true (suc n) = refl
inside-none false zero = refl
inside-none false (suc n) = refl

outside-none : (b : Bool) (n : ℕ) → outside b n no_elements ≡ no_elements
outside-none true zero = refl
outside-none true (suc n) = refl
outside-none false zero = refl
outside-none false (suc n) = refl

pub left-none : (n : ℕ) (ls : List Open) → left_by n ls no_elements ≡ []
left-none n [] = refl
left-none n (l ∷ ls) =
    ap (λ xs. flat_map (beneath n) xs ++ left_by (suc n) ls (outside l.is_object l.left no_elements)) (inside-none l.is_object l.left)
    ∙ ap (left_by (suc n) ls) (outside-none l.is_object l.left)
    ∙ left-none (suc n) ls

finished : (b : Bool) (n : ℕ) (ls : List Open) (ds : Elements)
    → flat_map (beneath n) (inside b 0 ds) ++ left_by (suc n) ls (outside b 0 ds) ≡ left_by (suc n) ls ds
finished true n ls ds = refl
finished false n ls ds = refl

begun : (b : Bool) (m n : ℕ) (ls : List Open) (ds : Elements)
    → flat_map (beneath n) (inside b (suc m) ds) ++ left_by (suc n) ls (outside b (suc m) ds)
    ≡ left_with n (record { is_object = b; left = m } ∷ ls) (cond b (other_elements 1 ds) ds)
begun false m n ls no_elements = left-none (suc n) ls
begun false m n ls (element d ds) =
    append_assoc (beneath n d) (flat_map (beneath n) (elements (front m ds))) (left_by (suc n) ls (other_elements m ds))
begun true m n ls no_elements = left-none (suc n) ls
begun true m n ls (element k no_elements) = left-none (suc n) ls
begun true m n ls (element k (element d ds)) =
    append_assoc (beneath n d) (flat_map (beneath n) (values (front_pairs m ds))) (left_by (suc n) ls (other_pairs m ds))

pub member-begun : (ls : List Open) (n : ℕ) (default l : Open) → n < length ls → IfSome (slice_get ls n) (λ x. 0 < x.left)
    → l ≡ record { is_object = (get_or ls n default).is_object; left = (get_or ls n default).left - 1 }
    → (ds : Elements)
    → left_by n (drop n ls) ds ≡ left_with n (drop n (set ls n l)) (cond (get_or (set ls n l) n default).is_object (other_elements 1 ds) ds)
member-begun ls n default l within left is ds =
    let old = get_or ls n default in
    let some : 0 < old.left = subst (λ o. IfSome o (λ x. 0 < x.left)) (slice_get-get_or ls n default within) left in
    let next : Open = record { is_object = old.is_object; left = old.left - 1 } in
    let more : old.left ≡ suc (old.left - 1) = omega arith in
    ap (λ xs. left_by n xs ds) (drop_more ls n default within)
    ∙ ap (λ m. flat_map (beneath n) (inside old.is_object m ds) ++ left_by (suc n) (drop (n + 1) ls) (outside old.is_object m ds)) more
    ∙ begun old.is_object (old.left - 1) n (drop (n + 1) ls) ds
    ∙ ap (λ (x : Open). left_with n (x ∷ drop (n + 1) ls) (cond x.is_object (other_elements 1 ds) ds)) (sym is)
    ∙ ap (λ xs. left_with n xs (cond l.is_object (other_elements 1 ds) ds)) (sym (drop-set ls n l within))
    ∙ ap (λ (x : Open). left_with n (drop n (set ls n l)) (cond x.is_object (other_elements 1 ds) ds))
    (sym (get_or-set_same ls n l default within))

last : (n : ℕ) (ds : Elements) → left_by n [] ds ≡ left_with n [] ds
last n no_elements = refl
last n (element d ds) = refl

pub last-begun : (ls : List Open) (n : ℕ) → length ls ≤ n → (ds : Elements) → left_by n (drop n ls) ds ≡ left_with n (drop n ls) ds
last-begun ls n past ds =
    ap (λ xs. left_by n xs ds) (drop_all n ls past)
    ∙ last n ds
    ∙ ap (λ xs. left_with n xs ds) (sym (drop_all n ls past))

-- ---- containers that are opened

pub array-opened : (d : Document) (es : Elements) (len : ℕ) → d ≡ array es → len ≡ length (elements es)
    → (n : ℕ) (ls : List Open) (ds : Elements)
    → left_by n (record { is_object = false; left = len } ∷ ls) (unpacked (element d ds))
    ≡ flat_map (beneath n) (children d) ++ left_by (suc n) ls ds
array-opened d es len is counted n ls ds =
    rw (is, counted) (rw (front-joined es ds, others-joined es ds) refl)

pub object-opened : (d : Document) (ms : Members) (len : ℕ) → d ≡ object ms → len ≡ length (members ms)
    → (n : ℕ) (ls : List Open) (ds : Elements)
    → left_by n (record { is_object = true; left = len } ∷ ls) (unpacked (element d ds))
    ≡ flat_map (beneath n) (children d) ++ left_by (suc n) ls ds
object-opened d ms len is counted n ls ds =
    rw (is, counted) (rw (front-flat ms ds, others-flat ms ds) refl)

alone : (n : ℕ) (d : Document) → children d ≡ [] → beneath n d ≡ d ∷ []
alone zero d none = refl
alone (suc n) d none = ap (λ ds. d ∷ flat_map (beneath n) ds) none

pub scalar-passed : (n : ℕ) (d : Document) (left : List Document) → children d ≡ [] → beneath n d ++ left ≡ d ∷ left
scalar-passed n d left none = ap (λ ds. ds ++ left) (alone n d none)

pub container-opened : (ls : List Open) (n m : ℕ) (d : Document) (l : Open) → n ≡ suc m → m < length ls
    → ((i : ℕ) (xs : List Open) (ds : Elements) → left_by i (l ∷ xs) (unpacked (element d ds))
    ≡ flat_map (beneath i) (children d) ++ left_by (suc i) xs ds)
    → (ds : Elements) → beneath n d ++ left_by n (drop n ls) ds ≡ d ∷ left_by m (drop m (set ls m l)) (unpacked (element d ds))
container-opened ls n m d l next within opens ds =
    ap (λ i. beneath i d ++ left_by i (drop i ls) ds) next
    ∙ ap (λ i. d ∷ (flat_map (beneath m) (children d) ++ left_by (suc m) (drop i ls) ds)) (sym (add-one m))
    ∙ ap (λ xs. d ∷ xs) (sym (opens m (drop (m + 1) ls) ds))
    ∙ ap (λ xs. d ∷ left_by m xs (unpacked (element d ds))) (sym (drop-set ls m l within))

-- ---- at first

pub first-left : (n : ℕ) (ls : List Open) (d : Document) (ds : Elements) → length ls ≡ n → ds ≡ element d no_elements
    → left_by n (drop n ls) ds ≡ beneath n d
first-left n ls d ds counted is =
    ap (λ xs. left_by n xs ds) (drop_all n ls (omega arith)) ∙ ap (left_by n []) is ∙ append-nil (beneath n d)

pub first-few : (n : ℕ) (ls : List Open) (d : Document) (ds : Elements) → length ls ≡ n → ds ≡ element d no_elements
    → length (listing d) < 2 ^ 64 → length (left_by n (drop n ls) ds) < 2 ^ 64
first-few n ls d ds counted is few = omega (arith, ap length (first-left n ls d ds counted is), beneath-few n d)

-- ---- a step

-- of the row it begins with the next member, after the key where it has one
pub record IsStep (left : Elements → List Document) (n : ℕ) (ls : List Open) (is_pair : Bool) (all begun : Elements) : Type 0 where
  pub levels : (ds : Elements) → left ds ≡ left_with n ls (cond is_pair (other_elements 1 ds) ds)
  pub row : begun ≡ cond is_pair (other_elements 1 all) all

pub none-left : (left : Elements → List Document) (n : ℕ) (ls : List Open) (is_pair : Bool) (all begun : Elements)
    → IsStep left n ls is_pair all begun → begun ≡ no_elements → left all ≡ []
none-left left n ls is_pair all begun step none = step.levels all ∙ ap (left_with n ls) (sym step.row ∙ none)
