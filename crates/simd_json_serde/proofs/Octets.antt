-- Bytes that are read from an array, one more each time.
use Rattle.std.proofs.Common.{◌≡◌, ◌∙◌, ◌<◌, ◌+◌, ◌^◌, ◌∷◌, ◌++◌, ap, sym, subst, refl, arith, ℕ, List, [], length, get_or, slice_get}
use Rattle.std.proofs.Common.{Option, Some, None, true, false, Result, Ok, Err, IfErr, IfOk, OnOk, inl, inr, nat_lt, option_and_then}
use Rattle.std.proofs.lemmas.Grind.{common_steps}
use Rattle.std.proofs.lemmas.Bool.{lt-ltb}
use Rattle.std.proofs.lemmas.List.{length-append}
use borrow.Author.Count.{below_more}
use Rattle.serde.specs.Event.{octets}
use Rattle.simd_json_parts.specs.Nodes.{Item, static_item, decimal_item, string_item, array_item, object_item, item_of}
use Rattle.simd_json_parts.specs.declared.node.Node.{Node}
use Rattle.simd_json_parts.specs.declared.node.Node.TheVariants as nodes
use denote.Bor.{Bor}
use Rattle.simd_json_serde.specs.Ahead.{ahead, node_ahead, array_count, string_text, unsigned, AreBytesAhead, CanEnter}
use Rattle.simd_json_serde.specs.Steps.{Place, AreBytesAt, BeginsBytes, Closes, IsUnsigned, Opens, ReadsAs, TakesNode}
use Rattle.simd_json_serde.specs.declared.error.StepFault.{StepFault}
use Rattle.simd_json_serde.specs.declared.error.MismatchKind.{MismatchKind}
use Rattle.simd_json_serde.specs.declared.error.MismatchKind.TheVariants.{OutOfMemory}

-- ---- one byte

abbrev HasByte : List Item → ℕ → ℕ → Type 0
HasByte ns at x = (x < 2 ^ 8) × ((n : Item) × (slice_get ns at ≡ Some n) × IsUnsigned x false n)

last-byte : (bs : List ℕ) (b : ℕ) → get_or (bs ++ b ∷ []) (length bs) 0 ≡ b
last-byte bs b = grind (arith, common_steps)

other-byte : (bs : List ℕ) (b k : ℕ) → k < length bs → get_or (bs ++ b ∷ []) k 0 ≡ get_or bs k 0
other-byte bs b k h = grind (arith, common_steps)

pub one-more : (ns : List Item) (at : ℕ) (bs : List ℕ) (b : ℕ) (n : Item) → AreBytesAt ns at bs → b < 2 ^ 8
    → slice_get ns (at + length bs) ≡ Some n → IsUnsigned b false n → AreBytesAt ns at (bs ++ b ∷ [])
one-more ns at bs b n all fits got said k h =
    below_more (λ j. HasByte ns (at + j) (get_or (bs ++ b ∷ []) j 0)) (length bs)
    (λ j below. subst (HasByte ns (at + j)) (sym (other-byte bs b j below)) (all j below))
    (subst (HasByte ns (at + length bs)) (sym (last-byte bs b)) (fits, (n, got, said))) k
    (omega (arith, h, length-append bs (b ∷ [])))

-- ---- one more of them is taken

pub next-place : (old mid new : Place) (k j : ℕ) → mid ≡ record old { at = old.at + k } → old.at_key ≡ false → j ≡ k + 1
    → new ≡ record mid { at = mid.at + 1; at_key = false } → new ≡ record old { at = old.at + j }
next-place old mid new k j here value more taken =
    let e : old.at + k + 1 ≡ old.at + j = omega arith in
    taken ∙ ap (λ (p : Place). record p { at = p.at + 1; at_key = false }) here ∙ ap (λ (a : ℕ). record old { at = a; at_key = false }) e
    ∙ ap (λ b. record old { at = old.at + j; at_key = b }) (sym value)

pub next-bytes : (ns : List Item) (at : ℕ) (bs newer : List ℕ) (mid new : Place) (b v : ℕ) → AreBytesAt ns at bs → mid.nodes ≡ ns
    → mid.at ≡ at + length bs → mid.at_key ≡ false → TakesNode mid (IsUnsigned v) new → v < 2 ^ 8 → b ≡ v → newer ≡ bs ++ b ∷ []
    → AreBytesAt ns at newer
next-bytes ns at bs newer mid new b v all nodes here value taken fits is put =
    let got : slice_get ns (at + length bs) ≡ Some taken.0 =
    sym (ap (λ l. slice_get l mid.at) nodes ∙ ap (slice_get ns) here) ∙ taken.1.1 in
    let said : IsUnsigned v false taken.0 = subst (λ key. IsUnsigned v key taken.0) value taken.2 in
    subst (AreBytesAt ns at) (sym (put ∙ ap (λ x. bs ++ x ∷ []) is)) (one-more ns at bs v taken.0 all fits got said)

says-byte : (item : Item) (b : ℕ) → b < 2 ^ 8 → IsUnsigned b false item → unsigned 64 item ≡ Some b
says-byte (static_item s) b fits said =
    let less : nat_lt b (2 ^ 64) ≡ true = lt-ltb b (2 ^ 64) (omega arith) in
    rw (said, less)
says-byte (decimal_item t) b fits said = absurd said
says-byte (string_item t) b fits said = cc
says-byte (array_item len count) b fits said = absurd said
says-byte (object_item len count) b fits said = absurd said

ahead-of : {A : Type 0} (said : Item → Option A) (p : Place) (n : Item) → p.at < p.end → slice_get p.nodes p.at ≡ Some n
    → ahead said p ≡ said n
ahead-of said p n within got =
    let test : nat_lt p.at p.end ≡ true = lt-ltb p.at p.end within in
    rw (test, got)

-- a step that reads it has it
pub reads-byte : (o : Option ℕ) (p : Place) (ns : List Item) (at : ℕ) (bs : List ℕ) (k : ℕ) → p.nodes ≡ ns → p.at ≡ at + k
    → p.at < p.end → p.end ≡ at + length bs → AreBytesAt ns at bs → o ≡ ahead (unsigned 64) p → o ≡ Some (get_or bs k 0)
reads-byte o p ns at bs k nodes here within ends are exact =
    let one = are k (omega arith) in
    let got : slice_get p.nodes p.at ≡ Some one.1.0 = ap (λ l. slice_get l p.at) nodes ∙ ap (slice_get ns) here ∙ one.1.1 in
    exact ∙ ahead-of (unsigned 64) p one.1.0 within got ∙ says-byte one.1.0 (get_or bs k 0) one.0 one.1.2

pub byte-fits : (ns : List Item) (at : ℕ) (bs : List ℕ) (k : ℕ) → k < length bs → AreBytesAt ns at bs → get_or bs k 0 < 2 ^ 8
byte-fits ns at bs k within are = (are k within).0

pub any-error : {A E : Type 0} (r : Result A E) (P : E → Type 0) → ((e : E) → P e) → IfErr r P
any-error (Ok x) P all = tt
any-error (Err e) P all = all e

-- ---- the array

begins : (p : Place) (bs : List ℕ) → BeginsBytes p bs → ahead array_count p ≡ Some (length bs)
begins p bs b = ahead-of array_count p (array_item b.0 (length bs)) b.1 b.2

-- where it can't be entered, memory is missing
pub entered-or-full : (p : Place) (kind : MismatchKind) (Full : Type 0) → ((t : List ℕ) → ahead string_text p ≡ Some t → ⊥)
    → (CanEnter array_count p → (kind ≡ OutOfMemory) × Full) → (bs : List ℕ) → AreBytesAhead p bs → kind ≡ OutOfMemory
entered-or-full p kind Full none full bs (inl is) = absurd (none bs is)
entered-or-full p kind Full none full bs (inr b) = (full (length bs, begins p bs b.0, b.1)).0

rebuilt : (a b : Place) → a.nodes ≡ b.nodes → a.at ≡ b.at → a.end ≡ b.end → a.outer ≡ b.outer → a.at_key ≡ b.at_key → a ≡ b
rebuilt a b nodes at end outer key =
    ap (λ x. record a { nodes = x }) nodes ∙ ap (λ x. record a { nodes = b.nodes; at = x }) at
    ∙ ap (λ x. record a { nodes = b.nodes; at = b.at; end = x }) end
    ∙ ap (λ x. record a { nodes = b.nodes; at = b.at; end = b.end; outer = x }) outer
    ∙ ap (λ x. record b { at_key = x }) key

snoc-cancel : {A : Type 0} (xs ys : List A) (a b : A) → xs ++ a ∷ [] ≡ ys ++ b ∷ [] → (xs ≡ ys) × (a ≡ b)
snoc-cancel [] [] a b h = (refl, cc)
snoc-cancel [] (y ∷ []) a b h = cc
snoc-cancel [] (y ∷ z ∷ ys) a b h = cc
snoc-cancel (x ∷ []) [] a b h = cc
snoc-cancel (x ∷ z ∷ xs) [] a b h = cc
snoc-cancel (x ∷ xs) (y ∷ ys) a b h =
    let e : xs ++ a ∷ [] ≡ ys ++ b ∷ [] = cc in
    let r = snoc-cancel xs ys a b e in
    (cc, r.1)

taken-bytes : (bs : List ℕ) (old mid new : Place) → Opens old array_item mid → AreBytesAt mid.nodes mid.at bs
    → mid.at + length bs ≡ mid.end → Closes (record mid { at = mid.end }) new → ReadsAs old (octets bs) new
taken-bytes bs old mid new opens are ends closed =
    let mid_nodes : mid.nodes ≡ old.nodes = ap (λ p. p.nodes) opens.4 in
    let mid_at : mid.at ≡ old.at + 1 = ap (λ p. p.at) opens.4 in
    let mid_end : mid.end ≡ old.at + 1 + opens.1 = ap (λ p. p.end) opens.4 in
    let mid_outer : mid.outer ≡ old.outer ++ old.end ∷ [] = ap (λ p. p.outer) opens.4 in
    let mid_key : mid.at_key ≡ false = ap (λ p. p.at_key) opens.4 in
    let outer = snoc-cancel old.outer new.outer old.end new.end (sym mid_outer ∙ closed.1) in
    let new_nodes : new.nodes ≡ old.nodes = closed.3 ∙ mid_nodes in
    let new_at : new.at ≡ old.at + 1 + length bs = omega (arith, closed.2) in
    let new_end : new.end ≡ old.end = sym outer.1 in
    let new_outer : new.outer ≡ old.outer = sym outer.0 in
    let new_key : new.at_key ≡ false = closed.4 ∙ mid_key in
    let count : opens.1 ≡ length bs = omega arith in
    let whole : new ≡ record old { at = old.at + 1 + length bs; at_key = false } =
    rebuilt new _ new_nodes new_at new_end new_outer new_key in
    let said : AreBytesAt old.nodes (old.at + 1) bs =
    subst (λ ns. AreBytesAt ns (old.at + 1) bs) mid_nodes (subst (λ a. AreBytesAt mid.nodes a bs) mid_at are) in
    inr ((opens.0, opens.2, opens.3 ∙ ap (λ c. Some (array_item opens.0 c)) count, said), whole)

pub bytes-taken : {V E : Type 0} (items : V → List ℕ) (r : Result V E) (old mid new : Place) → Opens old array_item mid
    → IfOk r (λ v. AreBytesAt mid.nodes mid.at (items v) × (mid.at + length (items v) ≡ mid.end))
    → OnOk r (Closes (record mid { at = mid.end }) new) → IfOk r (λ v. ReadsAs old (octets (items v)) new)
bytes-taken items (Ok v) old mid new opens all closed = taken-bytes (items v) old mid new opens all.0 all.1 closed
bytes-taken items (Err e) old mid new opens all closed = tt

inside : (old mid : Place) (kind : MismatchKind) → Opens old array_item mid
    → ((bs : List ℕ) → mid.at + length bs ≡ mid.end → AreBytesAt mid.nodes mid.at bs → kind ≡ OutOfMemory) → (bs : List ℕ)
    → AreBytesAhead old bs → kind ≡ OutOfMemory
inside old mid kind opens all bs (inl is) =
    let none : None ≡ Some bs = sym (ahead-of string_text old (array_item opens.0 opens.1) opens.2 opens.3) ∙ is in
    cc
inside old mid kind opens all bs (inr b) =
    let mid_nodes : old.nodes ≡ mid.nodes = sym (ap (λ p. p.nodes) opens.4) in
    let mid_at : old.at + 1 ≡ mid.at = sym (ap (λ p. p.at) opens.4) in
    let mid_end : mid.end ≡ old.at + 1 + opens.1 = ap (λ p. p.end) opens.4 in
    let one : Some (array_item opens.0 opens.1) ≡ Some (array_item b.0.0 (length bs)) = sym opens.3 ∙ b.0.2 in
    let count : opens.1 ≡ length bs = cc in
    all bs (omega arith) (subst (λ a. AreBytesAt mid.nodes a bs) mid_at (subst (λ ns. AreBytesAt ns (old.at + 1) bs) mid_nodes b.0.3))

pub memory-inside : {A : Type 0} (r : Result A StepFault) (old mid : Place) → Opens old array_item mid
    → IfErr r (λ e. (bs : List ℕ) → mid.at + length bs ≡ mid.end → AreBytesAt mid.nodes mid.at bs → e.kind ≡ OutOfMemory)
    → IfErr r (λ e. (bs : List ℕ) → AreBytesAhead old bs → e.kind ≡ OutOfMemory)
memory-inside (Ok x) old mid opens all = tt
memory-inside (Err e) old mid opens all = inside old mid e.kind opens all

pub no-text : (n : Node) (p : Place) → Some (item_of n) ≡ node_ahead p → ((s : Bor (List ℕ)) → n ≡ nodes.String s → ⊥)
    → (t : List ℕ) → ahead string_text p ≡ Some t → ⊥
no-text (nodes.Static s) p here not t is = (let e : None ≡ Some t = ap (option_and_then string_text) here ∙ is in cc)
no-text (nodes.Decimal s) p here not t is = (let e : None ≡ Some t = ap (option_and_then string_text) here ∙ is in cc)
no-text (nodes.String s) p here not t is = not s refl
no-text (nodes.Array len count) p here not t is = (let e : None ≡ Some t = ap (option_and_then string_text) here ∙ is in cc)
no-text (nodes.Object len count) p here not t is = (let e : None ≡ Some t = ap (option_and_then string_text) here ∙ is in cc)
