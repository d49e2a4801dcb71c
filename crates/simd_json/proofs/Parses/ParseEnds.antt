-- How a parse ends: with a tape, with the fault of a token or of the whole input, or for want of memory.
use Rattle.std.proofs.Common.{◌≡◌, ◌≢◌, ◌∙◌, ap, sym, subst, ◌<◌, ◌≤◌, ℕ, List, [], length, Bool, true, false, Some, None}
use Rattle.std.proofs.Common.{Option, Ok, Err, refl, arith, cond, Result, min, ◌⊎◌, inl, inr, is_some, nat_lt}
use Rattle.std.specs.Result.{IsErrAnd, IfErr, OnOk, OnErr, result_err}
use Rattle.simd_json_stages.proofs.Whole.{few-positions}
use Rattle.simd_json_parts.proofs.Documents.Fronts.{positive}
use Rattle.simd_json_theorems.proofs.Faults.Kinds.{input-fault, token-fault}
use Rattle.std.proofs.lemmas.Bool.{cond_both, ltb-false, ltb-true, lt-ltb, false≢true}
use Rattle.simd_json_parts.specs.Descent.{descent}
use Rattle.simd_json_parts.specs.Document.{Document}
use Rattle.simd_json_parts.specs.FaultKinds.{IsOfInput, IsOfToken, is_input_kind, is_token_kind}
use Rattle.simd_json_parts.specs.InputFaults.{input_fault}
use Rattle.simd_json_parts.specs.Listing.{listing}
use Rattle.simd_json_parts.specs.Nodes.{Item}
use Rattle.simd_json_parts.specs.Positions.{positions}
use Rattle.simd_json_parts.specs.declared.error.Error.{Error}
use Rattle.simd_json_stages.specs.Capacities.{IsOutOfMemory, LacksMemory}
use Rattle.simd_json.specs.Parsed.{IsParse, IsParsed, IsRejected, nodes_written}
use Rattle.simd_json.specs.Capacities.{KeepsCapacities, Capacities, capacity}
use Rattle.simd_json_stages.specs.Capacities as lists
use Rattle.simd_json.specs.Reserved.{bytes_listed}
use Rattle.simd_json_stages.specs.Building.{IsWritten}
use Rattle.simd_json_stages.specs.NodesEnough.{nodes_enough}
use Rattle.simd_json_stages.specs.Rejections.{IsTokenFault}
use Rattle.simd_json.specs.Tapes.{IsTapeContent}
use Rattle.simd_json.proofs.Parses.ParseLaws.{rejected-token, rejected-whole, tape-parsed, written-parsed}

-- ---- what a fault carries

pub input-character : (e : Error) → IsOfInput e → is_some e.character ≡ false
input-character e named = ap (λ x. is_some x.character) named.1

-- it is not for want of memory
pub input-memory : (e : Error) → IsOfInput e → IsOutOfMemory e → ⊥
input-memory e named lacks = false≢true (sym (ap (λ x. is_input_kind x.error) lacks) ∙ named.0)

pub token-memory : (e : Error) → IsOfToken e → IsOutOfMemory e → ⊥
token-memory e named lacks = false≢true (sym (ap (λ x. is_token_kind x.error) lacks) ∙ named.0)

-- ---- what is parsed has a node

listing-some : (d : Document) → listing d ≢ []
listing-some d none = omega (arith, positive d, ap length none)

pub parsed-some : (b : List ℕ) (limit : ℕ) (nodes : List Item) → IsParsed b limit nodes → nodes ≢ []
parsed-some b limit nodes p none = listing-some p.document (sym p.listed ∙ none)

-- ---- the four ends

pub parse-done : (b : List ℕ) (limit capacity : ℕ) (nodes : List Item) → IsParsed b limit nodes
    → length nodes ≤ length (positions b) → IsParse b limit capacity None nodes (positions b)
parse-done b limit capacity nodes p l = record { parsed = p; rejected = tt; empty = tt; found = refl; few = (l, few-positions b) }

pub parse-token : (b : List ℕ) (limit capacity : ℕ) (e : Error) → IsRejected b limit e → IsOfToken e
    → IsParse b limit capacity (Some e) [] (positions b)
parse-token b limit capacity e rejected token = record {
  parsed = tt;
  rejected = inl rejected;
  empty = refl;
  found = ap (λ t. cond t (positions b) []) (sym token.1);
  few = (omega arith, few-positions b);
}

pub parse-whole : (b : List ℕ) (limit capacity : ℕ) (e : Error) → input_fault b ≡ Some e → IsParse b limit capacity (Some e) [] []
parse-whole b limit capacity e is = record {
  parsed = tt;
  rejected = inl (rejected-whole b limit e is);
  empty = refl;
  found = ap (λ t. cond t (positions b) []) (sym (input-character e (input-fault b e is)));
  few = (omega arith, few-positions b);
}

pub parse-lacking : (b : List ℕ) (limit capacity : ℕ) (e : Error) → LacksMemory b e → capacity < length b
    → IsParse b limit capacity (Some e) [] []
parse-lacking b limit capacity e lacks l = record {
  parsed = tt;
  rejected = inr (lacks, l);
  empty = refl;
  found = ap (λ x. cond (is_some x.character) (positions b) []) (sym lacks.0);
  few = (omega arith, few-positions b);
}

-- ---- as code leaves them

pub parse-at : {b : List ℕ} {limit capacity : ℕ} (fault fault' : Option Error) (nodes nodes' : List Item) (listed listed' : List ℕ)
    → fault' ≡ fault → nodes' ≡ nodes → listed' ≡ listed → IsParse b limit capacity fault nodes listed
    → IsParse b limit capacity fault' nodes' listed'
parse-at {b} {limit} {capacity} fault fault' nodes nodes' listed listed' f n l p =
    subst (λ f. IsParse b limit capacity f nodes' listed') (sym f) (subst (λ n. IsParse b limit capacity fault n listed') (sym n)
    (subst (λ l. IsParse b limit capacity fault nodes l) (sym l) p))

pub err-of : {A : Type 0} (r : Result A Error) (e : Error) → IsErrAnd r (λ x. x ≡ e) → result_err r ≡ Some e
err-of (Ok x) e is = absurd is
err-of (Err x) e is = ap Some is

-- nothing is listed, and there is no node, where the first stage rejects, or a list has no capacity
pub parse-unread : {A : Type 0} (r : Result A Error) (b : List ℕ) (limit least capacity : ℕ) (e : Error) (nodes : List Item)
    (listed : List ℕ) → IsErrAnd r (λ x. x ≡ e) → nodes ≡ [] → listed ≡ [] → least ≤ capacity
    → (input_fault b ≡ Some e) ⊎ (LacksMemory b e × (capacity < length b)) → IsParse b limit least (result_err r) nodes listed
parse-unread r b limit least capacity e nodes listed err n l less cause =
    parse-at (Some e) (result_err r) [] nodes [] listed (err-of r e err) n l (by_cause cause)
  where
    by_cause : (input_fault b ≡ Some e) ⊎ (LacksMemory b e × (capacity < length b)) → IsParse b limit least (Some e) [] []
    by_cause (inl whole) = parse-whole b limit least e whole
    by_cause (inr (lacks, short)) = parse-lacking b limit least e lacks (omega (arith, short, less))

-- ---- the second stage

-- what it leaves is a tape, and no empty one after it
pub built-tape : {A : Type 0} (r : Result A Error) (b : List ℕ) (limit : ℕ) (nodes : List Item) → input_fault b ≡ None
    → OnOk r (IsWritten b limit nodes) → OnErr r (nodes ≡ []) → IsTapeContent nodes
built-tape (Ok x) b limit nodes none built empty = tape-parsed b limit nodes (written-parsed b limit nodes none built)
built-tape (Err e) b limit nodes none built empty = inl empty

pub built-some : {A : Type 0} (r : Result A Error) (b : List ℕ) (limit : ℕ) (nodes : List Item) → input_fault b ≡ None
    → OnOk r (IsWritten b limit nodes) → OnOk r (nodes ≢ [])
built-some (Ok x) b limit nodes none built = parsed-some b limit nodes (written-parsed b limit nodes none built)
built-some (Err e) b limit nodes none built = tt

-- its end
pub parse-written : (r : Result (Unit {0}) Error) (b : List ℕ) (limit capacity : ℕ) (nodes : List Item) (listed : List ℕ)
    → input_fault b ≡ None → OnOk r (IsWritten b limit nodes) → OnOk r (length nodes ≤ length (positions b))
    → IfErr r (λ e. IsTokenFault e × (descent b limit ≡ Err e)) → listed ≡ positions b
    → IsParse b limit capacity (result_err r) (nodes_written r nodes) listed
parse-written (Ok x) b limit capacity nodes listed none built few rejected l =
    parse-at None None nodes nodes (positions b) listed refl refl l
    (parse-done b limit capacity nodes (written-parsed b limit nodes none built) few)
parse-written (Err e) b limit capacity nodes listed none built few rejected l =
    parse-at (Some e) (Some e) [] [] (positions b) listed refl refl l
    (parse-token b limit capacity e (rejected-token b limit e none rejected.1) (token-fault b limit e rejected.1))

pub unwritten : (r : Result (Unit {0}) Error) (e : Error) (nodes : List Item) → IsErrAnd r (λ x. x ≡ e) → nodes_written r nodes ≡ []
unwritten (Ok x) e nodes is = absurd is
unwritten (Err x) e nodes is = refl

pub written-all : (r : Result (Unit {0}) Error) (nodes : List Item) → OnErr r (nodes ≡ []) → nodes_written r nodes ≡ nodes
written-all (Ok x) nodes empty = refl
written-all (Err e) nodes empty = sym empty

-- so many nodes are enough for as many bytes, and what is too few for so many positions is for fewer
pub bytes-enough : (len limit nodes : ℕ) → nodes_enough len limit ≤ nodes → len ≤ bytes_listed limit nodes
unfolding nodes_enough
bytes-enough len limit nodes l = omega (arith, l)

pub bytes-short : (count limit nodes : ℕ) → nodes < nodes_enough count limit → bytes_listed limit nodes < count
unfolding nodes_enough
bytes-short count limit nodes l = omega (arith, l)

pub bytes-kept : (limit nodes more : ℕ) → nodes ≤ more → bytes_listed limit nodes ≤ bytes_listed limit more
bytes-kept limit nodes more l = omega (arith, l)

-- ---- capacity

-- a stack that is too short bounds the capacity
pub short-stack : (r : Capacities) (count n : ℕ) → r.stack_capacity < min count r.limit → count ≤ n → capacity r < n
short-stack r count n l m =
    subst (λ t. cond t (min (lists.capacity r.index) r.stack_capacity) (lists.capacity r.index) < n)
    (sym (lt-ltb r.stack_capacity r.limit (omega (arith, l))))
    (omega (arith, l, m))

open-kept : (t t2 : Bool) (p s l p2 s2 l2 : ℕ) → nat_lt s l ≡ t → nat_lt s2 l2 ≡ t2 → l2 ≡ l → p ≤ p2 → s ≤ s2
    → cond t (min p s) p ≤ cond t2 (min p2 s2) p2
open-kept true true p s l p2 s2 l2 a b same le_p le_s = omega (arith, le_p, le_s)
open-kept true false p s l p2 s2 l2 a b same le_p le_s = omega (arith, le_p)
open-kept false true p s l p2 s2 l2 a b same le_p le_s = absurd (omega (arith, ltb-false s l a, ltb-true s2 l2 b, same, le_s))
open-kept false false p s l p2 s2 l2 a b same le_p le_s = le_p

pub capacity-kept : (old new : Capacities) → new.limit ≡ old.limit → KeepsCapacities old new → capacity old ≤ capacity new
capacity-kept old new same kept =
    open-kept _ _ (lists.capacity old.index) old.stack_capacity old.limit (lists.capacity new.index) new.stack_capacity
    new.limit refl refl same (omega (arith, kept.0.0, kept.0.1)) kept.1
