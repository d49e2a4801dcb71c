-- What a reservation of buffers and tape is for.
use Rattle.std.proofs.Common.{◌≡◌, ◌∙◌, refl, sym, subst, ◌<◌, ◌≤◌, ℕ, List, length, arith, min, max, Option, Bool, true, false, cond}
use Rattle.std.proofs.Common.{nat_lt, inl, inr}
use Rattle.std.proofs.lemmas.Bool.{cases_lt, ltb-false}
use Rattle.simd_json_parts.specs.Nodes.{Item}
use Rattle.simd_json_parts.specs.declared.error.Error.{Error}
use Rattle.simd_json.specs.Capacities.{Capacities, KeepsCapacities, capacity, with_room}
use Rattle.simd_json.specs.Parsed.{HasMemory, IsParse}
use Rattle.simd_json_stages.specs.Capacities.{capped}
use Rattle.simd_json_stages.specs.Capacities as lists
use Rattle.simd_json_stages.specs.EscapeBlocks.{blocks_in}
use Rattle.simd_json.specs.Reserved.{IsReserved, bytes_listed, parse_capacity}
use Rattle.simd_json.specs.Tapes.{Listed}
use Rattle.simd_json_stages.specs.NodesEnough.{nodes_enough}
use Rattle.simd_json.proofs.Parses.ParseAnswers.{has-capped-memory}
use Rattle.simd_json.proofs.Parses.ParseEnds.{bytes-enough, bytes-kept, bytes-short, capacity-kept}

least-kept : (a b c d : ℕ) → a ≤ c → b ≤ d → min a b ≤ min c d
least-kept a b c d l m = omega (arith, l, m)

pub parse-capacity-kept : (old new : Capacities) (tape next : Listed) → new.limit ≡ old.limit → KeepsCapacities old new
    → tape.capacity ≤ next.capacity → parse_capacity old tape ≤ parse_capacity new next
parse-capacity-kept old new tape next same kept more =
    least-kept _ _ _ _ (subst (λ l. bytes_listed old.limit tape.capacity ≤ bytes_listed l next.capacity) (sym same)
    (bytes-kept old.limit tape.capacity next.capacity more)) (capacity-kept old new same kept)

pub reserved : (len : ℕ) (buffers : Capacities) (tape : Listed) → capped len ≤ parse_capacity buffers tape → IsReserved len buffers tape
reserved len buffers tape enough later next same kept more b fault nodes listed short parse =
    let held = parse-capacity-kept buffers later tape next same kept more in
    has-capped-memory b later.limit (parse_capacity later next) fault nodes listed parse
    (λ small. omega (arith, small, short, enough, held))

kept-both : (a b c : Capacities) → KeepsCapacities a b → KeepsCapacities b c → KeepsCapacities a c
kept-both a b c k l = (
  (omega (arith, k.0.0, l.0.0), omega (arith, k.0.1, l.0.1)),
  omega (arith, k.1, l.1),
)

pub kept-same : (a : Capacities) → KeepsCapacities a a
kept-same a = ((omega arith, omega arith), omega arith)

-- it holds of what keeps capacities
pub reserved-still : (len : ℕ) (old new : Capacities) (tape next : Listed) → new.limit ≡ old.limit → KeepsCapacities old new
    → tape.capacity ≤ next.capacity → IsReserved len old tape → IsReserved len new next
reserved-still len old new tape next limit kept more is later last same kept2 more2 =
    is later last (same ∙ limit)
    (kept-both old new later kept kept2) (omega (arith, more, more2))

pub reserved-now : (len : ℕ) (buffers : Capacities) (tape : Listed) → IsReserved len buffers tape
    → (b : List ℕ) (fault : Option Error) (nodes : List Item) (listed : List ℕ)
    → length b ≤ len → IsParse b buffers.limit (parse_capacity buffers tape) fault nodes listed → HasMemory fault
reserved-now len buffers tape is = is buffers tape refl (kept-same buffers) (omega arith)

-- where there is as much capacity, a reservation of buffers changes nothing
pub room-same : (n : ℕ) (r : Capacities) → n ≤ capacity r → with_room n r ≡ r
room-same n r l = by_stack (nat_lt r.stack_capacity r.limit) refl l where
  same : max r.index.indexes n ≡ r.index.indexes → max r.index.blocks (blocks_in n) ≡ r.index.blocks
      → max r.stack_capacity (min n r.limit) ≡ r.stack_capacity → with_room n r ≡ r
  same a b c = rw (a, b, c) refl

  by_stack : (t : Bool) → nat_lt r.stack_capacity r.limit ≡ t
      → n ≤ cond t (min (lists.capacity r.index) r.stack_capacity) (lists.capacity r.index) → with_room n r ≡ r
  by_stack true is l = same (omega (arith, l)) (omega (arith, l)) (omega (arith, l))
  by_stack false is l =
      same (omega (arith, l)) (omega (arith, l)) (omega (arith, l, ltb-false r.stack_capacity r.limit is))

-- the nodes that code asks for
module _ (len enough : ℕ) (buffers : Capacities) (tape : Listed) (is : enough ≡ nodes_enough (capped len) buffers.limit) where
  pub room : capped len ≤ capacity buffers → enough ≤ tape.capacity → capped len ≤ parse_capacity buffers tape
  room held l =
      let all = bytes-enough (capped len) buffers.limit tape.capacity (subst (λ n. n ≤ tape.capacity) is l) in
      omega (arith, all, held)

  pub enough-nodes : capped len ≤ parse_capacity buffers tape → enough ≤ tape.capacity
  enough-nodes l = elim (cases_lt tape.capacity enough) [
    | inl short ↦
        let few = bytes-short (capped len) buffers.limit tape.capacity (subst (λ n. tape.capacity < n) is short) in
        absurd (omega (arith, few, l))
    | inr held ↦ held
  ]

  pub lack : tape.capacity < enough → parse_capacity buffers tape < capped len
  lack l =
      let few = bytes-short (capped len) buffers.limit tape.capacity (subst (λ n. tape.capacity < n) is l) in
      omega (arith, few)
