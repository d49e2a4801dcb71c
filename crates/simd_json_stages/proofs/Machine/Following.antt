-- From a token to the one after the next: after a comma is the next member, and after a name and its colon a value.
use Rattle.std.proofs.Common.{◌≡◌, refl, sym, ◌∙◌, ap, subst, ℕ, ◌+◌, ◌<◌, ◌≤◌, List, [], ◌∷◌, ◌++◌, length, get_or, arith}
use Rattle.simd_json_parts.specs.Bytes.{byte_at}
use Rattle.simd_json_parts.specs.Positions.{positions}
use Rattle.simd_json_parts.specs.Nodes.{Item}
use Rattle.simd_json_stages.specs.Building.{top, AfterValue, AtMember, AtMemberOf}
use Rattle.simd_json_stages.specs.Members.{HasCapacity, AtFirst, IsAtMember, IsAtMemberOf}
use Rattle.simd_json_stages.specs.Rejections.{error_type}
use Rattle.simd_json_stages.specs.Progresses.{IsOnRoute, IsRead, IsNext, IsBefore, IsAfter}
use Rattle.simd_json_stages.specs.Inputs.{IsKept}
use Rattle.simd_json_stages.specs.declared.stage2.machine.Machine.{Machine}
use Rattle.simd_json_stages.specs.declared.stage2.progress.Route.{Route}
use Rattle.simd_json_stages.specs.declared.stage2.stack.Container.TheVariants.{Array, Object}
use Rattle.simd_json_stages.specs.declared.stage2.stack.Container.{Container}
use Rattle.simd_json_stages.specs.declared.stage2.progress.NextMember.TheVariants.{End}
use Rattle.simd_json_stages.specs.declared.stage2.progress.Progress.{Progress}
use Rattle.simd_json_stages.specs.declared.stage2.stack.StackState.{StackState}
use Rattle.simd_json_stages.specs.declared.stage2.fault.FaultKind.{FaultKind}
use Rattle.simd_json_stages.proofs.Machine.Bounds.{put-longer, at_next, two-left, two-is, later, read-next}
use Rattle.simd_json_stages.proofs.Machine.BuildingSteps.{closed_at, step-end, root-value}
use Rattle.simd_json_stages.proofs.Scan.WholeFaults.{some-listed}

module _ {b ps : List ℕ} {p q : Progress} (e : ps ≡ positions b) where
  -- the second of two positions is after the first
  rises : {s : Progress} → IsRead b ps p → IsNext b ps p q → IsNext b ps q s → get_or ps p.read 0 < get_or ps (p.read + 1) 0
  rises r n m = later b ps e (at_next b ps p) (read-next r n.more refl refl refl) (two-left n m)

  -- after a comma
  pub comma-progress : {reads : ℕ → Type 0} {written : ℕ} {s : Progress} → IsKept reads → IsAfter b ps reads written p → IsNext b ps p q
      → IsNext b ps q s → IsBefore b ps reads written s
  comma-progress {reads} {written} kept after n m =
      let l = rises after.read n m in
      subst (IsBefore b ps reads written) (sym (two-is n m))
      (record {
        read = subst (IsRead b ps) (two-is n m) m.read;
        few = omega (arith, after.few);
        deep = omega (arith, after.deep);
        len = after.len;
        input = kept _ _ (after.input n.more) (omega arith);
      })

  -- after a name and its colon
  pub named-progress : {reads reads' : ℕ → Type 0} {s : Progress} → IsKept reads' → (nodes nodes' : List Item) (x : Item) → nodes' ≡ nodes
      ++ x ∷ []
      → IsBefore b ps reads (length nodes) p → reads' (get_or ps p.read 0) → IsNext b ps p q → IsNext b ps q s
      → IsBefore b ps reads' (length nodes') s
  named-progress {reads' = reads'} kept nodes nodes' x put r ahead n m =
      let l = rises r.read n m in
      let more = put-longer nodes nodes' x put in
      subst (IsBefore b ps reads' (length nodes')) (sym (two-is n m))
      (record {
        read = subst (IsRead b ps) (two-is n m) m.read;
        few = omega (arith, r.few);
        deep = omega (arith, r.deep);
        len = omega (arith, r.len);
        input = kept _ _ ahead (omega arith);
      })

  -- after a closing bracket
  pub closed-after : {reads reads' : ℕ → Type 0} {written now : ℕ} {q' : Progress} (stack : List StackState) → now ≡ written
      → IsKept reads' → ((i : ℕ) → reads i → reads' i) → IsAfter b ps reads written p → 0 < p.depth → (top stack p.depth).len < written →
      IsNext b ps p q → q' ≡ closed_at stack q
      → IsAfter b ps reads' now q'
  closed-after {reads' = reads'} {now = now} stack same kept still r some fewer n is =
      subst (IsAfter b ps reads' now) (sym (is ∙ ap (closed_at stack) n.same))
      (let s : Progress = closed_at stack (at_next b ps p) in
      let read : IsRead b ps s = read-next r.read n.more refl refl refl in
      record {
        read = read;
        few = omega (arith, r.few);
        deep = omega (arith, r.deep);
        len = omega arith;
        input = λ h. kept _ _ (still _ (r.input n.more)) (omega (arith, later b ps e s read h));
      })

module _ (b : List ℕ) (r : Route) (m : Machine) (reads : ℕ → Type 0) (capacity : ℕ) (nodes : List Item) (p : Progress) where
  -- at the first token of a member
  pub at-member : (kind : FaultKind) → IsOnRoute r.ends_closed r.end b r.indexes.now
      → HasCapacity r.indexes.now r.max_depth m.stack.now capacity → IsBefore b r.indexes.now reads (length nodes) p
      → p.depth ≤ r.max_depth → 0 < p.depth → AtMember b r.indexes.now r.max_depth kind m.stack.now nodes p
      → IsAtMemberOf b r m reads capacity nodes p.container p kind
  at-member kind route capacities progress depth inside at = go p.container refl at
    where
      go : (c : Container) → p.container ≡ c → AtMemberOf b r.indexes.now r.max_depth c (error_type kind) m.stack.now nodes p
          → IsAtMemberOf b r m reads capacity nodes c p kind
      go Array is at = record {
        first = record { on_route = route; capacities = capacities; progress = progress; depth = depth; value = at };
        inside = inside;
        array = is;
      }
      go Object is at = record { on_route = route; capacities = capacities; progress = progress; depth = depth; name = at }

  -- after the root
  pub end-built : IsAfter b r.indexes.now reads (length nodes) p
      → AfterValue b r.indexes.now r.max_depth m.stack.now nodes p → p.depth ≡ 0 → p.read ≡ length r.indexes.now
      → IsAtMember b r m reads capacity nodes End
  end-built after at none all = (omega (arith, after.few), step-end at none all)

-- At the first token all of the input can be read, and no node is written.
pub at-first : {b : List ℕ} {r : Route} {m : Machine} {reads : ℕ → Type 0} {capacity : ℕ} {nodes : List Item} {x : ℕ} → IsKept reads
    → IsOnRoute r.ends_closed r.end b r.indexes.now → HasCapacity r.indexes.now r.max_depth m.stack.now capacity → nodes ≡ []
    → reads 0 → x ≡ byte_at b (get_or r.indexes.now 0 0) → AtFirst b r m reads capacity nodes
    (record { read = 1; at = get_or r.indexes.now 0 0; byte = x; depth = 0; container = Array; len = 0 })
at-first kept route capacities empty input byte =
    let some = some-listed _ _ route.positions route.whole in
    let none = ap length empty in
    record {
      on_route = route;
      capacities = capacities;
      progress = record {
        read = record { some = omega arith; within = omega arith; last = refl; first = byte };
        few = omega arith;
        deep = omega arith;
        len = omega arith;
        input = kept _ _ input (omega arith);
      };
      depth = omega arith;
      value = root-value empty some;
    }
