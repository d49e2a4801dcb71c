use Rattle.std.proofs.Common.{◌≡◌, ◌∙◌, ap, sym, ◌-◌, ℕ, suc, ◌∷◌, drop, take, true, false, arith, rules, bytes_eq, ◌&&◌, is_some}
use Rattle.std.specs.List.{list_all, list_any}
use Rattle.simd_json.specs.Iterated.{keys_left}
use Rattle.simd_json.specs.Viewed.{doc, pairs}
use Rattle.simd_json_parts.specs.Document.{Document, object}
use Rattle.simd_json_parts.specs.Views.{first_with, keys}
use Rattle.simd_json_path.specs.Comparisons.{same_at, same_members, same_to}
use Rattle.simd_json_path.specs.Operands.{scalar_value}
use Rattle.simd_json_path.proofs.Equals.{among-true, members-same, rest-drop, rest-false, rest-more, scalar-first}
use Rattle.simd_json_path.proofs.same.+same.Goals as goal
use Rattle.simd_json_path.proofs.same.+same.Goals.{same_pairs-else-not-is_among-via-then-not-is_among+else-not-same_value}
use Rattle.simd_json_path.proofs.same.+same.Goals.{same_pairs-else-not-is_among-via-else-not-is_among}

pub same_to-returns-in-Some : goal.same_to-returns-in-Some
same_to-returns-in-Some t c =
    c.is_same_scalar.ensures
    ∙ scalar-first c.args.levels (doc c.args.left) (doc c.args.right) (scalar_value c.in-Some.scalar) (sym c.in-Some.ensures)

-- two objects with a level left
objects : (n m : ℕ) (d e : Document) (left right : _) → n ≡ suc m → d ≡ object left → e ≡ object right
    → same_members (same_to m) left right ≡ same_to n d e
objects n m d e left right levels is is' =
    ap (λ x. same_to (suc m) x (object right)) (sym is)
    ∙ ap (same_to (suc m) d) (sym is')
    ∙ ap (λ k. same_to k d e) (sym levels)

pub same_containers-returns-then-same_pairs : goal.same_containers-returns-then-same_pairs
same_containers-returns-then-same_pairs t c =
    let left = pairs c.in-Some-as_object.left in
    let right = pairs c.in-Some-as_object-2.right in
    let m = c.args.levels - 1 in
    let all : list_all (same_at (same_to m) left right) (keys left) ≡ true = sym c.same_pairs.ensures ∙ c.if-same_pairs.true in
    c.has_keys.ensures
    ∙ ap (list_all (λ key. is_some (first_with key left))) c.keys.ensures
    ∙ ap (λ b. b && list_all (λ key. is_some (first_with key left)) (keys right)) (sym all)
    ∙ members-same (same_to m) left right
    ∙ objects c.args.levels m (doc c.args.left) (doc c.args.right) left right (omega arith) c.in-Some-as_object.ensures.object
    c.in-Some-as_object-2.ensures.object

pub same_containers-returns-else-same_pairs : goal.same_containers-returns-else-same_pairs
same_containers-returns-else-same_pairs t c =
    let left = pairs c.in-Some-as_object.left in
    let right = pairs c.in-Some-as_object-2.right in
    let m = c.args.levels - 1 in
    let no : list_all (same_at (same_to m) left right) (keys left) ≡ false = sym c.same_pairs.ensures ∙ c.if-same_pairs.false in
    c.if-same_pairs.false
    ∙ ap (λ b. b && list_all (λ key. is_some (first_with key left)) (keys right)) (sym no)
    ∙ members-same (same_to m) left right
    ∙ objects c.args.levels m (doc c.args.left) (doc c.args.right) left right (omega arith) c.in-Some-as_object.ensures.object
    c.in-Some-as_object-2.ensures.object

pub same_pairs-returns-then-not-same_value : goal.same_pairs-returns-then-not-same_value
same_pairs-returns-then-not-same_value t c =
    let left = pairs c.args.left in
    let right = pairs c.args.right in
    let rest : drop c.loop-passed.passed (keys left) ≡ c.in-Some.key.now ∷ keys_left c.next.new.self =
    sym c.loop-passed.invariant.rest ∙ c.in-Some.ensures.steps in
    let not-here : same_at (same_to c.args.levels) left right c.in-Some.key.now ≡ false = search (rules, c.same_value.ensures) in
    sym (rest-false (same_at (same_to c.args.levels) left right) c.loop-passed.passed (keys left) (keys_left c.next.new.self)
    c.in-Some.key.now rest not-here)

pub same_pairs-loop-passed-preserved : goal.same_pairs-loop-passed-preserved
same_pairs-loop-passed-preserved t c =
    let left = pairs c.args.left in
    let right = pairs c.args.right in
    let i = c.loop-passed.passed in
    let key = c.in-Some.key.now in
    let p = same_at (same_to c.args.levels) left right in
    let rest : drop i (keys left) ≡ key ∷ keys_left c.next.new.self = sym c.loop-passed.invariant.rest ∙ c.in-Some.ensures.steps in
    let here : p key ≡ true =
    elim c.else-not-is_among.branch [
      | same_pairs-else-not-is_among-via-then-not-is_among+else-not-same_value w ↦ search (rules, w.same_value.ensures)
      | same_pairs-else-not-is_among-via-else-not-is_among w ↦
          let found : list_any (λ other. bytes_eq other key) (take i (keys left)) ≡ true =
          sym (c.is_among.ensures ∙ ap (λ ks. list_any (λ other. bytes_eq other key) (take i ks)) c.keys.ensures) ∙ search rules in
          among-true p key (take i (keys left)) found c.loop-passed.invariant.so_far
    ] in
    record {
      within = omega arith;
      rest = sym (rest-drop i (keys left) (keys_left c.next.new.self) key rest);
      so_far = rest-more p i (keys left) (keys_left c.next.new.self) key rest c.loop-passed.invariant.so_far here;
    }
