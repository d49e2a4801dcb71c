-- What printing a value without members, or opening a container, leads to.
use Rattle.std.proofs.Common.{◌≡◌, ap, sym, subst, refl, ◌<◌, ◌+◌, ◌-◌, ℕ, Bool, not, nat_eq, List, length, map, min, take, drop, get_or}
use Rattle.std.proofs.Common.{set, arith, zero, suc, ne_eqb}
use Rattle.simd_json_parts.specs.Headers.{count_of}
use Rattle.simd_json_parts.specs.Nodes.{item_of}
use Rattle.simd_json_parts.specs.declared.node.Node.{Node}
use Rattle.simd_json_print.specs.Frames.{IsAtValue, IsBetween, is_object_item}
use Rattle.simd_json_print.specs.Layout.{leaf_text}
use Rattle.simd_json_print.specs.Texts.{TargetState, Adds, Leads}
use Rattle.simd_json_print.specs.declared.document.walk.Level.{Level}
use Rattle.simd_json_print.specs.declared.text.Text.{Text}
use Rattle.simd_json_print.proofs.Lead.{leads-by, leads-none}
use Rattle.simd_json_print.proofs.Nestings.{leaf-step, open-step}

pub leads-leaf : {T : Type 0} {size : ℕ} (state : T → TargetState) (a b c : Text T size) (p : Bool) (n : ℕ) (levels new : List Level)
    (o q : ℕ) (ns first rest : List Node) (default : Node) (beneath count : ℕ) → 0 < length ns → first ≡ take 1 ns → rest ≡ drop 1 ns
    → beneath ≡ count_of (item_of (get_or first 0 default)) → count ≡ min beneath (length rest) → count ≡ 0
    → Adds state a b (leaf_text (item_of (get_or first 0 default))) → c ≡ b → new ≡ levels → q ≡ o
    → Leads state a c (IsAtValue p n levels o (map item_of ns)) (IsBetween p n new q (not (nat_eq count 0)) (map item_of rest))
leads-leaf state a b c p n levels new o q ns first rest default beneath count some front back sized least none put out same used =
    let from = IsAtValue p n levels o (map item_of ns) in
    let left = map item_of rest in
    subst (λ x. Leads state a x from (IsBetween p n new q (not (nat_eq count 0)) left)) (sym out)
    (subst (λ ls. Leads state a b from (IsBetween p n ls q (not (nat_eq count 0)) left)) (sym same)
    (subst (λ k. Leads state a b from (IsBetween p n levels k (not (nat_eq count 0)) left)) (sym used)
    (subst (λ k. Leads state a b from (IsBetween p n levels o (not (nat_eq k 0)) left)) (sym none)
    (leads-by state a b _ _ _ put (λ done root is.
    leaf-step p n levels o root ns first rest default beneath count done some front back sized least is none)))))

pub leads-open : {T : Type 0} {size : ℕ} (state : T → TargetState) (a c : Text T size) (p : Bool) (n : ℕ) (levels new : List Level)
    (o q : ℕ) (ns first rest : List Node) (default : Node) (beneath count : ℕ) → 0 < length ns → first ≡ take 1 ns → rest ≡ drop 1 ns
    → beneath ≡ count_of (item_of (get_or first 0 default)) → count ≡ min beneath (length rest) → (count ≡ 0 → ⊥)
    → c ≡ a → o < length levels → q ≡ o + 1
    → new ≡ set levels o (record { end = length rest - count; is_object = is_object_item (item_of (get_or first 0 default)) })
    → Leads state a c (IsAtValue p n levels o (map item_of ns)) (IsBetween p n new q (not (nat_eq count 0)) (map item_of rest))
leads-open state a c p n levels new o q ns first rest default beneath count some front back sized least more out room used stored =
    let from = IsAtValue p n levels o (map item_of ns) in
    let left = map item_of rest in
    let level : Level = record { end = length rest - count; is_object = is_object_item (item_of (get_or first 0 default)) } in
    subst (λ x. Leads state a x from (IsBetween p n new q (not (nat_eq count 0)) left)) (sym out)
    (subst (λ f. Leads state a a from (IsBetween p n new q f left)) (sym (ap not (ne_eqb count 0 more)))
    (leads-none state a _ _ (λ done root is.
    open-step p n levels o root ns first rest default beneath count done some front back sized least is new level q
    (positive count more) room stored refl refl used)))
  where
    positive : (k : ℕ) → (k ≡ 0 → ⊥) → 0 < k
    positive zero more = absurd (more refl)
    positive (suc k) more = omega arith
