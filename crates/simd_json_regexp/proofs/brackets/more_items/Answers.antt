use Rattle.std.proofs.Common.{◌≡◌, ◌≤◌, ◌∙◌, ◌+◌, ◌∷◌, arith, rules, length, take, add-one}
use Rattle.std.specs.Str.{chars}
use Rattle.simd_json_regexp.specs.Patterns.{item_node}
use Rattle.simd_json_regexp.specs.Written.{written}
use Rattle.simd_json_regexp.proofs.Steps.{items-more, items-none}
use Rattle.simd_json_regexp.proofs.brackets.more_items.Goals as goal

pub returns-in_default-bracket_item-clause-is : goal.returns-in_default-bracket_item-clause-is
returns-in_default-bracket_item-clause-is c =
    items-none c.items.sink.next (take c.items.count (written c.items.sink)) (chars c.items.left.now) c.in_default.ensures
    c.in_default-bracket_item.ensures
    ∙ c.items.invariant.same

pub items-preserved : goal.items-preserved
items-preserved c =
    let ns = written c.items.sink in
    let i = c.in-Some-bracket_item.item in
    let node : written c.one.new.self ≡ item_node i ∷ ns = c.in_ok-one.ensures.node in
    let longer : c.items.count + 1 ≤ length (written c.one.new.self) = rw node (omega (arith, c.items.invariant.within)) in
    record {
      utf8 = search rules;
      grows = search rules;
      within = longer;
      same = rw (node, add-one)
          (items-more c.items.sink.next c.one.new.self.next (take c.items.count ns) (chars c.items.left.now)
          (chars c.in-Some-bracket_item.others.now) i c.in_ok-one.ensures.room c.in_default.ensures c.in-Some-bracket_item.ensures
          ∙ c.items.invariant.same);
    }
