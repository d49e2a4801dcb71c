use Rattle.std.proofs.Common.{ap, refl}
use Rattle.jpick.proofs.lines.Picker.new.Goals as goal

pub returns : goal.returns
returns g c = record {
  by = refl;
  of = refl;
  longest = ap (λ n. n.longest) c.in_ok-records.ensures;
  depth = ap (λ n. n.depth) c.in_ok-records.ensures;
  number = ap (λ n. n.number) c.in_ok-records.ensures;
  all_taken = refl;
  is_over = refl;
}
