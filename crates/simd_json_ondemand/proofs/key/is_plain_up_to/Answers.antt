use Rattle.std.proofs.Common.{sym, ◌∙◌, ap, arith, leb-true}
use lib.Count.{count_trailing_zeros}
use Rattle.simd_json_ondemand.proofs.Keys.{no-stop, before-stop}
use Rattle.simd_json_ondemand.proofs.key.is_plain_up_to.Goals as goal

pub returns-then-stops-eq0 : goal.returns-then-stops-eq0
returns-then-stops-eq0 c = λ t k l m. no-stop c.args.bytes c.requires (sym c.stops-stops.ensures ∙ c.if-stops-eq0.true) k l

pub returns-else-stops-eq0 : goal.returns-else-stops-eq0
returns-else-stops-eq0 c = λ t k l m.
    before-stop c.args.bytes c.requires (λ e. c.if-stops-eq0.false (c.stops-stops.ensures ∙ e)) k
    (omega (arith, m, leb-true _ _ t, ap (count_trailing_zeros 64) c.stops-stops.ensures))
