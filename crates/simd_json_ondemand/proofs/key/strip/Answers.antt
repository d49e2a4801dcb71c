use Rattle.std.proofs.Common.{◌≡◌, ap, ◌++◌, Option, Some, None, MatchOption, ne_eqb}
use Rattle.simd_json_parts.proofs.Lists.Prefixes.{not-stripped, stripped}
use Rattle.simd_json_ondemand.proofs.key.strip.Goals as goal

each-way : {A N M : Type 0} {P Q : A → Type 0} (o : Option A) → (N → M) → ((x : A) → P x → Q x) → MatchOption o N P → MatchOption o M Q
each-way None n s h = n h
each-way (Some x) n s h = s x h

pub returns-then-this-ne0 : goal.returns-then-this-ne0
returns-then-this-ne0 g c = rw (ne_eqb g.row.TOKEN 0 c.if-this-ne0.true) c.strip_decoded.ensures

pub returns-else-this-ne0 : goal.returns-else-this-ne0
returns-else-this-ne0 g c =
    rw c.if-this-ne0.false (each-way c.strip_prefix.result
    (λ h k is. let same : c.args.key.now ≡ c.args.front.now ++ k = cc in not-stripped c.args.key.now c.args.front.now h k same)
    (λ rest h. ap Some (stripped c.args.key.now c.args.front.now rest.now h.0 h.1)) c.strip_prefix.ensures.cases)
