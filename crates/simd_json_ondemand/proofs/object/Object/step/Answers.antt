use Rattle.std.proofs.Common.{◌≡◌, refl, sym, ◌∙◌, ap, subst, ◌+◌, ◌-◌, ◌<◌, ◌≤◌, length, drop, arith, Ok, IfSome, option_map, drop-drop}
use Rattle.simd_json_ondemand.specs.Viewed.{read_along}
use Rattle.simd_json_ondemand.specs.Sites.{pair_sites}
use Rattle.simd_json_ondemand.specs.Stopped.{error_at}
use Rattle.simd_json_ondemand.specs.Walks.{came, members_seen, members_walk}
use Rattle.simd_json_ondemand.specs.declared.array.Position.TheVariants.{AtValue}
use Rattle.simd_json_ondemand.specs.Within.{IsItemAt}
use Rattle.simd_json_ondemand.proofs.Inside.{StaysInObject, stays-in-object}
use Rattle.simd_json_ondemand.proofs.Turns.{member-comes, members-end, members-stop, member-seen, members-seen-end, members-seen-stop}
use Rattle.simd_json_ondemand.proofs.object.Object.step.Goals as goal

pub returns-in-Ok-Some-clause-steps : goal.returns-in-Ok-Some-clause-steps
returns-in-Ok-Some-clause-steps c =
    let o = c.args.self.now in
    let b = o.document.input.now in
    let is = o.document.indexes.now in
    let at = c.in-Ok-Some.at in
    let at-least : (2 ≤ at) × (at < length is) =
    subst (λ o. IfSome o (λ k. (2 ≤ k) × (k < length is))) c.in-Ok-Some.field-0-is c.in-Ok-Some.ensures.bound in
    let there : at - 2 + 2 ≡ at = (let two = at-least.0 in omega arith) in
    member-comes b o.position (drop o.at is) (drop (at - 2) is)
    (sym c.in-Ok-Some.ensures.member ∙ ap (λ o. Ok (option_map (λ k. drop (k - 2) is) o)) c.in-Ok-Some.field-0-is)
    ∙ ap (λ js. came (read_along b (drop (at - 2) is), read_along b js) (members_walk b AtValue js))
    (drop-drop 2 (at - 2) is ∙ ap (λ k. drop k is) there)

pub returns-in-Ok-Some-clause-sites : goal.returns-in-Ok-Some-clause-sites
returns-in-Ok-Some-clause-sites c =
    let o = c.args.self.now in
    let b = o.document.input.now in
    let is = o.document.indexes.now in
    let at = c.in-Ok-Some.at in
    let at-least : (2 ≤ at) × (at < length is) =
    subst (λ o. IfSome o (λ k. (2 ≤ k) × (k < length is))) c.in-Ok-Some.field-0-is c.in-Ok-Some.ensures.bound in
    let there : at - 2 + 2 ≡ at = (let two = at-least.0 in omega arith) in
    member-seen b (pair_sites b) o.position (drop o.at is) (drop (at - 2) is)
    (sym c.in-Ok-Some.ensures.member ∙ ap (λ o. Ok (option_map (λ k. drop (k - 2) is) o)) c.in-Ok-Some.field-0-is)
    ∙ ap (λ js. came ((b, drop (at - 2) is), (b, js)) (members_seen (pair_sites b) b AtValue js))
    (drop-drop 2 (at - 2) is ∙ ap (λ k. drop k is) there)

pub returns-in-Ok-None-clause-sites : goal.returns-in-Ok-None-clause-sites
returns-in-Ok-None-clause-sites c =
    let o = c.args.self.now in
    let b = o.document.input.now in
    let is = o.document.indexes.now in
    members-seen-end b (pair_sites b) o.position (drop o.at is)
    (sym c.in-Ok-None.ensures.member ∙ ap (λ o. Ok (option_map (λ k. drop (k - 2) is) o)) c.in-Ok-None.field-0-is)

pub returns-in-Err-clause-sites : goal.returns-in-Err-clause-sites
returns-in-Err-clause-sites c =
    let o = c.args.self.now in
    let b = o.document.input.now in
    members-seen-stop b (pair_sites b) o.position (drop o.at o.document.indexes.now) (error_at c.in-Err.stop) (sym c.in-Err.ensures.member)

pub returns-in-Ok-None-clause-steps : goal.returns-in-Ok-None-clause-steps
returns-in-Ok-None-clause-steps c =
    let o = c.args.self.now in
    let is = o.document.indexes.now in (
      members-end o.document.input.now o.position (drop o.at is)
          (sym c.in-Ok-None.ensures.member ∙ ap (λ o. Ok (option_map (λ k. drop (k - 2) is) o)) c.in-Ok-None.field-0-is),
      refl,
    )

pub returns-in-Err-clause-steps : goal.returns-in-Err-clause-steps
returns-in-Err-clause-steps c =
    let o = c.args.self.now in
    let stop = error_at c.in-Err.stop in
    (members-stop o.document.input.now o.position (drop o.at o.document.indexes.now) stop (sym c.in-Err.ensures.member), refl)

pub returns-in-Ok-Some-clause-inside : goal.returns-in-Ok-Some-clause-inside
returns-in-Ok-Some-clause-inside c = λ v h.
    let o = c.args.self.now in
    let is = o.document.indexes.now in
    let at = c.in-Ok-Some.at in
    let at-least : (2 ≤ at) × (at < length is) =
    subst (λ o. IfSome o (λ k. (2 ≤ k) × (k < length is))) c.in-Ok-Some.field-0-is c.in-Ok-Some.ensures.bound in
    let there : at - 2 + 2 ≡ at = (let two = at-least.0 in omega arith) in
    let place = subst (λ p. IfSome p (λ k. IsItemAt 125 o.document o.at o.position (k - 2))) c.in-Ok-Some.field-0-is
    c.in-Ok-Some.ensures.place in
    let stays = subst (StaysInObject o.document o.at o.position) there
    (stays-in-object o.document o.at o.inside o.position (at - 2) place) h.left h.here in
    record { left = stays.0.0; here = stays.0.1; ends = stays.1 ∙ h.ends; all = h.all; begins = h.begins; closes = h.closes }
