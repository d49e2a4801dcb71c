use Rattle.std.proofs.Common.{◌≡◌, ◌∙◌, ◌+◌, ◌-◌, ◌∷◌, ◌++◌, ap, arith, sym, subst, false, true, drop, length, min, take}
use Rattle.std.proofs.Math.ListN.{drop_of_length-le}
use Rattle.std.proofs.Math.Seq.{take-length}
use Rattle.std.proofs.lemmas.List.{drop-take, length-take}
use Rattle.std.specs.Prelude.{unwrap_or}
use Rattle.simd_json_parts.specs.Bytes.{line_feed}
use Rattle.programs.specs.Lines.{Cut, has_no_feed}
use Rattle.programs.proofs.Cuts.{found-feed, found-none}
use Rattle.programs.proofs.Kept.{kept-more}
use Rattle.programs.proofs.lines.Lines.take.Goals as goal

pub returns : goal.returns
returns g c =
    let inside = c.self.inside in
    let all = take inside.end inside.block in
    let hay = take (inside.end - inside.start) (drop inside.start inside.block) in
    let count = c.in-Some.count in
    let whole : inside.start + (inside.end - inside.start) ≡ inside.end = omega (arith, c.self.invariant) in
    let is : hay ≡ drop inside.start all =
    sym (drop-take inside.start (inside.end - inside.start) inside.block) ∙ ap (λ n. drop inside.start (take n inside.block)) whole in
    let found = found-feed hay count inside.start all is c.in-Some.ensures in
    let unread = drop (inside.start + (count + 1)) all in
    let place : c.unwrap_or.result ≡ count = c.unwrap_or.ensures ∙ ap (λ f. unwrap_or f (length hay)) c.in-Some.is in
    let front = take c.unwrap_or.result hay in
    let same : take count hay ≡ front = ap (λ n. take n hay) (sym place) in
    let fewest : c.min.result ≡ min (length front) c.saturating_sub-room.result = c.min.ensures in
    let longest : inside.longest ≡ c.args.self.now.longest = ap (λ (v : Cut). v.longest) c.self.view_is in
    let least : c.min.result ≡ min (length front) (c.args.self.now.longest + 1 - length c.args.line.now.items) =
    omega (
      arith,
      fewest,
      longest,
      c.saturating_sub-room.ensures,
      c.saturating_add.ensures,
      c.len.ensures,
      c.self.invariant,
      length-take c.unwrap_or.result hay,
      length-take (inside.end - inside.start) (drop inside.start inside.block),
    ) in
    record {
      front = front;
      none = subst (λ us. has_no_feed us ≡ true) same found.1;
      taken = sym (ap (λ (v : Cut). v.unread) c.self.view_is) ∙ sym is ∙ found.0 ∙ ap (λ us. us ++ line_feed ∷ unread) same;
      same = ap (λ (v : Cut). record v { has_ended = true; unread = unread }) c.self.view_is;
      keeps = λ begun kept_is. c.in_ok-extend_from_slice.ensures.items
          ∙ kept-more c.args.self.now.longest c.min.result c.args.line.now.items begun front kept_is least;
    }

pub returns-in_default : goal.returns-in_default
returns-in_default g c =
    let inside = c.self.inside in
    let hay = take (inside.end - inside.start) (drop inside.start inside.block) in
    let none = found-none hay c.in_default.ensures in
    let whole : inside.start + (inside.end - inside.start) ≡ inside.end = omega (arith, c.self.invariant) in
    let is : hay ≡ drop inside.start (take inside.end inside.block) =
    sym (drop-take inside.start (inside.end - inside.start) inside.block) ∙ ap (λ n. drop inside.start (take n inside.block)) whole in
    let nothing = drop_of_length-le (take inside.end inside.block) {i = inside.end} (omega (arith, length-take inside.end inside.block)) in
    let front = take c.unwrap_or.result hay in
    let place : c.unwrap_or.result ≡ length hay = c.unwrap_or.ensures ∙ ap (λ f. unwrap_or f (length hay)) c.in_default.is in
    let same : hay ≡ front = sym (take-length hay) ∙ ap (λ n. take n hay) (sym place) in
    let fewest : c.min.result ≡ min (length front) c.saturating_sub-room.result = c.min.ensures in
    let longest : inside.longest ≡ c.args.self.now.longest = ap (λ (v : Cut). v.longest) c.self.view_is in
    let least : c.min.result ≡ min (length front) (c.args.self.now.longest + 1 - length c.args.line.now.items) =
    omega (
      arith,
      fewest,
      longest,
      c.saturating_sub-room.ensures,
      c.saturating_add.ensures,
      c.len.ensures,
      c.self.invariant,
      length-take c.unwrap_or.result hay,
      length-take (inside.end - inside.start) (drop inside.start inside.block),
    ) in
    record {
      front = front;
      none = subst (λ us. has_no_feed us ≡ true) same none;
      taken = (sym (ap (λ (v : Cut). v.unread) c.self.view_is) ∙ sym is ∙ same, nothing);
      same = ap (λ (v : Cut). record v { has_ended = false; unread = drop inside.end (take inside.end inside.block) }) c.self.view_is;
      keeps = λ begun kept_is. c.in_ok-extend_from_slice.ensures.items
          ∙ kept-more c.args.self.now.longest c.min.result c.args.line.now.items begun front kept_is least;
    }
