-- An input that is cut into lines as it is read.
use Rattle.std.proofs.Common.{◌≡◌, ◌∙◌, refl, ap, sym, subst, ℕ, List, [], ◌∷◌, ◌++◌, append_assoc, append-nil, Bool, true, false, not}
use Rattle.std.proofs.Common.{◌≢◌, cond, ◌&&◌, ◌==◌, ◌<◌, ◌≤◌, ◌+◌, arith, zero, suc, length, take, drop, Some, None}
use Rattle.std.proofs.Math.Seq.{take-length}
use Rattle.std.proofs.lemmas.List.{drop-drop, length-drop, length-take}
use Rattle.std.specs.Prelude.{slice_index}
use Rattle.memchr.specs.Find.{IsFirstByte, is_byte}
use Rattle.simd_json_parts.proofs.Pieces.{is-equal, none-before, pieces-cut, pieces-last}
use Rattle.simd_json_parts.specs.Bytes.{line_feed}
use Rattle.simd_json_parts.specs.Pieces.{pieces}
use Rattle.programs.specs.Lines.{Cut, HasCut, begun_of, has_no_feed, kept}
use Rattle.programs.proofs.Kept.{none-kept}

and-append : (p q r : Bool) → (p && q) ≡ true → (q ≡ true → r ≡ true) → (p && r) ≡ true
and-append true q r is more = more is
and-append false q r is more = is

no-feed-more : (p q : List ℕ) → has_no_feed p ≡ true → has_no_feed q ≡ true → has_no_feed (p ++ q) ≡ true
no-feed-more [] q none more = more
no-feed-more (y ∷ p) q none more =
    and-append (not (y == line_feed)) (has_no_feed p) (has_no_feed (p ++ q)) none (λ rest. no-feed-more p q rest more)

split-at : (hay : List ℕ) (k : ℕ) → k < length hay → hay ≡ take k hay ++ slice_index hay k ∷ drop (suc k) hay
split-at [] k l = absurd (omega (arith, l))
split-at (x ∷ hay) zero l = refl
split-at (x ∷ hay) (suc k) l = ap (λ ys. x ∷ ys) (split-at hay k (omega (arith, l)))

-- what a search for a line feed says, of what is left after another place
pub found-feed : (hay : List ℕ) (k start : ℕ) (all : List ℕ) → hay ≡ drop start all → IsFirstByte (is_byte line_feed) hay (Some k)
    → (hay ≡ take k hay ++ line_feed ∷ drop (start + (k + 1)) all) × (has_no_feed (take k hay) ≡ true)
found-feed hay k start all is found =
    let next : suc k ≡ k + 1 = omega arith in
    let rest : drop (suc k) hay ≡ drop (start + (k + 1)) all =
    ap (λ n. drop n hay) next ∙ ap (drop (k + 1)) is ∙ drop-drop (k + 1) start all in (
      split-at hay k found.0.high ∙ ap (λ x. take k hay ++ x ∷ drop (suc k) hay) (is-equal (slice_index hay k) found.1)
          ∙ ap (λ us. take k hay ++ line_feed ∷ us) rest,
      none-before hay k found.0.before,
    )

pub found-none : (hay : List ℕ) → IsFirstByte (is_byte line_feed) hay None → has_no_feed hay ≡ true
found-none hay none = ap has_no_feed (sym (take-length hay)) ∙ none-before hay (length hay) none

-- so many bytes are left of what was read
pub some-left : (start end : ℕ) (block : List ℕ) → start < end → end ≤ length block → drop start (take end block) ≢ []
some-left start end block less fits = λ none.
    absurd (omega (arith, less, fits, ap length none, length-drop start (take end block), length-take end block))

-- nothing is read yet
pub none-cut : (longest : ℕ) (line : List ℕ) → HasCut (record { longest = longest; has_ended = true; unread = [] }) line [] []
none-cut longest line = record { begun = []; none = refl; cut = λ more. refl; keeps = none-kept longest }

-- the lines that have ended are the first, whatever follows
pub cut-first : (c : Cut) (line input : List ℕ) (done : List (List ℕ)) (more : List ℕ) → HasCut c line input done
    → (rest : List (List ℕ)) × (pieces (input ++ more) ≡ done ++ rest)
cut-first c line input done more h = (pieces (h.begun ++ (c.unread ++ more)), h.cut more)

-- all but the last, where all that was read is taken
pub cut-last : (c : Cut) (line input : List ℕ) (done : List (List ℕ)) → c.unread ≡ [] → (h : HasCut c line input done)
    → pieces input ≡ done ++ h.begun ∷ []
cut-last c line input done none h =
    ap pieces (sym (append-nil input)) ∙ h.cut [] ∙ ap (λ u. done ++ pieces (h.begun ++ (u ++ []))) none
    ∙ ap (λ u. done ++ pieces u) (append-nil h.begun) ∙ ap (λ ps. done ++ ps) (pieces-last h.begun h.none)

-- a line that has ended is let go
pub cut-begun : (c d : Cut) (line lines input : List ℕ) (done : List (List ℕ)) → d ≡ record c { has_ended = false }
    → lines ≡ begun_of c line → HasCut c line input done → HasCut d lines input done
cut-begun c d line lines input done same is h = subst (λ d. HasCut d lines input done) (sym same)
    (record { begun = h.begun; none = h.none; cut = h.cut; keeps = is ∙ h.keeps })

-- what is kept of a line that has not ended
pub keeps-line : (c : Cut) (line input : List ℕ) (done : List (List ℕ)) → c.has_ended ≡ false → (h : HasCut c line input done)
    → line ≡ kept c.longest h.begun
keeps-line c line input done unended h = ap (λ b. cond {A = List ℕ} b [] line) (sym unended) ∙ h.keeps

-- some bytes more are read
pub cut-filled : (c d : Cut) (line input more : List ℕ) (done : List (List ℕ)) → d ≡ record c { unread = c.unread ++ more }
    → HasCut c line input done → HasCut d line (input ++ more) done
cut-filled c d line input more done same h = subst (λ d. HasCut d line (input ++ more) done) (sym same) (record {
  begun = h.begun;
  none = h.none;
  cut = λ rest.
      ap pieces (append_assoc input more rest) ∙ h.cut (more ++ rest)
      ∙ ap (λ u. done ++ pieces (h.begun ++ u)) (sym (append_assoc c.unread more rest));
  keeps = h.keeps;
})

-- no byte is read
pub unfilled : (c d : Cut) (more : List ℕ) → d ≡ record c { unread = c.unread ++ more } → d.unread ≡ [] → more ≡ [] → c.unread ≡ []
unfilled c d more same none no_more =
    sym (append-nil c.unread) ∙ ap (λ u. c.unread ++ u) (sym no_more) ∙ ap (λ (v : Cut). v.unread) (sym same) ∙ none

-- some bytes are left of what was read
pub some-filled : (c b d : Cut) (more : List ℕ) → b ≡ record c { has_ended = false } → d ≡ record b { unread = b.unread ++ more }
    → d.unread ≢ [] → c.unread ++ more ≢ []
some-filled c b d more begun same some = λ none. some
    (ap (λ (v : Cut). v.unread) same ∙ ap (λ (v : Cut). v.unread ++ more) begun ∙ none)

-- a line has ended
pub cut-ended : (c d : Cut) (line lines input front : List ℕ) (done : List (List ℕ)) → has_no_feed front ≡ true
    → c.unread ≡ front ++ line_feed ∷ d.unread → d ≡ record c { has_ended = true; unread = d.unread } → (h : HasCut c line input done)
    → HasCut d lines input (done ++ (h.begun ++ front) ∷ [])
cut-ended c d line lines input front done none is same h =
    subst (λ d. HasCut d lines input (done ++ (h.begun ++ front) ∷ [])) (sym same) (record {
      begun = [];
      none = refl;
      cut = λ more.
          let whole = h.begun ++ front in
          h.cut more ∙ ap (λ u. done ++ pieces (h.begun ++ (u ++ more))) is
          ∙ ap (λ u. done ++ pieces (h.begun ++ u)) (append_assoc front (line_feed ∷ d.unread) more)
          ∙ ap (λ u. done ++ pieces u) (sym (append_assoc h.begun front (line_feed ∷ (d.unread ++ more))))
          ∙ ap (λ ps. done ++ ps) (pieces-cut whole (d.unread ++ more) (no-feed-more h.begun front h.none none))
          ∙ sym (append_assoc done (whole ∷ []) (pieces (d.unread ++ more)));
      keeps = none-kept c.longest;
    })

-- all that was read is taken
pub cut-taken : (c d : Cut) (line lines input front : List ℕ) (done : List (List ℕ)) → has_no_feed front ≡ true
    → (c.unread ≡ front) × (d.unread ≡ []) → d ≡ record c { has_ended = false; unread = d.unread } → (h : HasCut c line input done)
    → lines ≡ kept c.longest (h.begun ++ front) → HasCut d lines input done
cut-taken c d line lines input front done none is same h keeps = subst (λ d. HasCut d lines input done) (sym same) (record {
  begun = h.begun ++ front;
  none = no-feed-more h.begun front h.none none;
  cut = λ more.
      h.cut more ∙ ap (λ u. done ++ pieces (h.begun ++ (u ++ more))) is.0
      ∙ ap (λ u. done ++ pieces u) (sym (append_assoc h.begun front more))
      ∙ ap (λ u. done ++ pieces ((h.begun ++ front) ++ (u ++ more))) (sym is.1);
  keeps = keeps;
})
