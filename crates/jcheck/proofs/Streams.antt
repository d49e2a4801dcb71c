-- The reports on the lines of a reader, as they are put one after another.
use Rattle.std.proofs.Common.{◌≡◌, ◌∙◌, refl, ap, sym, arith, ℕ, ◌+◌, ◌≤◌, List, [], ◌∷◌, ◌++◌, length, length-append, add-zero}
use Rattle.std.proofs.Common.{Bool, true, false, ◌&&◌, Option, None, Some, append_assoc, append-nil, codes, cond}
use Rattle.std.proofs.lemmas.Bool.{false≢true}
use Rattle.std.proofs.lemmas.List.Folds.{list_all-append}
use Rattle.std.specs.Io.KnownBytes.{Consumes}
use Rattle.std.specs.Fmt.{decimal}
use Rattle.std.specs.List.{list_all}
use Rattle.std.specs.Option.{option_map}
use Rattle.std.specs.Prelude.{is_some}
use Rattle.jcheck.specs.Failures.{IsShortOfMemory, is_of_output}
use Rattle.jcheck.specs.Excerpts.{excerpt}
use Rattle.jcheck.specs.Reports.{found_text, is_clean_line, line_text, lines_text, place_after, words}
use Rattle.jcheck.specs.Writings.{HasPutLines, HasPutSome, TakesLine}
use Rattle.jcheck.specs.declared.excerpt.Style.{Style}
use Rattle.jcheck.specs.declared.failure.Failure.{Failure}
use Rattle.jcheck.specs.declared.lines.LineReports.{LineReports}
use Rattle.programs.proofs.Kept.{kept-is}
use Rattle.programs.proofs.Reading
use Rattle.programs.proofs.Reading.{HasFirst, at-block, at-end, at-line, at-start, first-more, first-now}
use Rattle.programs.specs.Lines.{Cut, Moves, kept}
use Rattle.programs.specs.declared.lines.Event.TheVariants.{Line, Block, End}
use Rattle.simd_json_check.specs.Locations.{file_line}
use Rattle.simd_json_check.specs.Messages.{kind_words, location_text}
use Rattle.simd_json_check.specs.Openings.{opening_in}
use Rattle.simd_json_check.specs.Reasons.{found_in, location_in}
use Rattle.simd_json_check.specs.declared.location.Location.{Location}
use Rattle.simd_json_check.specs.declared.location.opening.Opening.{Opening}
use Rattle.simd_json_parts.specs.Bytes.{line_feed}
use Rattle.simd_json_parts.specs.Pieces.{is_blank, pieces}
use Rattle.simd_json_print.proofs.Texts.{adds-is, adds-lost, adds-none, adds-then}
use Rattle.simd_json_print.specs.Texts.{TargetState, Adds}
use Rattle.simd_json_print.specs.declared.text.Text.{Text}

-- how many bytes lines have, with a line feed after each
abbrev pub bytes_of : List (List ℕ) → ℕ
bytes_of [] = 0
bytes_of (line ∷ more) = length line + 1 + bytes_of more

bytes-last : (ps : List (List ℕ)) (p : List ℕ) → bytes_of (ps ++ p ∷ []) ≡ bytes_of ps + length p + 1
bytes-last [] p = omega arith
bytes-last (q ∷ ps) p = omega (arith, bytes-last ps p)

and-true : (b : Bool) → (b && true) ≡ b
and-true true = refl
and-true false = refl

-- all of a line is kept
kept-all : (longest : ℕ) (line last : List ℕ) → line ≡ kept longest last → length line ≤ longest → line ≡ last
kept-all longest line last is short =
    is ∙ kept-is (λ l. l) longest last (λ _ long. absurd (omega (arith, short, ap length is, long)))

-- ---- a place goes as far as 64 bits hold it, and what is printed of it does

line-held : (n l : ℕ) → file_line (place_after n 0) l ≡ file_line n l
line-held n l = omega arith

opening-held : (n : ℕ) (o : Option Opening) → option_map (opening_in (place_after n 0)) o ≡ option_map (opening_in n) o
opening-held n None = refl
opening-held n (Some o) = ap (λ l. Some (record { opened = o.opened; line = l; column = o.column })) (line-held n o.line)

location-held : (n : ℕ) (l : Location) → location_in (place_after n 0) l ≡ location_in n l
location-held n l =
    let with_line : ℕ → Option Opening → Location = λ line opening.
    record { error = l.error; byte = l.byte; line = line; column = l.column; reason = l.reason; opening = opening } in
    ap (λ k. with_line k (option_map (opening_in (place_after n 0)) l.opening)) (line-held n l.line)
    ∙ ap (with_line (file_line n l.line)) (opening-held n l.opening)

byte-held : (s b : ℕ) → place_after (place_after s 0) b ≡ place_after s b
byte-held s b = omega arith

words-held : (file : List ℕ) (n s : ℕ) (l : Location) → words file (place_after n 0) (place_after s 0) l ≡ words file n s l
words-held file n s l =
    ap (λ m. file ++ codes ":" ++ location_text m ++ codes " [" ++ kind_words l ++ codes " at byte "
    ++ decimal (place_after (place_after s 0) l.byte) ++ codes "]") (location-held n l)
    ∙ ap (λ k. file ++ codes ":" ++ location_text (location_in n l) ++ codes " [" ++ kind_words l ++ codes " at byte " ++ decimal k
    ++ codes "]") (byte-held s l.byte)

found-held : (file : List ℕ) (style : Style) (n s : ℕ) (checked : List ℕ) (found : Option Location)
    → found_text file style (place_after n 0) (place_after s 0) checked found ≡ found_text file style n s checked found
found-held file style n s checked None = refl
found-held file style n s checked (Some l) = ap (λ us. us ++ (line_feed ∷ []) ++ excerpt style checked l.byte) (words-held file n s l)

blank-or : (b : Bool) (t u : List ℕ) → t ≡ u → cond {A = List ℕ} b [] t ≡ cond {A = List ℕ} b [] u
blank-or b t u same = ap (λ v. cond {A = List ℕ} b [] v) same

line-text-held : (file : List ℕ) (style : Style) (limit n s : ℕ) (line : List ℕ)
    → line_text file style limit (place_after n 0) (place_after s 0) line ≡ line_text file style limit n s line
line-text-held file style limit n s line =
    blank-or (is_blank line) _ _ (found-held file style n s line (found_in line limit))

module _ (file : List ℕ) (style : Style) (limit : ℕ) where
  abbrev text_of : List (List ℕ) → List ℕ
  text_of lines = lines_text file style limit 1 0 lines

  lines-append : (number start : ℕ) (ps qs : List (List ℕ)) → lines_text file style limit number start (ps ++ qs)
      ≡ lines_text file style limit number start ps ++ lines_text file style limit (number + length ps) (start + bytes_of ps) qs
  lines-append number start [] qs =
      ap (λ n. lines_text file style limit n start qs) (sym (add-zero number))
      ∙ ap (λ s. lines_text file style limit (number + 0) s qs) (sym (add-zero start))
  lines-append number start (p ∷ ps) qs =
      let here = line_text file style limit number start p in
      let rest = lines_text file style limit (number + 1) (start + length p + 1) ps in
      let next : number + 1 + length ps ≡ number + length (p ∷ ps) = omega arith in
      let after : start + length p + 1 + bytes_of ps ≡ start + bytes_of (p ∷ ps) = omega arith in
      ap (λ us. here ++ us) (
      lines-append (number + 1) (start + length p + 1) ps qs
      ∙ ap (λ n. rest ++ lines_text file style limit n (start + length p + 1 + bytes_of ps) qs) next
      ∙ ap (λ s. rest ++ lines_text file style limit (number + length (p ∷ ps)) s qs) after
      )
      ∙ sym (append_assoc here rest (lines_text file style limit (number + length (p ∷ ps)) (start + bytes_of (p ∷ ps)) qs))

  text-last : (done : List (List ℕ)) (line : List ℕ) (number start : ℕ) → number ≡ place_after (1 + length done) 0
      → start ≡ place_after (bytes_of done) 0
      → text_of done ++ line_text file style limit number start line ≡ text_of (done ++ line ∷ [])
  text-last done line number start line_is byte_is =
      let place : place_after (bytes_of done) 0 ≡ place_after (0 + bytes_of done) 0 = omega arith in
      ap (λ n. text_of done ++ line_text file style limit n start line) line_is
      ∙ ap (λ s. text_of done ++ line_text file style limit (place_after (1 + length done) 0) s line) (byte_is ∙ place)
      ∙ ap (λ us. text_of done ++ us) (line-text-held file style limit (1 + length done) (0 + bytes_of done) line)
      ∙ ap (λ us. text_of done ++ us) (sym (append-nil (line_text file style limit (1 + length done) (0 + bytes_of done) line)))
      ∙ sym (lines-append 1 0 done (line ∷ []))

  module _ {T : Type 0} {size : ℕ} (state : T → TargetState) (old : Text T size) (longest : ℕ) (before : Option (List ℕ)) where
    -- these lines have ended, and the reports on them were put
    pub record AreDone (new : Text T size) (reports : LineReports) (lines : Cut) (line : List ℕ) (after : Option (List ℕ)) : Type 0 where
      pub done : List (List ℕ)
      pub at : Reading.IsAt longest lines line before after done
      pub put : Adds state old new (text_of done)
      pub line_is : reports.place.line ≡ place_after (1 + length done) 0
      pub byte_is : reports.place.byte ≡ place_after (bytes_of done) 0
      pub clean_is : reports.all_clean ≡ list_all (is_clean_line limit) done

    module _ {new : Text T size} {reports : LineReports} {c : Cut} {line : List ℕ} {left : Option (List ℕ)}
        (d : AreDone new reports c line left) where
      first-text : {after : Option (List ℕ)} (h : HasFirst before after d.done)
          → text_of d.done ++ lines_text file style limit (1 + length d.done) (0 + bytes_of d.done) h.rest ≡ text_of (pieces h.input)
      first-text h = sym (lines-append 1 0 d.done h.rest) ∙ ap text_of (sym h.all)

      -- the others are dropped, once the target failed
      pub others-lost : {unread : Bool} (clean : Bool) → is_some new.fault ≡ true → unread ≡ false
          → HasPutLines state old new file style limit before left unread clean
      others-lost clean lost sound =
          let h = first-now d.at in
          record {
            input = h.input;
            given = h.read;
            put = adds-is state old new _ _ (first-text h) (adds-lost state old new (text_of d.done) _ lost d.put);
            sound = sound;
            all = λ none. absurd (false≢true (sym none ∙ lost));
          }

      -- nothing more is put
      stopped-at : {next : Text T size} {after : Option (List ℕ)} {unread : Bool} {e : Failure} → HasFirst before after d.done
          → Adds state new next [] → is_of_output e ≡ false → (unread ≡ true → is_some next.fault ≡ false)
          → (unread ≡ false → IsShortOfMemory e) → HasPutSome state old next file style limit before after unread e
      stopped-at {next} h none is sound memory = record {
        input = h.input;
        given = h.read;
        put = record {
          part = text_of d.done;
          rest = lines_text file style limit (1 + length d.done) (0 + bytes_of d.done) h.rest;
          whole = first-text h;
          put = adds-is state old next _ _ (append-nil (text_of d.done)) (adds-then state old new next (text_of d.done) [] d.put none);
        };
        output = is;
        sound = sound;
        memory = memory;
      }

      pub reading-stopped : {after : Option (List ℕ)} {unread : Bool} {e : Failure} → ((more : List ℕ) × Consumes left after more)
          → (unread ≡ true → is_some new.fault ≡ false) → is_of_output e ≡ false → (unread ≡ false → IsShortOfMemory e)
          → HasPutSome state old new file style limit before after unread e
      reading-stopped more sound is memory = stopped-at (first-more d.at more) (adds-none state new) is sound memory

      module _ {next : Text T size} {lines : List ℕ} where
        pub block-done : {b : Cut} {after : Option (List ℕ)} → Moves c b line lines left after Block → Adds state new next [] → AreDone next reports b lines after
        block-done moves none = record {
          done = d.done;
          at = (at-block d.at moves).0;
          put = adds-is state old next _ _ (append-nil (text_of d.done)) (adds-then state old new next (text_of d.done) [] d.put none);
          line_is = d.line_is;
          byte_is = d.byte_is;
          clean_is = d.clean_is;
        }

        pub line-stopped : {b : Cut} {after : Option (List ℕ)} {unread : Bool} {e : Failure} → Moves c b line lines left after Line
            → Adds state new next [] → unread ≡ false → IsShortOfMemory e → HasPutSome state old next file style limit before after unread e
        line-stopped moves none sound memory =
            let go = at-line d.at moves in
            let h = first-now (go.2 []) in
            let all = h.all ∙ append_assoc d.done (go.0 ∷ []) h.rest in
            stopped-at (record { input = h.input; read = h.read; rest = go.0 ∷ h.rest; all = all }) none memory.0
            (λ is. absurd (false≢true (sym sound ∙ is))) (λ _. memory)

        pub end-stopped : (b : Cut) {after : Option (List ℕ)} {unread : Bool} {e : Failure} → Moves c b line lines left after End
            → Adds state new next [] → unread ≡ false → IsShortOfMemory e → HasPutSome state old next file style limit before after unread e
        end-stopped b moves none sound memory =
            let h = at-end b d.at moves in
            stopped-at (record { input = h.input; read = h.read; rest = h.last ∷ []; all = h.all }) none memory.0
            (λ is. absurd (false≢true (sym sound ∙ is))) (λ _. memory)

        -- one more line
        module _ {own : ℕ} {news : LineReports} (file_is : reports.place.file.now ≡ file) (style_is : reports.style ≡ style)
            (own_is : own ≡ limit) (short : length lines ≤ longest) (taken : TakesLine state new next own reports news lines) where
          line-put : (last : List ℕ) → lines ≡ kept longest last → Adds state old next (text_of (d.done ++ last ∷ []))
          line-put last keeps =
              let one = line_text reports.place.file.now reports.style own reports.place.line reports.place.byte lines in
              adds-is state old next (text_of d.done ++ one) (text_of (d.done ++ last ∷ []))
              (ap (λ f. text_of d.done ++ line_text f reports.style own reports.place.line reports.place.byte lines) file_is
              ∙ ap (λ s. text_of d.done ++ line_text file s own reports.place.line reports.place.byte lines) style_is
              ∙ ap (λ n. text_of d.done ++ line_text file style n reports.place.line reports.place.byte lines) own_is
              ∙ ap (λ u. text_of d.done ++ line_text file style limit reports.place.line reports.place.byte u)
              (kept-all longest lines last keeps short)
              ∙ text-last d.done last reports.place.line reports.place.byte d.line_is d.byte_is)
              (adds-then state old new next (text_of d.done) one d.put taken.put)

          line-clean : (last : List ℕ) → lines ≡ kept longest last → news.all_clean ≡ list_all (is_clean_line limit) (d.done ++ last ∷ [])
          line-clean last keeps =
              let p = is_clean_line limit in
              taken.clean_is ∙ ap (λ b. b && is_clean_line own lines) d.clean_is
              ∙ ap (λ n. list_all p d.done && is_clean_line n lines) own_is
              ∙ ap (λ u. list_all p d.done && p u) (kept-all longest lines last keeps short)
              ∙ ap (λ b. list_all p d.done && b) (sym (and-true (p last))) ∙ sym (list_all-append p d.done (last ∷ []))

          pub line-done : (any : List ℕ) {b : Cut} {after : Option (List ℕ)} → Moves c b line lines left after Line → AreDone next news b any after
          line-done any moves =
              let go = at-line d.at moves in
              record {
                done = d.done ++ go.0 ∷ [];
                at = go.2 any;
                put = line-put go.0 go.1;
                line_is = omega (arith, taken.line_is, d.line_is, length-append d.done (go.0 ∷ []));
                byte_is = omega (arith, taken.byte_is, d.byte_is, bytes-last d.done go.0, ap length (kept-all longest lines go.0 go.1 short));
                clean_is = line-clean go.0 go.1;
              }

          pub all-done : (b : Cut) {after : Option (List ℕ)} {unread : Bool} → Moves c b line lines left after End → unread ≡ false
              → HasPutLines state old next file style limit before after unread news.all_clean
          all-done b moves sound =
              let h = at-end b d.at moves in
              record {
                input = h.input;
                given = h.read;
                put = adds-is state old next _ _ (ap text_of (sym h.all)) (line-put h.last h.keeps);
                sound = sound;
                all = λ _. (h.end, line-clean h.last h.keeps ∙ ap (list_all (is_clean_line limit)) (sym h.all));
              }

    pub none-done : (reports : LineReports) (line : List ℕ) → reports.place.line ≡ 1 → reports.place.byte ≡ 0 → reports.all_clean ≡ true
        → AreDone old reports (record { longest = longest; has_ended = true; unread = [] }) line before
    none-done reports line first start clean = record {
      done = [];
      at = at-start longest line before;
      put = adds-none state old;
      line_is = omega (arith, first);
      byte_is = omega (arith, start);
      clean_is = clean;
    }
