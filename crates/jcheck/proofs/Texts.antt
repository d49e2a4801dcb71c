-- The text around a place, as it is formatted.
use Rattle.std.proofs.Common.{◌≡◌, ◌∙◌, ap, ℕ, ◌-◌, ◌/◌, List, [], ◌∷◌, ◌++◌, take, drop, length, min, false}
use Rattle.std.proofs.Common.{append_assoc}
use Rattle.std.specs.List.{after_last, before_first, repeat}
use Rattle.std.specs.Str.{chars}
use Rattle.std.proofs.lemmas.List.{drop_min, take_min}
use Rattle.jcheck.specs.Excerpts.{caret, characters, end_text, excerpt, front_text, indent}
use Rattle.jcheck.specs.Excerpts.{line_from}
use Rattle.jcheck.specs.declared.excerpt.Style.{Style}
use Rattle.simd_json_check.specs.Locations.{is_line_feed, line_before}
use Rattle.simd_json_parts.specs.Bytes.{line_feed, space}
use Rattle.unicode_width.specs.Width.{str_width}

excerpt-laid-out : (end front spaces mark : List ℕ)
    → end ++ (front ++ (line_feed ∷ (spaces ++ (mark ++ (line_feed ∷ [])))))
    ≡ end ++ front ++ (line_feed ∷ []) ++ spaces ++ mark ++ (line_feed ∷ [])
excerpt-laid-out end front spaces mark = simp append_assoc

pub excerpt-is : (style : Style) (b : List ℕ) (i place count shift room columns : ℕ)
    (before after line rest end front spaces mark : List ℕ) → place ≡ min i (length b)
    → before ≡ take place b → after ≡ drop place b → line ≡ after_last is_line_feed before → rest ≡ before_first is_line_feed after
    → count ≡ characters line → shift ≡ min count (style.width / 2) → room ≡ style.width - shift
    → end ≡ end_text (style.width / 2) line → front ≡ front_text room rest → columns ≡ str_width false (chars end)
    → spaces ≡ repeat columns (space ∷ []) → mark ≡ caret style.is_colored
    → end ++ (front ++ (line_feed ∷ (spaces ++ (mark ++ (line_feed ∷ []))))) ≡ excerpt style b i
excerpt-is style b i place count shift room columns before after line rest end front spaces mark at is_before is_after is_line is_rest
    count_is shift_is room_is is_end is_front columns_is is_spaces is_mark =
    let width = style.width in
    let line_is : line ≡ line_before b i =
    is_line ∙ ap (after_last is_line_feed) (is_before ∙ ap (λ n. take n b) at ∙ take_min i b) in
    let rest_is : rest ≡ line_from b i =
    is_rest ∙ ap (before_first is_line_feed) (is_after ∙ ap (λ n. drop n b) at ∙ drop_min i b) in
    let shown : shift ≡ indent width b i = shift_is ∙ ap (λ n. min n (width / 2)) (count_is ∙ ap characters line_is) in
    let left : room ≡ width - indent width b i = room_is ∙ ap (λ n. width - n) shown in
    let feed = line_feed ∷ [] in
    let whole_end = end_text (width / 2) (line_before b i) in
    let end_is : end ≡ whole_end = is_end ∙ ap (end_text (width / 2)) line_is in
    let whole_front = front_text (width - indent width b i) (line_from b i) in
    let front_is : front ≡ whole_front = is_front ∙ ap (front_text room) rest_is ∙ ap (λ n. front_text n (line_from b i)) left in
    let whole_spaces = repeat (str_width false (chars whole_end)) (space ∷ []) in
    let spaces_is : spaces ≡ whole_spaces =
    is_spaces ∙ ap (λ n. repeat n (space ∷ [])) (columns_is ∙ ap (λ t. str_width false (chars t)) end_is) in
    excerpt-laid-out end front spaces mark
    ∙ ap (λ u. u ++ front ++ feed ++ spaces ++ mark ++ feed) end_is
    ∙ ap (λ u. whole_end ++ u ++ feed ++ spaces ++ mark ++ feed) front_is
    ∙ ap (λ u. whole_end ++ whole_front ++ feed ++ u ++ mark ++ feed) spaces_is
    ∙ ap (λ u. whole_end ++ whole_front ++ feed ++ whole_spaces ++ u ++ feed) is_mark
