-- The worked lines hold.
use mathlib.Core.Path.{refl}
use Rattle.sheets.specs.Text.{letter, blank, same}
use Rattle.syntax.specs.Machine.{joined, with_factor, chosen, closed_by, word_of, opened, closes, ends, begins, follows, may_star, within, after_name, step}
use Rattle.prints.specs.Digits.{digits_by, digits_of, spaced}
use Rattle.marks.specs.Marks.{behind, position_of, before_of, place_text, to_feed, line_text, mark_lines}
use Rattle.stands.specs.Stands.{staying, stood, kept_from, stand_in, stand_of, due_behind, due_in_name, due_text}
use Rattle.said.specs.Said.{passes_line, where_text, refused_lines, said_lines}
use Rattle.shown.specs.Shown.{reason_text, where_placed, refusal_line}
use Rattle.shown.specs.Worked.{Each, no_more, and, table}

pub sheet_worked : Each table
unfolding table letter blank same joined with_factor chosen closed_by word_of opened closes ends begins follows may_star within
    after_name step digits_by digits_of spaced behind position_of before_of place_text to_feed line_text mark_lines
    staying stood kept_from stand_in stand_of due_behind due_in_name due_text passes_line where_text refused_lines said_lines
    reason_text where_placed refusal_line
sheet_worked =
    and refl (and refl (and refl (and refl (and refl (and refl (and refl (and refl (and refl (and refl no_more)))))))))
