-- The worked lines hold.
use mathlib.Core.Path.{refl}
use Rattle.words.specs.Words.{u16_at}
use Rattle.prints.specs.Digits.{digits_by, digits_of, spaced}
use Rattle.lines.specs.Lines.{record_text, record_line, record_lines, refused_words, refused_line, conflict_line, accepted_lines}
use Rattle.listed.specs.Listing.{book_size, shape_of, compiled_line, third_of, reading_lines, too_long, too_short}
use Rattle.listed.specs.Worked.{Each, no_more, and, table}

pub listing_worked : Each table
unfolding table u16_at book_size shape_of compiled_line third_of reading_lines
    digits_by digits_of spaced record_text record_line record_lines refused_words refused_line conflict_line accepted_lines
listing_worked =
    and (too_short refl)
    (and (too_short refl)
    (and (too_short refl)
    (and (too_long refl)
    (and refl (and refl (and refl (and refl (and refl (and refl (and refl (and refl
    (and refl (and refl (and refl (and refl (and refl (and refl (and refl (and refl
    no_more)))))))))))))))))))
