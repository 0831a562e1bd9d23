-- Bytes of good form that decode to the same book are judged alike.
use Prim.Native.Nat.{ℕ}
use mathlib.Core.Path.{◌≡◌}
use mathlib.Core.List.{List}
use Rattle.book.specs.Form.{DONE, form_of, book_of}
use Rattle.verdict.specs.declared.Verdict.{Verdict}
use Rattle.verdict.specs.Judges.{Judges, malformed, unused, barren, conflict, passes}

pub judges_alike : (one other : List ℕ) → (form_of one).number ≡ DONE → (form_of other).number ≡ DONE → book_of one ≡ book_of other
    → {v : Verdict} → Judges one v → Judges other v
judges_alike one other form form' same (malformed bad) = absurd (bad form)
judges_alike one other form form' same (unused _ below reached not) =
    unused form' (rw same at below) (rw same at reached) (rw same at not)
judges_alike one other form form' same (barren _ reached none) = rw same (barren form' (rw same at reached) (rw same at none))
judges_alike one other form form' same (conflict _ reached fruitful below here told) =
    conflict form' (rw same at reached) (rw same at fruitful) (rw same at below) (rw same at here) (rw same at told)
judges_alike one other form form' same (passes _ reached fruitful none) =
    passes form' (rw same at reached) (rw same at fruitful) (rw same at none)
