-- How long the words are that tell what is due.
use Prim.Native.Nat.{ℕ, ◌+◌, ◌≤◌}
use native.Mathlib.Omega.{arith}
use mathlib.Core.Bool.{Bool, true, false, cond}
use mathlib.Core.List.{List, []}
use lib.Dec.{ltb, eqb}
use lib.ListN.{length, length-append}
use Rattle.lines.specs.Text.{text}
use Rattle.stands.specs.declared.Stand.{Stand}
use Rattle.stands.specs.declared.Stand.TheVariants.{NameDue, InName, EqualsDue, Due, InWord, After, Done}
use Rattle.stands.specs.Stands.{due_behind, due_in_name, due_text}

-- one of two by a test
pub either_short : (t : Bool) (xs ys : List ℕ) → length (cond t xs ys) ≤ length xs + length ys
either_short true xs ys = omega arith
either_short false xs ys = omega arith

behind_short : (opens : ℕ) (star : Bool) → length (due_behind opens star) ≤ 40
unfolding due_behind
behind_short opens star =
    simp length-append
    (omega (
      arith,
      either_short (ltb opens 32) (text "`(`, ") [],
      either_short star (text "`*`, ") [],
      either_short (eqb opens 0) (text "`;` is due") (text "`)` is due"),
    ))

name_short : (size kept : ℕ) → length (due_in_name size kept) ≤ 80
unfolding due_in_name
name_short size kept =
    let other = cond (ltb size 16) (text "a letter or `=` is due") (text "a blank or `=` is due") in
    omega (
      arith,
      either_short (eqb kept 5) (text "a letter is due") other,
      either_short (ltb size 16) (text "a letter or `=` is due") (text "a blank or `=` is due"),
    )

pub due_short : (stand : Stand) → length (due_text stand) ≤ 80
unfolding due_text
due_short NameDue = omega arith
due_short (InName size kept) = name_short size kept
due_short EqualsDue = omega arith
due_short (Due opens) = omega (arith, either_short (ltb opens 32) (text "a word, `empty` or `(` is due") (text "a word or `empty` is due"))
due_short (InWord opens size) =
    simp length-append
    (omega (arith, either_short (ltb size 16) (text "a letter, ") (text "a blank, "), behind_short opens true))
due_short (After opens) = simp length-append (omega (arith, behind_short opens true))
due_short (Done opens) = simp length-append (omega (arith, behind_short opens false))
