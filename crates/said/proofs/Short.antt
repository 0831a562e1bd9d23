-- How long the lines are that the compiler's answer takes.
use Prim.Native.Nat.{ℕ, ◌+◌, ◌≤◌, ◌<◌, ◌^◌}
use native.Mathlib.Omega.{arith}
use mathlib.Core.Path.{◌≡◌, refl}
use mathlib.Core.Bool.{Bool, true, false, ◌&&◌, not, cond}
use mathlib.Core.List.{List, []}
use lib.Dec.{eqb}
use lib.ListN.{length, length-append}
use Rattle.kinds.specs.Kinds.{has?}
use Rattle.book.specs.Form.{DONE, book_of}
use Rattle.verdict.specs.Judges.{CONFLICT}
use Rattle.lines.specs.Text.{text}
use Rattle.prints.proofs.Digits.{spaced_at_most}
use Rattle.prints.proofs.Lists.{lists_short}
use Rattle.marks.proofs.Short.{place_short, mark_short}
use Rattle.told.specs.Told.{NamedBook, name_text}
use Rattle.told.proofs.Laws.{name_short}
use Rattle.book.proofs.Decoded.{formed, well_formed}
use Rattle.compiler.specs.declared.Compiled.{Compiled}
use Rattle.said.specs.Said.{passes_line, where_text, clash_name, clash_names, clash_text, more_text, refused_lines, said_lines, said_room}

-- bytes by a test
by_test : (t : Bool) (xs : List ℕ) → length (cond t xs []) ≤ length xs
by_test true xs = omega arith
by_test false xs = omega arith

-- numbers of 32 bits
pub record Small (answer : Compiled) : Type 0 where
  pub number : answer.number < 2 ^ 32
  pub place : answer.place < 2 ^ 32
  pub size : answer.size < 2 ^ 32

module _ {bytes : List ℕ} (b : NamedBook bytes) where
  names_short : (clash : ℕ) → length (clash_names bytes clash) ≤ 1088
  unfolding clash_names
  names_short clash =
      let few = (well_formed (formed bytes b.form)).few_kinds in
      let each : (m : ℕ) → m < 0 + (book_of bytes).kinds → length (clash_name bytes clash m) ≤ 17 =
      λ m below. omega (arith, by_test (has? clash m) (name_text bytes m), name_short b m (omega arith)) in
      omega (arith, few, lists_short (clash_name bytes clash) 17 (book_of bytes).kinds 0 each)

  clash_short : (both : Bool) (clash : ℕ) → length (clash_text bytes both clash) ≤ 1118
  unfolding clash_text
  clash_short both clash =
      simp length-append
      (omega (
        arith,
        by_test both (text " both sides can take nothing"),
        by_test (both && not (eqb clash 0)) (text ","),
        names_short clash,
      ))

  more_short : (answer : Compiled) → length (more_text bytes answer) ≤ 1118
  more_short answer =
      omega (
        arith,
        by_test (eqb answer.number CONFLICT) (clash_text bytes (eqb answer.both 1) answer.clash),
        clash_short (eqb answer.both 1) answer.clash,
      )

  module _ (sheet : List ℕ) (answer : Compiled) (place : ℕ) (few : length sheet ≤ 65536) (small : Small answer) where
    where_short : length (where_text sheet answer place) ≤ 78
    unfolding where_text
    where_short =
        simp length-append
        (omega (
          arith,
          spaced_at_most answer.number (omega (arith, small.number)),
          spaced_at_most answer.place (omega (arith, small.place)),
          place_short sheet place few,
        ))

    refused_short : length (refused_lines bytes sheet answer place) ≤ said_room (length sheet)
    unfolding refused_lines
    refused_short = simp length-append (omega (arith, where_short, more_short answer, mark_short sheet place))

    pub said_short : length (said_lines bytes sheet answer place) ≤ said_room (length sheet)
    unfolding said_lines passes_line
    said_short = go (eqb answer.number DONE) refl
      where
        go : (done : Bool) → eqb answer.number DONE ≡ done → length (said_lines bytes sheet answer place) ≤ said_room (length sheet)
        go true e = rw e (simp length-append (omega (arith, spaced_at_most answer.size (omega (arith, small.size)))))
        go false e = rw e refused_short
