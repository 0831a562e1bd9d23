-- The promises of the program `sheet`: what it writes is one thing, for every input.
use Prim.Native.Nat.{ℕ, ◌≤◌}
use mathlib.Core.Path.{◌≡◌}
use mathlib.Core.Logic.{◌≢◌}
use mathlib.Core.List.{List}
use lib.ListN.{take}
use Rattle.written.specs.declared.Written.{Written}
use Rattle.written.specs.Written.{Out, taken, OUT-ROOM}
use Rattle.book.specs.Form.{DONE}
use Rattle.compiler.specs.declared.Compiled.{Compiled}
use Rattle.compiler.specs.Compiles.{Compiles}
use Rattle.making.specs.Makes.{Makes, Places}
use Rattle.listed.specs.Listing.{longest_book, plan_room}
use Rattle.shown.specs.Shown.{input_room, Shows, Answers}
use Rattle.shown.specs.Worked.{Each, table}
use Rattle.shown.proofs.Laws.{made_named, node_below}
use Rattle.shown.proofs.Placed.{node_placed}
use Rattle.shown.proofs.Unique.{shows_some, shows_unique, shows_front, book_fits}
use Rattle.shown.proofs.Buffers.{answers_unique}
use Rattle.shown.proofs.Worked.{sheet_worked}

-- every input has an output, and one only
pub sheet_writes : (input : List ℕ) → (bytes : List ℕ) × Shows input bytes
sheet_writes input = shows_some input

pub sheet_writes_once : {input bytes bytes' : List ℕ} → Shows input bytes → Shows input bytes' → bytes ≡ bytes'
sheet_writes_once one other = shows_unique one other

-- the first 65,537 bytes of an input decide what is written
pub sheet_front : (room : ℕ) (input : List ℕ) {bytes : List ℕ} → input_room ≤ room → Shows (take room input) bytes → Shows input bytes
sheet_front room input enough shows = shows_front room input enough shows

-- what `show` answers, and the output after it, byte by byte, are determined
pub sheet_answers_once : (buffer : List ℕ) (size : ℕ) (out book plan : List ℕ) {after after' : List ℕ} {count count' : ℕ}
    → Answers buffer size out book plan after count → Answers buffer size out book plan after' count'
    → (count ≡ count') × (after ≡ after')
sheet_answers_once buffer size out book plan one other = answers_unique buffer size out book plan one other

-- its book buffer holds every book that a sheet makes: 21 never shows
pub sheet_room : {sheet : List ℕ} {o : Out} → Makes sheet longest_book o → o.answer.number ≢ OUT-ROOM
sheet_room makes = book_fits makes

-- the place of the node that the compiler names is told: asking for it never fails
pub sheet_place_told : (sheet : List ℕ) {o : Out} {a : Compiled} {plan : List ℕ} {from : Written}
    → Makes sheet longest_book o → o.answer.number ≡ DONE → Compiles (taken o) plan_room a plan → Places sheet a.place from
    → from.number ≡ DONE
sheet_place_told sheet makes is compiled placed =
    node_placed sheet makes is placed (node_below (made_named sheet makes is).form compiled)

-- the worked lines hold
pub sheet_table : Each table
sheet_table = sheet_worked
