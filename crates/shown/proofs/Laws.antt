-- Laws of what is written for a sheet: where it goes wrong, that its book has names, and how long the lines are.
use Prim.Native.Nat.{ℕ, ◌≤◌, ◌<◌, ◌^◌}
use native.Mathlib.Omega.{arith}
use mathlib.Core.Path.{◌≡◌, refl, ap}
use mathlib.Core.Logic.{◌⊎◌, inl, inr}
use mathlib.Core.Bool.{◌||◌, cond}
use mathlib.Core.List.{List, [], ◌++◌}
use lib.Dec.{eqb}
use borrow.Author.Tests.{ne_eqb}
use mathlib.Core.Logic.{◌≢◌}
use lib.ListN.{length, take, length-append}
use Rattle.written.specs.Written.{Out, taken, OUT-ROOM}
use Rattle.book.specs.declared.Judged.{Judged}
use Rattle.book.specs.Form.{DONE, form_of, book_of}
use Rattle.book.proofs.Decoded.{formed, well_formed}
use Rattle.names.specs.Names.{NAMES}
use Rattle.rules.proofs.Bounds.{conflict_below}
use Rattle.verdict.specs.declared.Verdict.{Verdict}
use Rattle.verdict.specs.Judges.{UNUSED, Judges, malformed, unused, barren, conflict, passes}
use Rattle.sheets.specs.Made.{SHEET, TWICE, BIG, KINDLESS}
use Rattle.syntax.specs.Machine.{name_due, wrong, read_sheet}
use Rattle.syntax.proofs.Outcomes.{parts_wrong, lacks_wrong}
use Rattle.making.specs.Makes.{Makes}
use Rattle.making.specs.Made.{NoSheetAt}
use Rattle.making.proofs.Promise.{book_made, book-named, make_answers, sheet_refused_at}
use Rattle.compiler.specs.declared.Compiled.{Compiled}
use Rattle.compiler.specs.Compiles.{PLAN-ROOM, Compiles, refused, no_room, done}
use Rattle.compiler.proofs.Promise.{answer_listed, size-most}
use Rattle.lines.specs.Text.{text}
use Rattle.lines.specs.Lines.{Put}
use Rattle.prints.proofs.Digits.{spaced_at_most}
use Rattle.lines.proofs.Laws.{adds_whole, put-length, put-taken, put_rest}
use Rattle.listed.specs.Listing.{longest_book}
use Rattle.marks.specs.Marks.{place_text}
use Rattle.marks.proofs.Short.{place_short}
use Rattle.prints.specs.declared.Page.{Page}
use Rattle.prints.specs.Pages.{Added}
use Rattle.stands.specs.declared.Stand.TheVariants.{NameDue}
use Rattle.stands.specs.Stands.{stood, stand_of, due_text, advanced}
use Rattle.stands.proofs.Laws.{due_told}
use Rattle.stands.proofs.Short.{either_short, due_short}
use Rattle.told.specs.Told.{NamedBook}
use Rattle.told.proofs.Laws.{book_short}
use Rattle.said.proofs.Short.{Small, said_short}
use Rattle.shown.specs.Shown.{sheet_room, out_room, reason_text, where_placed, refusal_line, book_text, Shows, Wrong, AddedShow, Shown}

module _ (sheet : List ℕ) {o : Out} (makes : Makes sheet longest_book o) where
  -- a book that is made has names
  pub made_named : o.answer.number ≡ DONE → NamedBook (taken o)
  made_named is =
      record {
        form = ap (λ (j : Judged). j.number) (book_made sheet longest_book makes is).book.formed;
        names = book-named sheet longest_book makes is;
      }

  -- it is within its buffer
  pub made_within : o.answer.number ≡ DONE → o.answer.size ≤ longest_book
  made_within is = (book_made sheet longest_book makes is).fits

  -- its number is small
  pub made_small : o.answer.number < 2 ^ 64
  made_small = go (make_answers sheet longest_book makes).listed
    where
      go : (o.answer.number ≡ DONE) ⊎ ((o.answer.number ≡ OUT-ROOM) ⊎ ((SHEET ≤ o.answer.number) × (o.answer.number ≤ KINDLESS)))
          → o.answer.number < 2 ^ 64
      go (inl is) = omega arith
      go (inr (inl is)) = omega arith
      go (inr (inr (least, most))) = omega arith

  -- 26 has the place where the sheet goes wrong
  pub made_wrong : Wrong sheet o.answer.number o.answer.place
  made_wrong =
      record { at_place = λ is. go ((sheet_refused_at sheet longest_book makes o.answer.place).0 (is, refl)) }
    where
      go : NoSheetAt sheet o.answer.place → read_sheet sheet ≡ wrong o.answer.place
      go (inl parts) = parts_wrong sheet parts
      go (inr (lacks, here)) = rw here (lacks_wrong sheet lacks)

-- what is due behind the bytes before the place where a sheet goes wrong
pub added_due : {page end : Page} (sheet : List ℕ) (found : ℕ) {front : List ℕ}
    → front ≡ take found sheet
    → read_sheet sheet ≡ wrong found
    → Added page end (due_text (advanced front NameDue))
    → Added page end (due_text (stand_of (stood sheet (name_due []) 0)))
added_due sheet found is e p = rw (is, due_told sheet found e) at p

module _ {bytes : List ℕ} (form : (form_of bytes).number ≡ DONE) where
  -- the node that is judged is one of the book's
  judged_below : {v : Verdict} → Judges bytes v → v.place < (book_of bytes).count
  judged_below (malformed other) = absurd (other form)
  judged_below (unused _ below _ _) = below
  judged_below (barren _ _ _) = (well_formed (formed bytes form)).start_below
  judged_below (conflict {n = n} _ _ _ _ has _) = conflict_below (book_of bytes) (well_formed (formed bytes form)) n has
  judged_below (passes _ _ _ _) = (well_formed (formed bytes form)).some_node

  -- and so is the node that the compiler names
  pub node_below : {room : ℕ} {answer : Compiled} {plan : List ℕ} → Compiles bytes room answer plan → answer.place < (book_of bytes).count
  node_below (refused judges bad) = judged_below judges
  node_below (no_room _ _) = (well_formed (formed bytes form)).some_node
  node_below (done _ _ _) = (well_formed (formed bytes form)).some_node

  -- so the compiler's numbers are small
  pub small_answer : {room : ℕ} {answer : Compiled} {plan : List ℕ} → Compiles bytes room answer plan → Small answer
  small_answer {answer = answer} made =
      let few = (well_formed (formed bytes form)).few_nodes in
      record {
        number = listed (answer_listed made);
        place = omega (arith, node_below made);
        size = omega (arith, size-most made);
      }
    where
      listed : (answer.number ≤ PLAN-ROOM) ⊎ ((answer.number ≡ NAMES) ⊎ (answer.number ≡ UNUSED)) → answer.number < 2 ^ 32
      listed (inl few) = omega arith
      listed (inr (inl is)) = omega arith
      listed (inr (inr is)) = omega arith

-- of another refusal no reason is told
pub no_reason : (sheet : List ℕ) (number : ℕ) → number ≢ SHEET → number ≢ TWICE → number ≢ BIG → number ≢ KINDLESS
    → reason_text sheet number ≡ []
unfolding reason_text
no_reason sheet number a b c d = rw (ne_eqb number SHEET a, ne_eqb number TWICE b, ne_eqb number BIG c, ne_eqb number KINDLESS d)

-- an output into which what the program writes was put
pub put_shown : {sheet out end bytes : List ℕ} {last : ℕ} → Put out end 0 last bytes → Shows sheet bytes → Shown sheet out end last
put_shown {end = end} {last = last} p shows =
    let room : last ≤ length end = omega (arith, put-length p, p.within) in
    record { within = room; shows = rw (put-taken p) shows; rest = put_rest p }

-- an output over which a page was written from its start on
pub page_shown : {sheet out end : List ℕ} {last : ℕ} {before after : Page}
    → before.out.now ≡ out
    → before.at ≡ 0
    → end ≡ after.out.now
    → last ≡ after.at
    → out_room ≤ length out
    → AddedShow sheet before after
    → Shown sheet out end last
page_shown {before = before} was blank is long room a =
    put_shown (rw (is, long, ← was) (adds_whole (omega (arith, a.short, ap (λ (l : List ℕ). length l) was)) (rw blank at a.added.adds))) a.shows

-- ---- how long the lines are

reason_short : (sheet : List ℕ) (number : ℕ) → length (reason_text sheet number) ≤ 160
unfolding reason_text
reason_short sheet number =
    let due = due_text (stand_of (stood sheet (name_due []) 0)) in
    let fourth = cond (eqb number KINDLESS) (text ": no event kind") [] in
    let third = cond (eqb number BIG) (text ": over 512 nodes or 64 kinds") fourth in
    let second = cond (eqb number TWICE) (text ": this name comes again") third in
    omega (
      arith,
      either_short (eqb number SHEET) (text ": " ++ due) second,
      either_short (eqb number TWICE) (text ": this name comes again") third,
      either_short (eqb number BIG) (text ": over 512 nodes or 64 kinds") fourth,
      either_short (eqb number KINDLESS) (text ": no event kind") [],
      due_short (stand_of (stood sheet (name_due []) 0)),
      length-append (text ": ") due,
    )

module _ (sheet : List ℕ) (few : length sheet ≤ sheet_room) where
  pub refusal_short : (number place : ℕ) → number < 2 ^ 64 → length (refusal_line sheet number place) ≤ out_room
  unfolding refusal_line where_placed
  refusal_short number place small =
      simp length-append
      (omega (
        arith,
        spaced_at_most number small,
        either_short (eqb number SHEET || eqb number TWICE) (place_text sheet place) [],
        place_short sheet place few,
        reason_short sheet number,
      ))

  pub text_short : {book : List ℕ} (answer : Compiled) (place : ℕ) → NamedBook book → Small answer
      → length (book_text sheet book answer place) ≤ out_room
  unfolding book_text
  text_short answer place named small =
      simp length-append (omega (arith, book_short named, said_short named sheet answer place few small))
