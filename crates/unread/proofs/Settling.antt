-- The answer by what a tree comes to: too long, no room, or its run.
use Prim.Native.Nat.{ℕ, ◌≤◌, ◌<◌}
use native.Mathlib.Omega.{arith}
use mathlib.Core.Path.{◌≡◌, refl, sym, ◌∙◌, subst}
use mathlib.Core.List.{List}
use lib.ListN.{length}
use borrow.Author.Tests.{lt-ltb, le-ltb}
use Rattle.words.specs.Words.{zeros}
use Rattle.words.proofs.Stored.{sets-zeros}
use Rattle.written.specs.Written.{written, Out, refused_with, with_zeros, handed_over, out}
use Rattle.book.specs.Book.{Book}
use Rattle.book.specs.Form.{DONE, book_of}
use Rattle.verdict.specs.Judges.{judgement, Judges}
use Rattle.trees.specs.Trees.{events, Wrong}
use Rattle.std.specs.Prelude.{Result, Ok, Err}
use Rattle.std.specs.Result.{MatchResult, IsErrAnd}
use Rattle.std.proofs.lemmas.Result.{err_from_is_err_and}
use Rattle.verdict.specs.declared.Refusal.{Refusal}
use Rattle.verdict.specs.Refusals.{verdict_by}
use Rattle.verdict.specs.Conflicts.{Leaves}
use Rattle.verdict.proofs.Answers.{refusal_number}
use Rattle.unread.specs.declared.UnreadError.{UnreadError}
use Rattle.unread.specs.declared.UnreadError.TheVariants.{Judged, NoTree}
use Rattle.unread.specs.Errors.{refused_by}
use Rattle.unread.specs.Unreads.{refused, RUN-LONG, RUN-ROOM, MOST-EVENTS, run_handed, Unreads, no_tree, a_tree, Read, Comes}

-- a run's ways out
module _ (xs : List ℕ) (room : ℕ) where
  pub handed_long : MOST-EVENTS < length xs → run_handed xs room ≡ refused_with RUN-LONG 0 room
  unfolding run_handed
  handed_long long = rw (lt-ltb MOST-EVENTS (length xs) long)

  module _ (few : length xs ≤ MOST-EVENTS) where
    pub handed_room : room < length xs → run_handed xs room ≡ refused_with RUN-ROOM 0 room
    unfolding run_handed
    handed_room short = rw (le-ltb MOST-EVENTS (length xs) few, lt-ltb room (length xs) short)

    pub handed_done : length xs ≤ room → run_handed xs room ≡ handed_over xs room
    unfolding run_handed
    handed_done fits = rw (le-ltb MOST-EVENTS (length xs) few, le-ltb room (length xs) fits)

-- what a tree of a book that passes comes to, with its events in a run that was clear
module _ {bytes records : List ℕ} (judges : Judges bytes (judgement DONE 0 0 0)) {room : ℕ} {after : List ℕ} {many : ℕ}
    (read : Read (book_of bytes) records (zeros room) many after) where
  by_run : {o : Out} → run_handed (events (book_of bytes).node records) room ≡ o → Unreads bytes records room o
  by_run is = subst (Unreads bytes records room) is (a_tree judges read.accepts)

  pub too_many : MOST-EVENTS < many → Unreads bytes records room (refused_with RUN-LONG 0 room)
  too_many long = by_run (handed_long _ room (omega (arith, long, read.counted)))

  module _ (few : many ≤ MOST-EVENTS) where
    pub no_room : room < many → Unreads bytes records room (refused_with RUN-ROOM 0 room)
    no_room short = by_run (handed_room _ room (omega (arith, few, read.counted)) (omega (arith, short, read.counted)))

    pub written_out : many ≤ room → Unreads bytes records room (out (written DONE many 0) after)
    written_out fits =
        let xs : List ℕ = events (book_of bytes).node records in
        let enough : length xs ≤ room = omega (arith, fits, read.counted) in
        let bytes_are : after ≡ with_zeros xs room = read.stand ∙ sets-zeros room xs enough in
        by_run (handed_done xs room (omega (arith, few, read.counted)) enough ∙ (λ i. out (written DONE (sym read.counted i) 0) (sym bytes_are i)))

-- what a refusal of the book comes to, and records that are no tree
pub book_refused : {bytes records table : List ℕ} {room : ℕ} (of : Refusal) → Leaves bytes (verdict_by of) table
    → Unreads bytes records room (refused_by (Judged of) room)
book_refused of left = refused left.judges (refusal_number of)

-- one that `?` hands on
pub handed_on : {A : Type 0} (Passed : A → Type 0) (Refused : UnreadError → Type 0) (answer : Result A UnreadError) (of : UnreadError)
    → IsErrAnd answer (λ x. x ≡ of) → Refused of → MatchResult answer Passed Refused
handed_on Passed Refused answer of is holds = let p = err_from_is_err_and answer is in rw (p.1, p.2) holds

-- records that are no tree, by what stands against them
abbrev NotTree : Book → List ℕ → UnreadError → Type 0
NotTree b records error = (place : ℕ) × (error ≡ NoTree place) × Wrong b records place

by_place : {bytes records : List ℕ} {room : ℕ} (error : UnreadError) → Judges bytes (judgement DONE 0 0 0) → NotTree (book_of bytes) records error
    → Unreads bytes records room (refused_by error room)
by_place error judges not = rw not.1 (no_tree judges not.2)

-- what reading a tree came to, with the place where it is wrong as what stands against it
mapped : (b : Book) (records before after : List ℕ) (result : Result ℕ ℕ) (answer : Result ℕ UnreadError)
    → MatchResult result (λ many. Read b records before many after) (λ place. Wrong b records place)
    → MatchResult result (λ many. answer ≡ Ok many) (λ place. IsErrAnd answer (λ x. x ≡ NoTree place))
    → MatchResult answer (λ many. Read b records before many after) (NotTree b records)
mapped b records before after (Ok many) answer told is = rw is told
mapped b records before after (Err place) answer told is =
    let p = err_from_is_err_and answer is in rw (p.1, p.2) (place, refl, told)

-- and so of a book that passes, with a clear run
module _ (bytes : List ℕ) (room : ℕ) {records before after : List ℕ} {result : Result ℕ ℕ} {answer : Result ℕ UnreadError}
    (clear : before ≡ zeros room) (comes : Comes (book_of bytes) records before result after)
    (is : MatchResult result (λ many. answer ≡ Ok many) (λ place. IsErrAnd answer (λ x. x ≡ NoTree place))) where
  pub tree_read : {many : ℕ} → answer ≡ Ok many → Read (book_of bytes) records (zeros room) many after
  tree_read {many} was =
      let read : Read (book_of bytes) records before many after = rw was at (mapped _ _ _ _ result answer comes.told is) in
      subst (λ xs. Read (book_of bytes) records xs many after) clear read

  pub not_tree : Judges bytes (judgement DONE 0 0 0) → {error : UnreadError} → answer ≡ Err error
      → Unreads bytes records room (refused_by error room)
  not_tree judges was = by_place _ judges (rw was at (mapped _ _ _ _ result answer comes.told is))
