-- The place that is told of a node of a sheet's book is the node's: asking for it never fails.
use Prim.Native.Nat.{ℕ, ◌<◌}
use mathlib.Core.Path.{◌≡◌, refl, sym, ap, ◌∙◌}
use mathlib.Core.List.{List, ◌∷◌}
use borrow.Author.Tests.{lt-ltb}
use Rattle.written.specs.declared.Written.{Written}
use Rattle.written.specs.Written.{Out, written, refused_with, taken}
use Rattle.book.specs.Form.{DONE, book_of}
use Rattle.sheets.specs.Nodes.{sizes, sheet_book}
use Rattle.making.specs.Makes.{judged, made_of, Makes, place_of, Places}
use Rattle.making.specs.Made.{BookMade}
use Rattle.making.specs.Settled.{Pass}
use Rattle.making.proofs.Answering.{refused_so, passed_answers, never_done}
use Rattle.making.proofs.Promise.{makes_once, places_once, book_made, Judged, is_refused, passes, judge}
use Rattle.listed.specs.Listing.{longest_book}

module _ (sheet : List ℕ) {o : Out} (makes : Makes sheet longest_book o) (is : o.answer.number ≡ DONE) where
  -- a sheet whose book is made passes
  passed : (made : BookMade sheet longest_book o) → Pass (made.first ∷ made.further)
  passed made = go (judge (made.first ∷ made.further))
    where
      refuse : ℕ → ℕ → Out
      refuse number place = refused_with number place longest_book

      go : Judged (made.first ∷ made.further) → Pass (made.first ∷ made.further)
      go (passes pass) = pass
      go (is_refused why) =
          let refused = refused_so refuse (made_of longest_book made.first made.further) why in
          let same = makes_once sheet longest_book makes (judged made.sheet) ∙ refused in
          absurd (never_done why (sym (ap (λ (o : Out). o.answer.number) same) ∙ is))

  pub node_placed : {n : ℕ} {from : Written} → Places sheet n from → n < (book_of (taken o)).count → from.number ≡ DONE
  unfolding sheet_book
  node_placed {n} placed below =
      let made = book_made sheet longest_book makes is in
      let few : n < sizes (made.first ∷ made.further) = rw made.book.book_is at below in
      let there = passed_answers (λ number place. written number 0 place) sheet (place_of n) made.sheet (passed made) in
      rw (places_once sheet n placed there, lt-ltb n (sizes (made.first ∷ made.further)) few) refl
