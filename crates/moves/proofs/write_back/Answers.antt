-- `moves::write_back` meets its contract: the form's refusal, then the house list's, then 20, then the book without names.
use native.Mathlib.Omega.{arith}
use Rattle.words.proofs.Bytes.{below_each}
use mathlib.Core.Path.{◌≡◌, sym, ap, ◌∙◌}
use mathlib.Core.Bool.{not}
use mathlib.Core.List.{List, [], ◌∷◌}
use Prim.Native.Nat.{ℕ, ◌*◌}
use lib.ListN.{length}
use Rattle.names.specs.Names.{names_bytes}
use Rattle.written.specs.Written.{handed}
use Rattle.book.specs.Form.{DONE, form_of, book_of, book_names, names_at}
use Rattle.book.specs.declared.Judged.{Judged}
use Rattle.moves.specs.Moves.{back_of, laid_of, same_names, house_names}
use Rattle.moves.proofs.Laid.{names_within_book, plain_laid}
use Rattle.moves.proofs.Answers.{moved_on, moved_as, form_stands, none_stands, names_kept, names_same}
use Rattle.moves.proofs.SameNames.{others_told}
use Rattle.moves.proofs.write_back.Goals as goal
use Rattle.moves.proofs.write_back.Goals.{After-ne}

pub returns-in_err-book : goal.returns-in_err-book
unfolding back_of
returns-in_err-book c = moved_on _ _ _ _ (form_stands _ _ c.args.house.now _ _ _ c.in_err-book.ensures) c.from_residual.ensures

-- what the tests before have shown: the bytes are of good form, and what comes is what comparing the names says
done : (c : After-ne) → (form_of c.args.bytes.now).number ≡ DONE
done c = ap (λ (j : Judged). j.number) c.in_ok-book.ensures.2

differ : (c : After-ne) → let bytes = c.args.bytes.now in
    c.ne.result ≡ not (same_names (book_names bytes) (house_names c.args.house.now (book_of bytes).kinds))
differ c =
    let (is, own, form) = c.in_ok-book.ensures in
    others_told c.args.bytes.now (done c) own c.args.house.now (c.names_at.ensures ∙ ap names_at is)
    (c.first_names-others.ensures.0 ∙ ap (λ (b : List ℕ). names_bytes (house_names c.args.house.now (book_of b).kinds)) is) c.ne.ensures

pub slice_bounds-own-count : goal.slice_bounds-own-count
slice_bounds-own-count c =
    rw (c.names_at.ensures, c.in_ok-book.ensures.0) (names_within_book c.args.bytes.now (ap (λ (j : Judged). j.number) c.in_ok-book.ensures.2))

pub slice_bounds-own-start : goal.slice_bounds-own-start
slice_bounds-own-start c =
    rw (c.names_at.ensures, c.in_ok-book.ensures.0) (names_within_book c.args.bytes.now (ap (λ (j : Judged). j.number) c.in_ok-book.ensures.2))

pub returns-then-ne : goal.returns-then-ne
unfolding back_of
returns-then-ne c =
    let (is, own, form) = c.in_ok-book.ensures in
    none_stands _ c.args.bytes.now c.args.house.now _ _ own form c.in_ok-check_house.ensures
    ∙ names_kept _ _ _ (differ (goal.at.returns-then-ne c).After-ne) c.if-ne.true

pub write_book-requires : goal.write_book-requires
write_book-requires c = (
  rw c.in_ok-book.ensures.0 (below_each _ (λ i. (c.type_inv.bytes i).fits)),
  omega (arith, c.count.ensures.few),
  omega (arith, c.count.ensures.count),
)

pub returns : goal.returns
unfolding back_of
returns c =
    let (is, own, form) = c.in_ok-book.ensures in
    let at = (goal.at.returns c).After-ne in
    let count_is = sym (c.count.ensures.count ∙ ap (λ (b : List ℕ). (book_of b).count) is) in
    let laid = sym (plain_laid c.args.bytes.now (done at)) ∙ (λ i. laid_of (sym is i) (4 ∷ 6 * count_is i ∷ []) []) in
    moved_as _ _ _
    (none_stands _ c.args.bytes.now c.args.house.now _ _ own form c.in_ok-check_house.ensures
    ∙ names_same _ _ _ (differ at) c.if-ne.false
    ∙ ap (λ (l : List ℕ). handed l (length c.args.out.now)) laid)
    c.write_book.ensures
