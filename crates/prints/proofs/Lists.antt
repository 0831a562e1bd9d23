-- Laws of lists added to a page one after the other, and of how long they are together.
use Prim.Native.Nat.{ℕ, zero, suc, ◌+◌, ◌*◌, ◌≤◌, ◌<◌}
use native.Mathlib.Nat.{add-zero, zero-add, suc-mul}
use native.Mathlib.Numerals.{add-one}
use native.Mathlib.Omega.{arith}
use mathlib.Core.Path.{◌≡◌, sym, ap, ◌∙◌}
use mathlib.Core.List.{List, ◌++◌, append_assoc, append-nil}
use lib.ListN.{length, length-append}
use Rattle.words.specs.Lists.{lists_from}
use Rattle.prints.specs.declared.Page.{Page}
use Rattle.prints.specs.Pages.{Added}
use Rattle.prints.proofs.Laws.{added_none, added_then}

module _ (list : ℕ → List ℕ) where
  -- one list more
  lists_more : (left n : ℕ) → lists_from list (suc left) n ≡ lists_from list left n ++ list (n + left)
  unfolding lists_from
  lists_more zero n = rw add-zero (append-nil (list n))
  lists_more (suc left) n =
      ap (λ (l : List ℕ). list n ++ l) (lists_more left (suc n))
      ∙ sym (append_assoc (list n) (lists_from list left (suc n)) (list (suc n + left)))
      ∙ ap (λ (m : ℕ). list n ++ lists_from list left (suc n) ++ list m) {x = suc n + left} {y = n + suc left} (omega arith)

  pub added_no_list : (page : Page) → Added page page (lists_from list 0 0)
  unfolding lists_from
  added_no_list page = added_none page

  pub added_list : {page mid end : Page} (i : ℕ)
      → Added page mid (lists_from list i 0)
      → Added mid end (list i)
      → Added page end (lists_from list (i + 1) 0)
  added_list i p q = rw (add-one i, lists_more i 0, zero-add i) (added_then p q)

  pub added_lists : {page end : Page} {i count : ℕ}
      → Added page end (lists_from list i 0)
      → i ≡ count
      → Added page end (lists_from list count 0)
  added_lists p is = rw is at p

  -- lists of so many bytes at most each
  pub lists_short : (most left n : ℕ)
      → ((m : ℕ) → m < n + left → length (list m) ≤ most)
      → length (lists_from list left n) ≤ left * most
  unfolding lists_from
  lists_short most zero n each = omega arith
  lists_short most (suc left) n each =
      rw length-append
      (omega (
        arith,
        each n (omega arith),
        lists_short most left (suc n) (λ m below. each m (omega arith)),
        suc-mul left most,
      ))
