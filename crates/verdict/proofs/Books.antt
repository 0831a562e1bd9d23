-- A book of good form, as the functions that judge it read it from its bytes, and tables for its facts.
use Prim.Native.Nat.{ℕ, ◌≤◌, ◌<◌}
use native.Mathlib.Omega.{arith}
use mathlib.Core.Path.{◌≡◌, ap}
use mathlib.Core.List.{List}
use Rattle.book.specs.Book.{WellFormed}
use Rattle.book.specs.Decode.{nodes, GoodNodes}
use Rattle.book.specs.Form.{DONE, nodes_at, form_of, book_of}
use Rattle.book.proofs.Decoded.{Formed, formed, well_formed, formed_nodes}
use Rattle.rules.specs.Facts.{flat, table_size}
use Rattle.rules.specs.Growth.{Blank}
use lib.ListN.{replicate}
use Rattle.rules.proofs.Flat.{nothing_known, flat_fresh}
use Rattle.verdict.specs.Conflicts.{GoodBook}

-- a fresh table for any book of good form
pub table-blank : (bytes : List ℕ) → (form_of bytes).number ≡ DONE
    → Blank (table_size (book_of bytes).count) (flat (replicate 512 nothing_known))
table-blank bytes good = flat_fresh 512 (well_formed (formed bytes good)).few_nodes

module _ {bytes : List ℕ} {count : ℕ} (good : GoodBook bytes count) where
  form : Formed bytes
  form = formed bytes good.form

  pub book_well_formed : WellFormed (book_of bytes)
  book_well_formed = well_formed form

  pub count_small : count ≤ 512
  count_small = omega (arith, book_well_formed.few_nodes, good.count_is)

  pub start_below : {start : ℕ} → start ≡ (book_of bytes).start → start < count
  start_below is = omega (arith, book_well_formed.start_below, good.count_is)

  -- its nodes, as they are read, are good
  pub nodes_good : GoodNodes bytes (nodes_at bytes) count 64
  unfolding book_of
  nodes_good = rw good.count_is (formed_nodes bytes good.form)

  -- and are the book's
  pub look_up : nodes bytes (nodes_at bytes) count ≡ (book_of bytes).node
  unfolding book_of
  look_up = ap (nodes bytes (nodes_at bytes)) good.count_is
