-- What is known of a node that was read from good nodes, or from a book.
use Prim.Native.Nat.{ℕ, ◌<◌}
use mathlib.Core.Path.{◌≡◌}
use mathlib.Core.List.{List}
use native.Mathlib.Omega.{arith}
use Rattle.book.specs.Book.{WellFormed, Proper, fail_is, empty_is, token_is, either_is, then_is, tagged_is, ref_is}
use Rattle.book.specs.Form.{DONE, form_of, book_of}
use Rattle.book.specs.Nodes.{Placed, node_in, AreGood}
use Rattle.book.proofs.Decoded.{formed, well_formed}
use Rattle.book.specs.declared.Node.{Node}
use Rattle.rules.specs.Step.{left_from, right_from, kind_of}

-- the left and the right of a proper node are below the count, if what stands for none is
module _ {kinds count n none : ℕ} (below : n < count) (none_below : none < count) where
  left-within : {at : Node} → Proper kinds count n at → left_from none at < count
  left-within fail_is = none_below
  left-within empty_is = none_below
  left-within (token_is k) = none_below
  left-within (either_is l r) = omega arith
  left-within (then_is l r) = omega arith
  left-within (tagged_is l t) = omega arith
  left-within (ref_is l) = l

  right_within : {at : Node} → Proper kinds count n at → right_from none at < count
  right_within fail_is = none_below
  right_within empty_is = none_below
  right_within (token_is k) = none_below
  right_within (either_is l r) = omega arith
  right_within (then_is l r) = omega arith
  right_within (tagged_is l t) = none_below
  right_within (ref_is l) = none_below

module _ {kinds count n : ℕ} {at : Node} (below : n < count) (proper : Proper kinds count n at) where
  pub left_below : left_from n at < count
  left_below = left-within below below proper

  pub right_below : right_from n at < count
  right_below = right_within below below proper

-- the kind of a proper token is below the number of kinds, and so is 0 if there is one
pub kind_below : {kinds count n : ℕ} {at : Node} → 0 < kinds → Proper kinds count n at → kind_of at < kinds
kind_below some fail_is = some
kind_below some empty_is = some
kind_below some (token_is k) = k
kind_below some (either_is l r) = some
kind_below some (then_is l r) = some
kind_below some (tagged_is l t) = some
kind_below some (ref_is l) = some

-- what is known of a node that was read from good nodes
module _ {at : Placed} (good : AreGood at) {n : ℕ} (below : n < at.count) {own : Node} (read : own ≡ node_in at n) where
  pub proper_read : Proper 64 at.count n own
  proper_read = rw read (good.proper n below)

  pub read_left : left_from n own < at.count
  read_left = left_below below proper_read

  pub read_right : right_from n own < at.count
  read_right = right_below below proper_read

  -- the same with 0 for none
  pub read_left_or_zero : left_from 0 own < at.count
  read_left_or_zero = left-within below (omega arith) proper_read

  pub read_right_or_zero : right_from 0 own < at.count
  read_right_or_zero = right_within below (omega arith) proper_read

  pub read_kind : kind_of own < 64
  read_kind = kind_below (omega arith) proper_read

-- what is known of a node that was read from a book
module _ (bytes : List ℕ) (good : (form_of bytes).number ≡ DONE) {n : ℕ} (below : n < (book_of bytes).count) {at : Node} (read : at ≡ (book_of bytes).node n) where
  wf : WellFormed (book_of bytes)
  wf = well_formed (formed bytes good)

  proper_is : Proper (book_of bytes).kinds (book_of bytes).count n at
  proper_is = rw read (wf.proper n below)

  pub left-inside : left_from n at < (book_of bytes).count
  left-inside = left_below below proper_is

  pub right_inside : right_from n at < (book_of bytes).count
  right_inside = right_below below proper_is

  -- the same with 0 for none
  pub left_or_zero : left_from 0 at < (book_of bytes).count
  left_or_zero = left-within below wf.some_node proper_is

  pub right_or_zero : right_from 0 at < (book_of bytes).count
  right_or_zero = right_within below wf.some_node proper_is

  pub kind_inside : kind_of at < 64
  kind_inside = omega (arith, kind_below wf.some_kind proper_is, wf.few_kinds)
