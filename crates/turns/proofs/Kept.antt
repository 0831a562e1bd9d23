-- What a turn comes to behind an empty record and behind that of a node, and the kinds of a book's tokens.
use Prim.Native.Nat.{ℕ, ◌+◌, ◌≤◌, ◌<◌}
use native.Mathlib.Omega.{arith}
use mathlib.Core.Path.{◌≡◌, refl, sym}
use mathlib.Core.List.{List}
use lib.ListN.{get_or}
use borrow.Author.Tests.{le-leb, lt-leb}
use Rattle.book.specs.Book.{Book, Proper, fail_is, empty_is, token_is, either_is, then_is, tagged_is, ref_is}
use Rattle.book.specs.Form.{DONE, form_of, book_of}
use Rattle.book.specs.declared.Node.{Node}
use Rattle.book.proofs.Decoded.{formed, well_formed}
use Rattle.rules.specs.Step.{kind_of}
use Rattle.turns.specs.declared.Spot.{Spot}
use Rattle.turns.specs.Slots.{lapse_of, Left, left, keep_of, met, open_of, came, turn_of}

-- the kind of a token of a book
proper_kind : {kinds count own : ℕ} {x : Node} → kinds ≤ 64 → Proper kinds count own x → kind_of x < 256
proper_kind few fail_is = omega arith
proper_kind few empty_is = omega arith
proper_kind few (token_is below) = omega arith
proper_kind few (either_is a b) = omega arith
proper_kind few (then_is a b) = omega arith
proper_kind few (tagged_is a b) = omega arith
proper_kind few (ref_is a) = omega arith

pub kind_small : (bytes : List ℕ) → (form_of bytes).number ≡ DONE → (n : ℕ) → n < (book_of bytes).count → kind_of ((book_of bytes).node n) < 256
kind_small bytes form n below = let f = well_formed (formed bytes form) in proper_kind f.few_kinds (f.proper n below)

-- the record is an empty one
pub turn_lapsed : (b : Book) (records run : List ℕ) (at : ℕ) (spot : Spot) (slots : List ℕ) {given : ℕ} {l : Left}
    → given ≡ get_or records at 0 → 32768 ≤ given → l ≡ left (lapse_of b records (at + 1) spot spot.due slots) slots
    → came l.spot l.slots run ≡ turn_of b records at spot slots run
unfolding turn_of
turn_lapsed b records run at spot slots is large lapsed = rw (rw is at (le-leb _ _ large), lapsed) refl

-- the record is that of a node
pub turn_opened : (b : Book) (records run : List ℕ) (at : ℕ) (spot : Spot) (slots : List ℕ) {given : ℕ} {top : Node} {k l : Left} {now : List ℕ}
    → given ≡ get_or records at 0 → given < 32768 → top ≡ b.node given → k ≡ keep_of spot spot.due slots
    → met l.spot now ≡ open_of b records (at + 1) top k.spot k.slots run → l.slots ≡ k.slots
    → came l.spot l.slots now ≡ turn_of b records at spot slots run
unfolding turn_of
turn_opened b records run at spot slots {k = k} is small top-is kept opened same =
    rw (rw is at (lt-leb _ _ small), sym kept, sym is, sym top-is, same) (λ i. came (opened i).spot k.slots (opened i).run)
