-- Laws of a book told in words: where its names stand, and how long its lines are.
use Prim.Native.Nat.{ℕ, ◌+◌, ◌-◌, ◌≤◌, ◌<◌}
use native.Mathlib.Omega.{arith}
use mathlib.Core.Path.{◌≡◌}
use mathlib.Core.List.{List}
use lib.ListN.{length, get_or, take, drop, length-append}
use Rattle.names.specs.Names.{name_at, name_of}
use Rattle.names.proofs.Places.{Whole, length_name}
use Rattle.names.proofs.Standing.{names_stand}
use Rattle.book.specs.Book.{fail_is, empty_is, token_is, either_is, then_is, tagged_is, ref_is}
use Rattle.book.specs.Form.{names_at, book_of}
use Rattle.book.specs.declared.Node.{Node}
use Rattle.book.specs.declared.Node.TheVariants.{Token}
use Rattle.book.proofs.Decoded.{formed, well_formed}
use Rattle.prints.specs.Digits.{spaced}
use Rattle.prints.proofs.Digits.{digits_short}
use Rattle.prints.proofs.Lists.{lists_short}
use Rattle.told.specs.Told.{NamedBook, KindIn, NodeIn, name_text, kind_line, node_text, node_line}
use Rattle.told.specs.Told.{kind_lines, node_lines, start_line, book_lines, book_room}

module _ {bytes : List ℕ} (b : NamedBook bytes) where
  -- a whole name stands there for each kind
  pub name_stands : (kind : ℕ) → KindIn bytes kind → Whole bytes (name_at bytes (names_at bytes) kind)
  unfolding book_of
  name_stands kind below =
      (names_stand bytes (names_at bytes) _ ((formed bytes b.form).names_good_lem b.names)).each_whole kind below

  -- a kind is below 64
  pub kind_below : (kind : ℕ) → KindIn bytes kind → kind < 64
  kind_below kind below = omega (arith, (well_formed (formed bytes b.form)).few_kinds)

  -- a node that stands there with a number
  pub node_proper : (n : ℕ) → n < (book_of bytes).count → NodeIn bytes n ((book_of bytes).node n)
  node_proper n below = (well_formed (formed bytes b.form)).proper n below

-- the names of a book stand from a place on
pub record NamesFrom (bytes : List ℕ) (kind from : ℕ) : Type 0 where
  pub book : NamedBook bytes
  pub below : KindIn bytes kind
  pub begin : from ≡ names_at bytes

-- where a kind's name begins there is a whole name, which is that kind's
module _ {bytes : List ℕ} {kind from : ℕ} (s : NamesFrom bytes kind from) where
  pub name_whole : Whole bytes (name_at bytes from kind)
  name_whole = rw s.begin (name_stands s.book kind s.below)

  pub name_within : name_at bytes from kind ≤ length bytes
  name_within = omega (arith, name_whole.within)

  module _ {at : ℕ} (is : at ≡ name_at bytes from kind) where
    pub name_ends : at + 1 + get_or bytes at 0 ≤ length bytes
    name_ends = rw is name_whole.within

    pub name_taken : take (at + 1 + get_or bytes at 0 - (at + 1)) (drop (at + 1) bytes) ≡ name_of bytes (names_at bytes) kind
    name_taken =
        let left : at + 1 + get_or bytes at 0 - (at + 1) ≡ get_or bytes at 0 = omega arith in
        rw (left, is, s.begin)

-- the kind of a token
pub token_kind : (bytes : List ℕ) {n kind : ℕ} {node : Node} → NodeIn bytes n node → node ≡ Token kind → KindIn bytes kind
token_kind bytes {n} {kind} p is = go (rw is at p)
  where
    go : NodeIn bytes n (Token kind) → KindIn bytes kind
    go (token_is below) = below

-- ---- how long the lines are

-- a number below a thousand, after a space
few_digits : (value : ℕ) → value < 1000 → length (spaced value) ≤ 4
unfolding spaced
few_digits value below = omega (arith, digits_short 2 value below)

label_digits : (value : ℕ) → value ≤ 65535 → length (spaced value) ≤ 6
unfolding spaced
label_digits value below = omega (arith, digits_short 4 value (omega arith))

module _ {bytes : List ℕ} (b : NamedBook bytes) where
  pub name_short : (kind : ℕ) → KindIn bytes kind → length (name_text bytes kind) ≤ 17
  unfolding name_text
  name_short kind below =
      let w = name_stands b kind below in
      omega (arith, w.few_bytes, length_name bytes (name_at bytes (names_at bytes) kind) w.within)

  kind_short : (kind : ℕ) → KindIn bytes kind → length (kind_line bytes kind) ≤ 26
  unfolding kind_line
  kind_short kind below =
      simp length-append (omega (arith, few_digits kind (omega (arith, kind_below b kind below)), name_short kind below))

  node_short : (n : ℕ) {node : Node} → n < 512 → NodeIn bytes n node → length (node_text bytes node) ≤ 23
  unfolding node_text
  node_short n few fail_is = omega arith
  node_short n few empty_is = omega arith
  node_short n few (token_is {k = kind} below) = omega (arith, name_short kind below)
  node_short n few (either_is {l = l} {r} low lower) =
      simp length-append (omega (arith, few_digits l (omega arith), few_digits r (omega arith)))
  node_short n few (then_is {l = l} {r} low lower) =
      simp length-append (omega (arith, few_digits l (omega arith), few_digits r (omega arith)))
  node_short n few (tagged_is {l = l} {t} low label) =
      simp length-append (omega (arith, few_digits l (omega arith), label_digits t label.1))
  node_short n few (ref_is {l = l} low) =
      let many = (well_formed (formed bytes b.form)).few_nodes in
      omega (arith, few_digits l (omega arith))

  line_short : (n : ℕ) → n < (book_of bytes).count → length (node_line bytes n) ≤ 32
  unfolding node_line
  line_short n below =
      let many = (well_formed (formed bytes b.form)).few_nodes in
      simp length-append (omega (arith, few_digits n (omega arith), node_short n (omega arith) (node_proper b n below)))

  -- all lines of a book
  pub book_short : length (book_lines bytes) ≤ book_room
  unfolding book_lines kind_lines node_lines start_line
  book_short =
      let w = well_formed (formed bytes b.form) in
      let kinds = lists_short (kind_line bytes) 26 (book_of bytes).kinds 0 (λ m below. kind_short m (omega arith)) in
      let nodes = lists_short (node_line bytes) 32 (book_of bytes).count 0 (λ m below. line_short m (omega arith)) in
      let start = few_digits (book_of bytes).start (omega (arith, w.start_below, w.few_nodes)) in
      simp length-append (omega (arith, w.few_kinds, w.few_nodes, kinds, nodes, start))
