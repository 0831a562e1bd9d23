-- A form that holds a book: contents, the numbers of the book's settings and nodes, then anything. What is read there is the book.
use mathlib.Core.Path.{◌≡◌, refl, sym, subst, ap, ◌∙◌}
use mathlib.Core.Bool.{true, ◌&&◌}
use mathlib.Core.List.{List, [], ◌∷◌, ◌++◌, append_assoc}
use Prim.Native.Nat.{ℕ, zero, suc, ◌+◌, ◌*◌, ◌≤◌, ◌<◌}
use native.Mathlib.Nat.{zero-add}
use native.Mathlib.Omega.{arith}
use borrow.Author.Tests.{lt-ltb, le-leb}
use lib.Dec.{leb}
use lib.ListN.{length, get_or, length-append, get_or-append}
use Rattle.words.specs.Words.{u16_at, word_bytes, below_none, below_more}
use Rattle.words.specs.Lists.{first_bad, lists_from}
use Rattle.words.proofs.Bytes.{Small, below_append, length_words, words_append, u16_words}
use Rattle.words.proofs.FirstBad.{first_past}
use Rattle.words.proofs.Lists.{get_d_second, length_lists, get_d_lists}
use Rattle.words.proofs.Tests.{joined}
use Rattle.forms.specs.Forms.{contents_size, form_size, contents_of, contents_are}
use Rattle.forms.proofs.Contents.{length_contents, small_contents, contents_are_those}
use Rattle.book.specs.Book.{Book, Proper, fail_is, empty_is, token_is, either_is, then_is, tagged_is, ref_is, WellFormed}
use Rattle.book.specs.Decode.{type_of, node_of, fields_good, node_at, node_good, type_at, left_at, right_at}
use Rattle.book.specs.Encode.{node_words, body_words}
use Rattle.book.specs.Form.{settings_good}
use Rattle.book.specs.declared.Node.{Node}
use Rattle.book.specs.declared.Node.TheVariants.{Fail, Empty, Token, Either, Then, Tagged, Ref}

-- a node's three numbers
abbrev type_word : Node → ℕ
type_word node = get_or (node_words node) 0 0

abbrev left_word : Node → ℕ
left_word node = get_or (node_words node) 1 0

abbrev right_word : Node → ℕ
right_word node = get_or (node_words node) 2 0

pub length_node : (node : Node) → length (node_words node) ≡ 3
length_node Fail = refl
length_node Empty = refl
length_node (Token k) = refl
length_node (Either l r) = refl
length_node (Then l r) = refl
length_node (Tagged l t) = refl
length_node (Ref l) = refl

-- they decode to the node
node_decoded : (node : Node) → node_of (type_word node) (left_word node) (right_word node) ≡ node
node_decoded Fail = refl
node_decoded Empty = refl
node_decoded (Token k) = refl
node_decoded (Either l r) = refl
node_decoded (Then l r) = refl
node_decoded (Tagged l t) = refl
node_decoded (Ref l) = refl

three : (a b c : ℕ) → (a < 65536) × (b < 65536) × (c < 65536) → Small (a ∷ b ∷ c ∷ [])
three a b c (a_small, b-small, c-small) = below_more a_small (below_more b-small (below_more c-small below_none))

module _ {kinds count own : ℕ} where
  -- the type table takes the numbers of a proper node
  proper_taken : {node : Node} → Proper kinds count own node
      → fields_good (type_of (type_word node))
      (record { kinds = kinds; count = count; own = own; left = left_word node; right = right_word node })
      ≡ true
  proper_taken fail_is = refl
  proper_taken empty_is = refl
  proper_taken (token_is k) = joined _ _ (lt-ltb _ _ k) refl
  proper_taken (either_is l r) = joined _ _ (lt-ltb _ _ l) (lt-ltb _ _ r)
  proper_taken (then_is l r) = joined _ _ (lt-ltb _ _ l) (lt-ltb _ _ r)
  proper_taken (tagged_is l (least, most)) = joined _ _ (joined _ _ (lt-ltb _ _ l) (le-leb _ _ least)) (le-leb _ _ most)
  proper_taken (ref_is l) = joined _ _ (lt-ltb _ _ l) refl

  -- they take 16 bits
  proper_small : {node : Node} → kinds ≤ 64 → count ≤ 512 → own < count → Proper kinds count own node → Small (node_words node)
  proper_small few_kinds few_nodes below fail_is = three 0 0 0 (omega arith)
  proper_small few_kinds few_nodes below empty_is = three 1 0 0 (omega arith)
  proper_small few_kinds few_nodes below (token_is {k} k-below) = three 2 k 0 (omega arith)
  proper_small few_kinds few_nodes below (either_is {l} {r} l-below r-below) = three 3 l r (omega arith)
  proper_small few_kinds few_nodes below (then_is {l} {r} l-below r-below) = three 4 l r (omega arith)
  proper_small few_kinds few_nodes below (tagged_is {l} {t} l-below (least, most)) = three 5 l t (omega arith)
  proper_small few_kinds few_nodes below (ref_is {l} l-below) = three 6 l 0 (omega arith)

-- lists of numbers that take 16 bits, one after the other
small_lists : (list : ℕ → List ℕ) (left n : ℕ) → ((m : ℕ) → m < n + left → Small (list m)) → Small (lists_from list left n)
unfolding lists_from
small_lists list zero n each = below_none
small_lists list (suc left) n each =
    below_append (each n (omega arith)) (small_lists list left (suc n) (λ m below. each m (omega arith)))

-- the numbers of a book's settings and nodes
module _ (b : Book) where
  abbrev node_list : ℕ → List ℕ
  node_list n = node_words (b.node n)

  pub body_long : length (body_words b) ≡ 2 + 3 * b.count
  unfolding body_words
  body_long = omega (arith, length_lists node_list 3 (λ n. length_node (b.node n)) b.count 0)

  pub body_small : WellFormed b → Small (body_words b)
  unfolding body_words
  body_small w =
      below_more {n = b.kinds} (omega (arith, w.few_kinds))
      (below_more {n = b.start} (omega (arith, w.start_below, w.few_nodes))
      (small_lists node_list b.count 0
      (λ m below. proper_small w.few_kinds w.few_nodes (omega arith) (w.proper m (omega arith)))))

-- the bytes of contents, of a book's settings and nodes, and of what follows
abbrev pub holding : List ℕ → Book → List ℕ → List ℕ
holding sizes b rest = word_bytes (contents_of sizes ++ body_words b) ++ rest

-- the same, part by part
pub holding_parts : (sizes : List ℕ) (b : Book) (rest : List ℕ)
    → holding sizes b rest ≡ word_bytes (contents_of sizes) ++ (word_bytes (body_words b) ++ rest)
holding_parts sizes b rest =
    ap (λ (l : List ℕ). l ++ rest) (words_append (contents_of sizes) (body_words b))
    ∙ append_assoc (word_bytes (contents_of sizes)) (word_bytes (body_words b)) rest

module _ (sizes : List ℕ) (b : Book) (rest : List ℕ) where
  abbrev count : ℕ
  count = b.count

  abbrev words : List ℕ
  words = contents_of sizes ++ body_words b

  abbrev bytes : List ℕ
  bytes = holding sizes b rest

  -- where the settings begin
  abbrev at : ℕ
  at = contents_size (length sizes)

  words_long : 2 * length words ≡ at + 4 + 6 * count
  words_long =
      omega (arith, length-append (contents_of sizes) (body_words b), length_contents sizes, body_long b)

  pub length_is : length bytes ≡ at + 4 + 6 * count + length rest
  length_is = omega (arith, length-append (word_bytes words) rest, length_words words, words_long)

  module _ (w : WellFormed b) (small : form_size sizes < 65536) where
    words_small : Small words
    words_small = below_append (small_contents sizes small) (body_small b w)

    -- the numbers of the contents, and those behind them, by their places in the bytes
    pub contents_word : (i : ℕ) → i < length (contents_of sizes) → u16_at bytes (2 * i) ≡ get_or (contents_of sizes) i 0
    contents_word i below =
        u16_words words_small rest i (omega (arith, length-append (contents_of sizes) (body_words b)))
        ∙ get_or-append (contents_of sizes) (body_words b) 0 i below

    word_is : (place i : ℕ) → place ≡ at + 2 * i → i < 2 + 3 * count → u16_at bytes place ≡ get_or (body_words b) i 0
    word_is place i is below =
        let behind : place ≡ 2 * (length (contents_of sizes) + i) = omega (arith, length_contents sizes) in
        rw behind
        (u16_words words_small rest (length (contents_of sizes) + i)
        (omega (arith, length-append (contents_of sizes) (body_words b), body_long b))
        ∙ get_d_second (contents_of sizes) (body_words b) _ i refl)

    pub kinds_is : u16_at bytes at ≡ b.kinds
    unfolding body_words
    kinds_is = word_is at 0 (omega arith) (omega arith)

    pub start_is : u16_at bytes (at + 2) ≡ b.start
    unfolding body_words
    start_is = word_is (at + 2) 1 (omega arith) (omega arith)

    module _ (n : ℕ) (below : n < count) where
      field_is : (place j : ℕ) → place ≡ at + 4 + 6 * n + 2 * j → j < 3 → u16_at bytes place ≡ get_or (node_list b n) j 0
      unfolding body_words
      field_is place j is within =
          word_is place (2 + (n * 3 + j)) (omega arith) (omega arith)
          ∙ get_d_second (b.kinds ∷ b.start ∷ []) (lists_from (node_list b) count 0) _ (n * 3 + j) refl
          ∙ get_d_lists (node_list b) 3 (λ m. length_node (b.node m)) count 0 n j below within
          ∙ ap (λ (m : ℕ). get_or (node_list b m) j 0) (zero-add n)

      type_is : type_at bytes (at + 4) n ≡ type_word (b.node n)
      type_is = field_is _ 0 (omega arith) (omega arith)

      left_is : left_at bytes (at + 4) n ≡ left_word (b.node n)
      left_is = field_is _ 1 (omega arith) (omega arith)

      right_is : right_at bytes (at + 4) n ≡ right_word (b.node n)
      right_is = field_is _ 2 (omega arith) (omega arith)

      pub node_is : node_at bytes (at + 4) n ≡ b.node n
      unfolding node_at
      node_is = rw (type_is, left_is, right_is) (node_decoded (b.node n))

      node_good_lem : node_good bytes (at + 4) b.kinds count n ≡ true
      unfolding node_good
      node_good_lem = rw (type_is, left_is, right_is) (proper_taken (w.proper n below))

    -- contents, settings and nodes pass their tests
    pub contents_good_lem : contents_are bytes sizes ≡ true
    contents_good_lem =
        subst (λ (l : List ℕ). contents_are l sizes ≡ true)
        (sym (rw (words_append (contents_of sizes) (body_words b), append_assoc)))
        (contents_are_those sizes (word_bytes (body_words b) ++ rest) small)

    pub settings_good_lem : settings_good bytes at count ≡ true
    settings_good_lem =
        rw (kinds_is, start_is)
        (joined (leb 1 b.kinds && leb b.kinds 64) _
        (joined (leb 1 b.kinds) _ (le-leb _ _ w.some_kind) (le-leb _ _ w.few_kinds))
        (lt-ltb _ _ w.start_below))

    pub none_bad : first_bad (node_good bytes (at + 4) b.kinds count) count 0 ≡ count
    none_bad = first_past (node_good bytes (at + 4) b.kinds count) count node_good_lem
