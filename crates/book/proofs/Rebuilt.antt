-- Bytes of good form are those of the book that they decode to, with the names that stand in them.
use mathlib.Core.Path.{◌≡◌, refl, sym, ap, ◌∙◌}
use mathlib.Core.Bool.{Bool, true, false, ◌&&◌}
use mathlib.Core.List.{List, [], ◌∷◌, ◌++◌, append-nil}
use Prim.Native.Nat.{ℕ, zero, suc, ◌+◌, ◌*◌, ◌-◌, ◌≤◌, ◌<◌}
use native.Mathlib.Omega.{arith}
use borrow.Author.Tests.{eq-eqb, eqb-true}
use lib.Dec.{ltb, eqb}
use lib.ListN.{length, get_or, take, drop, length-append, length-drop, drop_of_length-le}
use lib.Seq.{take_at, drop_at, drop-length}
use Rattle.std.specs.Prelude.{Option, Some, None}
use Rattle.words.specs.Words.{u16_at, word_bytes, Below}
use Rattle.words.specs.Lists.{lists_from, part_at}
use Rattle.words.proofs.Bytes.{length_words}
use Rattle.words.proofs.FirstBad.{first_none}
use Rattle.words.proofs.Tests.{joined, both, never}
use Rattle.forms.specs.Forms.{contents_of, words_are}
use Rattle.forms.proofs.Contents.{words_are_lem, words_joined, words_stand}
use Rattle.names.specs.Names.{names_good, names_bytes, GoodNames}
use Rattle.names.proofs.Standing.{length_names, names_stand, names_end, names_all, names_read_good}
use Rattle.book.specs.Book.{Book}
use Rattle.book.specs.Decode.{type_of, typed_node, node_of, fields_good, node_at, node_good, type_at, left_at, right_at}
use Rattle.book.specs.Encode.{node_words, body_words, book_bytes, named_bytes}
use Rattle.book.specs.Form.{DONE, book_sections, named_sections, named, settings_at, nodes_at, count_of, names_at, kinds_of, sections_of}
use Rattle.book.specs.Form.{form_of, book_of, book_names}
use Rattle.book.specs.declared.Fields.{Fields}
use Rattle.book.specs.declared.NodeType.{NodeType}
use Rattle.book.proofs.Decoded.{Formed, formed, nodes_below}
use Rattle.book.proofs.Holding.{length_node, body_long, holding_parts}
use Rattle.book.proofs.Laws.{settings_plain, settings_named, length_plain}
use Rattle.book.proofs.Types.{number_of, number_is}

-- a right, or a left and a right, that are 0
zero_kept : (number : ℕ) (other : Bool) (f : Fields) → (other && eqb f.right 0) ≡ true
    → number ∷ f.left ∷ 0 ∷ [] ≡ number ∷ f.left ∷ f.right ∷ []
zero_kept number other f good = ap (λ (r : ℕ). number ∷ f.left ∷ r ∷ []) (sym (eqb-true f.right 0 (both other _ good).1))

zeros-kept : (number : ℕ) (f : Fields) → (eqb f.left 0 && eqb f.right 0) ≡ true
    → number ∷ 0 ∷ 0 ∷ [] ≡ number ∷ f.left ∷ f.right ∷ []
zeros-kept number f good =
    ap (λ (l : ℕ). number ∷ l ∷ 0 ∷ []) (sym (eqb-true f.left 0 (both _ (eqb f.right 0) good).0))
    ∙ zero_kept number (eqb f.left 0) f good

-- fields that the type table takes are the numbers of the node that they are
typed_kept : (type : Option NodeType) (f : Fields) → fields_good type f ≡ true
    → node_words (typed_node type f.left f.right) ≡ number_of type ∷ f.left ∷ f.right ∷ []
typed_kept (Some NodeType.Fail) f good = zeros-kept 0 f good
typed_kept (Some NodeType.Empty) f good = zeros-kept 1 f good
typed_kept (Some NodeType.Token) f good = zero_kept 2 (ltb f.left f.kinds) f good
typed_kept (Some NodeType.Either) f good = refl
typed_kept (Some NodeType.Then) f good = refl
typed_kept (Some NodeType.Tagged) f good = refl
typed_kept (Some NodeType.Ref) f good = zero_kept 6 (ltb f.left f.count) f good
typed_kept None f good = never good

fields_kept : (number : ℕ) (f : Fields) → fields_good (type_of number) f ≡ true
    → node_words (node_of number f.left f.right) ≡ number ∷ f.left ∷ f.right ∷ []
fields_kept number f good =
    typed_kept (type_of number) f good
    ∙ ap (λ (n : ℕ). n ∷ f.left ∷ f.right ∷ [])
    (number_is number (λ none. never (sym (ap (λ (t : Option NodeType). fields_good t f) none) ∙ good)))

module _ (bytes : List ℕ) (f : Formed bytes) where
  abbrev book : Book
  book = book_of bytes

  abbrev base : ℕ
  base = nodes_at bytes

  -- the numbers of each node stand in the bytes
  abbrev fields_at : ℕ → List ℕ
  fields_at n = type_at bytes base n ∷ left_at bytes base n ∷ right_at bytes base n ∷ []

  node_stands : (n : ℕ) → n < book.count → words_are bytes (base + 6 * n) (node_words (book.node n)) ≡ true
  unfolding book_of node_at node_good
  node_stands n below =
      rw (nodes_below bytes base book.count n below, fields_kept (type_at bytes base n) _ (first_none _ _ f.nodes_good n below))
      (words_are_lem bytes (base + 6 * n) (fields_at n) each)
    where
      each : (i : ℕ) → i < 3 → u16_at bytes (base + 6 * n + 2 * i) ≡ get_or (fields_at n) i 0
      each zero below = ap (u16_at bytes) (omega arith)
      each (suc zero) below = refl
      each (suc (suc zero)) below = refl
      each (suc (suc (suc i))) below = absurd (omega arith)

  nodes_stand : (left n : ℕ) → n + left ≤ book.count
      → words_are bytes (base + 6 * n) (lists_from (λ m. node_words (book.node m)) left n) ≡ true
  unfolding lists_from
  nodes_stand zero n within = refl
  nodes_stand (suc left) n within =
      words_joined bytes (base + 6 * n) (node_words (book.node n)) _ (node_stands n (omega arith))
      (rw (length_node (book.node n), next) (nodes_stand left (suc n) (omega arith)))
    where
      next : base + 6 * n + 2 * 3 ≡ base + 6 * suc n
      next = omega arith

  -- all its numbers stand in the bytes
  body_stands : words_are bytes (settings_at bytes) (body_words book) ≡ true
  unfolding book_of body_words
  body_stands =
      joined _ _ (eq-eqb (u16_at bytes (settings_at bytes)) _ refl)
      (joined _ _ (eq-eqb (u16_at bytes (settings_at bytes + 2)) _ refl)
      (ap (λ (place : ℕ). words_are bytes place (lists_from (λ m. node_words (book.node m)) book.count 0)) first_node
      ∙ nodes_stand book.count 0 (omega arith)))
    where
      first_node : settings_at bytes + 2 + 2 ≡ base + 6 * 0
      first_node = omega arith

  -- contents and settings meet where the settings begin
  contents_end : 2 * length (contents_of (sections_of bytes)) ≡ settings_at bytes
  contents_end = go (named bytes) refl
    where
      go : (t : Bool) → named bytes ≡ t → 2 * length (contents_of (sections_of bytes)) ≡ settings_at bytes
      go true is = rw (is, settings_named bytes is) refl
      go false is = rw (is, settings_plain bytes is) refl

  abbrev contents : List ℕ
  contents = contents_of (sections_of bytes)

  words_end : 2 * length (contents ++ body_words book) ≡ names_at bytes
  unfolding book_of
  words_end = omega (arith, length-append contents (body_words book), contents_end, body_long book)

  -- the bytes are contents, settings and nodes, and what is behind them
  pub parts : Below 256 bytes → word_bytes (contents ++ body_words book) ++ drop (names_at bytes) bytes ≡ bytes
  parts below =
      ap (λ (n : ℕ). word_bytes (contents ++ body_words book) ++ drop n bytes) (sym words_end)
      ∙ words_stand (contents ++ body_words book) below (omega (arith, words_end, f.size.within))
      (words_joined bytes 0 contents (body_words book) f.contents (rw contents_from body_stands))
    where
      contents_from : 0 + 2 * length contents ≡ settings_at bytes
      contents_from = omega (arith, contents_end)

  -- settings and nodes, as a part of the bytes
  pub body_part : Below 256 bytes → part_at bytes (settings_at bytes) (4 + 6 * book.count) ≡ word_bytes (body_words book)
  body_part below =
      ap (λ (l : List ℕ). part_at l (settings_at bytes) size) (sym (parts below) ∙ holding_parts (sections_of bytes) book _)
      ∙ ap (take size) (drop_at (word_bytes contents) _ (settings_at bytes) (length_words contents ∙ contents_end))
      ∙ take_at (word_bytes (body_words book)) _ size (length_words (body_words book) ∙ omega (arith, body_long book))
    where
      size : ℕ
      size = 4 + 6 * book.count

module _ (bytes : List ℕ) (below : Below 256 bytes) (done : (form_of bytes).number ≡ DONE) where
  abbrev form : Formed bytes
  form = formed bytes done

  -- with sections and a rest that are those of the bytes, the parts are put together again
  together : {sizes rest : List ℕ} → sizes ≡ sections_of bytes → rest ≡ drop (names_at bytes) bytes
      → word_bytes (contents_of sizes ++ body_words (book_of bytes)) ++ rest ≡ bytes
  together sizes-are rest_is = (λ i. word_bytes (contents_of (sizes-are i) ++ body_words (book_of bytes)) ++ rest_is i) ∙ parts bytes form below

  -- bytes of good form without names are those of the book that they decode to
  pub good_form_bytes : named bytes ≡ false → book_bytes (book_of bytes) ≡ bytes
  unfolding book_bytes book_of
  good_form_bytes plain =
      let (some_node, few_nodes, long) = length_plain bytes plain form.long in
      sym (append-nil _)
      ∙ together {sizes = book_sections (count_of bytes)} (rw plain refl) (sym (drop_of_length-le bytes {i = names_at bytes} (omega arith)))

  -- with names, they are those of that book with the names that stand in them
  pub good_named_bytes : named bytes ≡ true → named_bytes (book_of bytes) (book_names bytes) ≡ bytes
  unfolding named_bytes book_of
  good_named_bytes names =
      together {sizes = named_sections (count_of bytes) (length (names_bytes (book_names bytes)))}
      (ap (named_sections (count_of bytes)) size_is ∙ rw names refl) rest_is
    where
      good : names_good bytes (names_at bytes) (kinds_of bytes) ≡ true
      good = form.names_good_lem names

      rest_is : names_bytes (book_names bytes) ≡ drop (names_at bytes) bytes
      rest_is =
          sym
          (names_all bytes (names_at bytes) (names_stand bytes (names_at bytes) (kinds_of bytes) good)
          ∙ rw (names_end bytes (names_at bytes) (kinds_of bytes) good, drop-length) (append-nil _))

      size_is : length (names_bytes (book_names bytes)) ≡ length bytes - names_at bytes
      size_is = ap length rest_is ∙ length-drop (names_at bytes) bytes

-- the names that stand in bytes of good form are good, one for each kind
pub good_names : (bytes : List ℕ) → (form_of bytes).number ≡ DONE → named bytes ≡ true
    → GoodNames (book_names bytes) × (length (book_names bytes) ≡ (book_of bytes).kinds)
unfolding book_of
good_names bytes done names = (
  names_read_good bytes (names_at bytes) (names_stand bytes (names_at bytes) (kinds_of bytes) ((formed bytes done).names_good_lem names)),
  length_names bytes (names_at bytes) (kinds_of bytes) 0,
)
