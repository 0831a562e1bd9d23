-- Every well-formed book has bytes, without names and, with good names for its kinds, with them: their form is done, and they decode to
-- the book and the names.
use mathlib.Core.Path.{◌≡◌, refl, sym, ap, ◌∙◌}
use mathlib.Core.Bool.{Bool, true, false, ◌&&◌, cond}
use mathlib.Core.List.{List, [], ◌++◌, append-nil}
use Prim.Native.Nat.{ℕ, ◌+◌, ◌*◌, ◌-◌, ◌≤◌, ◌<◌}
use native.Mathlib.Omega.{arith}
use borrow.Author.Tests.{ltb-true, ltb-false, le-leb, eq-eqb}
use lib.Dec.{ltb, leb}
use lib.ListN.{length, length-append}
use Rattle.words.specs.Words.{word_bytes}
use Rattle.words.proofs.Tests.{joined}
use Rattle.forms.specs.Forms.{contents_size, form_size, contents_of}
use Rattle.names.specs.Names.{names_good, names_bytes, GoodNames}
use Rattle.names.proofs.Places.{name_first, ends-before}
use Rattle.names.proofs.Standing.{names_stand, names_end, names_short, names_have_bytes, names_are_read}
use Rattle.book.specs.Book.{Book, WellFormed}
use Rattle.book.specs.Decode.{nodes}
use Rattle.book.specs.Encode.{body_words, book_bytes, named_bytes}
use Rattle.book.specs.Form.{judged, DONE, book_sections, named_sections, named, settings_at, nodes_at, count_of, names_at, kinds_of, start_of}
use Rattle.book.specs.Form.{few_nodes, length_good, sections_of, names_form, form_of, book_of, book_names}
use Rattle.book.proofs.Decoded.{nodes_below, nodes_beyond}
use Rattle.book.proofs.Holding.{holding, length_is, contents_word, kinds_is, start_is, node_is}
use Rattle.book.proofs.Holding.{contents_good_lem, settings_good_lem, none_bad}
use Rattle.book.proofs.Laws.{settings_plain, settings_named, count_plain, count_named, form_names}

-- what is read where settings and nodes are held, and how many nodes are read, are the book's
module _ (sizes : List ℕ) (b : Book) (rest : List ℕ) (w : WellFormed b) (small : form_size sizes < 65536) where
  abbrev held : List ℕ
  held = holding sizes b rest

  module _ (settings-are : settings_at held ≡ contents_size (length sizes)) (count_is : count_of held ≡ b.count) where
    kinds_are : kinds_of held ≡ b.kinds
    kinds_are = rw settings-are (kinds_is sizes b rest w small)

    start_are : start_of held ≡ b.start
    start_are = rw settings-are (start_is sizes b rest w small)

    book_held : book_of held ≡ b
    unfolding book_of
    book_held =
        λ i. record {
          count = count_is i;
          kinds = kinds_are i;
          start = start_are i;
          node = λ n. node_same n i;
        }
      where
        base : ℕ
        base = contents_size (length sizes) + 4

        go : (n : ℕ) (t : Bool) → ltb n b.count ≡ t → nodes held base b.count n ≡ b.node n
        go n true is =
            let below = ltb-true _ _ is in nodes_below held base b.count n below ∙ node_is sizes b rest w small n below
        go n false is = let past = ltb-false _ _ is in nodes_beyond held base b.count n past ∙ sym (w.beyond n past)

        node_same : (n : ℕ) → nodes held (nodes_at held) (count_of held) n ≡ b.node n
        node_same n = rw (settings-are, count_is) (go n (ltb n b.count) refl)

    few_held : few_nodes held ≡ true
    few_held = rw count_is (joined (leb 1 b.count) _ (le-leb _ _ w.some_node) (le-leb _ _ w.few_nodes))

    names_at_is : names_at held ≡ contents_size (length sizes) + 4 + 6 * b.count
    names_at_is = rw (settings-are, count_is)

    form_held : length_good held ≡ true → sections_of held ≡ sizes → names_form held (names_at held) (kinds_of held) ≡ judged DONE 0
        → form_of held ≡ judged DONE 0
    form_held long sections names =
        form_names held long
        (joined (few_nodes held && leb (names_at held) (length held)) _
        (joined (few_nodes held) _ few_held (le-leb (names_at held) (length held) (omega (arith, names_at_is, length_is sizes b rest))))
        (rw sections (contents_good_lem sizes b rest w small)))
        (rw (settings-are, count_is) (settings_good_lem sizes b rest w small))
        (rw (kinds_are, settings-are, count_is) (omega (arith, none_bad sizes b rest w small)))
        ∙ names

-- ---- without names

module _ (b : Book) (w : WellFormed b) where
  abbrev plain_sizes : List ℕ
  plain_sizes = book_sections b.count

  abbrev plain : List ℕ
  plain = holding plain_sizes b []

  plain_small : form_size plain_sizes < 65536
  plain_small = omega (arith, w.few_nodes)

  plain_long : length plain ≡ 18 + 6 * b.count
  plain_long = omega (arith, length_is plain_sizes b [])

  not_named : named plain ≡ false
  unfolding named
  not_named = rw (contents_word plain_sizes b [] w plain_small 0 (omega arith)) refl

  plain_settings : settings_at plain ≡ 14
  plain_settings = settings_plain plain not_named

  plain_count : count_of plain ≡ b.count
  plain_count = omega (arith, count_plain plain not_named, plain_long)

  plain_done : form_of plain ≡ judged DONE 0
  plain_done =
      form_held plain_sizes b [] w plain_small plain_settings plain_count
      (rw not_named
      (joined (few_nodes plain) _ (few_held plain_sizes b [] w plain_small plain_settings plain_count)
      (eq-eqb (length plain) (names_at plain) (omega (arith, plain_long, plain_settings, plain_count)))))
      (rw (not_named, plain_count) refl)
      (rw not_named refl)

  bytes_are : book_bytes b ≡ plain
  unfolding book_bytes
  bytes_are = sym (append-nil _)

-- every well-formed book has bytes whose form is done and which decode to it
pub well_formed_has_bytes : (b : Book) → WellFormed b → (form_of (book_bytes b) ≡ judged DONE 0) × (book_of (book_bytes b) ≡ b)
well_formed_has_bytes b w =
    rw (bytes_are b w)
    (plain_done b w, book_held (plain_sizes b w) b [] w (plain_small b w) (plain_settings b w) (plain_count b w))

-- ---- with names

module _ (b : Book) (names : List (List ℕ)) (w : WellFormed b) (good : GoodNames names) (enough : length names ≡ b.kinds) where
  abbrev size : ℕ
  size = length (names_bytes names)

  abbrev named-sizes : List ℕ
  named-sizes = named_sections b.count size

  abbrev front : List ℕ
  front = word_bytes (contents_of named-sizes ++ body_words b)

  abbrev whole : List ℕ
  whole = holding named-sizes b (names_bytes names)

  front_long : length front ≡ 24 + 6 * b.count
  front_long = omega (arith, length_is named-sizes b (names_bytes names), length-append front (names_bytes names))

  whole_long : length whole ≡ 24 + 6 * b.count + size
  whole_long = length_is named-sizes b (names_bytes names)

  -- the names are good, and with the length bytes each takes 2 to 17 bytes
  names_good_lem : names_good whole (length front) (length names) ≡ true
  names_good_lem = names_have_bytes front names good

  names_fit : (1 < size) × (size ≤ 17 * 64)
  names_fit =
      let base = length front in
      let stand = names_stand whole base (length names) names_good_lem in
      let first = stand.each_whole 0 (omega (arith, enough, w.some_kind)) in
      omega (
        arith,
        front_long,
        whole_long,
        names_end whole base (length names) names_good_lem,
        names_short whole base stand (length names) (omega arith),
        name_first whole base,
        ends-before whole base 0 (length names) (omega (arith, enough, w.some_kind)),
        first.some_byte,
        enough,
        w.few_kinds,
      )

  named_small : form_size named-sizes < 65536
  named_small = omega (arith, w.few_nodes, names_fit)

  is_named : named whole ≡ true
  unfolding named
  is_named = rw (contents_word named-sizes b (names_bytes names) w named_small 0 (omega arith)) refl

  named_settings : settings_at whole ≡ 20
  named_settings = settings_named whole is_named

  named_count : count_of whole ≡ b.count
  named_count =
      omega (
        arith,
        count_named whole is_named,
        contents_word named-sizes b (names_bytes names) w named_small 6 (omega arith),
      )

  names_are_at : names_at whole ≡ length front
  names_are_at = omega (arith, named_settings, named_count, front_long)

  named_kinds : kinds_of whole ≡ length names
  named_kinds = kinds_are named-sizes b (names_bytes names) w named_small named_settings named_count ∙ sym enough

  named_done : form_of whole ≡ judged DONE 0
  named_done =
      form_held named-sizes b (names_bytes names) w named_small named_settings named_count
      (rw is_named
      (joined (leb 32 (length whole)) _ (le-leb 32 (length whole) (omega (arith, whole_long, w.some_node, names_fit)))
      (le-leb (length whole) 4184 (omega (arith, whole_long, w.few_nodes, names_fit)))))
      (ap (λ t. cond t (named_sections (count_of whole) (length whole - names_at whole)) (book_sections (count_of whole))) is_named
      ∙ λ i. named_sections (named_count i) (left i))
      (rw (is_named, names_are_at, named_kinds, names_good_lem) refl)
    where
      left : length whole - names_at whole ≡ size
      left = omega (arith, whole_long, names_are_at, front_long)

  names_same : book_names whole ≡ names
  names_same = rw (names_are_at, named_kinds) (names_are_read front names)

-- every well-formed book has bytes with good names for its kinds, whose form is done and which decode to it and to those names
pub named_has_bytes : (b : Book) (names : List (List ℕ)) → WellFormed b → GoodNames names → length names ≡ b.kinds
    → (form_of (named_bytes b names) ≡ judged DONE 0) × (book_of (named_bytes b names) ≡ b) × (book_names (named_bytes b names) ≡ names)
unfolding named_bytes
named_has_bytes b names w good enough =
    let small = named_small b names w good enough in (
      named_done b names w good enough,
      book_held (named_sections b.count (length (names_bytes names))) b (names_bytes names) w small (named_settings b names w good enough)
          (named_count b names w good enough),
      names_same b names w good enough,
    )

-- and they are bytes of three sections, as those without names are bytes of two
pub named_are_named : (b : Book) (names : List (List ℕ)) → WellFormed b → GoodNames names → length names ≡ b.kinds
    → named (named_bytes b names) ≡ true
unfolding named_bytes
named_are_named b names w good enough = is_named b names w good enough

pub plain_are_not : (b : Book) → WellFormed b → named (book_bytes b) ≡ false
plain_are_not b w = rw (bytes_are b w) (not_named b w)
