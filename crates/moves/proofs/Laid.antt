-- The bytes that the moves write: sections laid one behind the other into zeros are a book's bytes, with names or without.
use mathlib.Core.Path.{◌≡◌, refl, sym, ap, ◌∙◌}
use mathlib.Core.Bool.{true}
use mathlib.Core.List.{List, [], ◌++◌, append-nil}
use Prim.Native.Nat.{ℕ, ◌+◌, ◌*◌, ◌≤◌}
use native.Mathlib.Omega.{arith}
use lib.ListN.{length, take, drop, length-append, length-drop}
use lib.Seq.{sets, take_at}
use Rattle.words.specs.Lists.{part_at}
use Rattle.words.specs.Words.{word_bytes, Below, zeros}
use Rattle.words.proofs.Bytes.{length_words}
use Rattle.words.proofs.Stored.{sets_then, sets-zeros}
use Rattle.forms.specs.Forms.{contents_size, contents_of}
use Rattle.forms.proofs.Contents.{length_contents}
use Rattle.names.specs.Names.{HOUSE-NAMES, name_at, names_bytes}
use Rattle.names.proofs.Standing.{Standing, names_stand, fewer_stand, names_short, names_within, names_all}
use Rattle.written.specs.Written.{with_zeros}
use Rattle.book.specs.Book.{Book}
use Rattle.book.specs.Encode.{body_words, book_bytes, named_bytes}
use Rattle.book.specs.Form.{DONE, book_sections, named_sections, settings_at, names_at, form_of, book_of}
use Rattle.book.proofs.Decoded.{formed, well_formed}
use Rattle.book.proofs.Holding.{body_long, holding_parts}
use Rattle.book.proofs.Rebuilt.{body_part}
use Rattle.moves.specs.Moves.{house_good, house_names, named_of, plain_of, laid_of}

-- two parts, and three, laid one behind the other into zeros
two_laid : (room : ℕ) (first second : List ℕ) (at : ℕ) → at ≡ length first → length (first ++ second) ≤ room
    → sets (sets (zeros room) 0 first) at second ≡ with_zeros (first ++ second) room
two_laid room first second at at_is fits =
    sets_then (zeros room) 0 first at second (omega arith) ∙ sets-zeros room (first ++ second) fits

three_laid : (room : ℕ) (first second third : List ℕ) (at next : ℕ) → at ≡ length first → next ≡ at + length second
    → length (first ++ (second ++ third)) ≤ room
    → sets (sets (sets (zeros room) 0 first) at second) next third ≡ with_zeros (first ++ (second ++ third)) room
three_laid room first second third at next at_is next-is fits =
    sets_then (sets (zeros room) 0 first) at second next third next-is ∙ two_laid room first (second ++ third) at at_is fits

module _ (bytes : List ℕ) (done : (form_of bytes).number ≡ DONE) where
  abbrev book : Book
  book = book_of bytes

  abbrev count : ℕ
  count = book.count

  abbrev kinds : ℕ
  kinds = book.kinds

  -- a book of good form: how much of it there is, and where its settings and nodes stand
  pub few_nodes : count ≤ 512
  few_nodes = (well_formed (formed bytes done)).few_nodes

  pub few_kinds : kinds ≤ 64
  few_kinds = (well_formed (formed bytes done)).few_kinds

  pub names_within_book : names_at bytes ≤ length bytes
  names_within_book = (formed bytes done).size.within

  pub body_within : settings_at bytes + (4 + 6 * count) ≤ length bytes
  unfolding book_of
  body_within = omega (arith, (formed bytes done).size.within)

  pub body_is : Below 256 bytes → part_at bytes (settings_at bytes) (4 + 6 * count) ≡ word_bytes (body_words book)
  body_is below = body_part bytes (formed bytes done) below

  abbrev body : List ℕ
  body = word_bytes (body_words book)

  pub body_size : length body ≡ 4 + 6 * count
  body_size = omega (arith, length_words (body_words book), body_long book)

  -- the book with sections of these sizes, and what follows: its parts, its size, and how it is laid into zeros
  module _ (sizes rest : List ℕ) where
    abbrev contents : List ℕ
    contents = word_bytes (contents_of sizes)

    contents_long : length contents ≡ contents_size (length sizes)
    contents_long = length_words (contents_of sizes) ∙ length_contents sizes

    laid_parts : laid_of bytes sizes rest ≡ contents ++ (body ++ rest)
    laid_parts = holding_parts sizes book rest

    pub laid_long : length (laid_of bytes sizes rest) ≡ contents_size (length sizes) + 4 + 6 * count + length rest
    laid_long =
        ap length laid_parts
        ∙ length-append contents (body ++ rest)
        ∙ omega (arith, contents_long, length-append body rest, body_size)

    pub book_laid : (room : ℕ) {at end : ℕ} {clear first part second other : List ℕ} → clear ≡ zeros room
        → at ≡ contents_size (length sizes) → end ≡ at + length body → end + length rest ≤ room
        → first ≡ sets clear 0 contents → part ≡ body → second ≡ sets first at part → other ≡ rest
        → sets second end other ≡ with_zeros (laid_of bytes sizes rest) room
    book_laid room {at} {end} {first = first} {second = second} is at_is end_is fits first_is part_is second_is other_is =
        (λ i. sets (second_laid i) end (other_is i))
        ∙ three_laid room contents body rest at end (at_is ∙ sym contents_long) end_is
        (omega (arith, fits, end_is, at_is, ap length laid_parts, laid_long, body_size))
        ∙ ap (λ (l : List ℕ). with_zeros l room) (sym laid_parts)
      where
        first_laid : first ≡ sets (zeros room) 0 contents
        first_laid = first_is ∙ ap (λ (l : List ℕ). sets l 0 contents) is

        second_laid : second ≡ sets (sets (zeros room) 0 contents) at body
        second_laid = second_is ∙ (λ i. sets (first_laid i) at (part_is i))

  pub plain_laid : laid_of bytes (book_sections count) [] ≡ plain_of bytes
  unfolding book_bytes
  plain_laid = append-nil _

  module _ (house : List ℕ) (good : house_good house ≡ true) where
    -- the first names of a good house list
    pub house_stands : Standing house 0 HOUSE-NAMES
    house_stands = names_stand house 0 HOUSE-NAMES good

    abbrev end : ℕ
    end = name_at house 0 kinds

    abbrev names : List (List ℕ)
    names = house_names house kinds

    pub end_small : end ≤ 1088
    end_small = omega (arith, names_short house 0 house_stands kinds few_kinds, few_kinds)

    pub end_within : end ≤ length house
    end_within = names_within house 0 house_stands kinds few_kinds (omega arith)

    house_splits : house ≡ names_bytes names ++ drop end house
    house_splits = names_all house 0 (fewer_stand house 0 few_kinds house_stands)

    pub names_size : length (names_bytes names) ≡ end
    names_size =
        let sizes = ap length house_splits ∙ length-append (names_bytes names) (drop end house) in
        omega (arith, sizes, length-drop end house, end_within)

    pub names_part : part_at house 0 end ≡ names_bytes names
    names_part = ap (take end) house_splits ∙ take_at (names_bytes names) (drop end house) end names_size

    -- the book with them
    pub named_laid : laid_of bytes (named_sections count (length (names_bytes names))) (names_bytes names) ≡ named_of bytes house
    unfolding named_bytes
    named_laid = refl
