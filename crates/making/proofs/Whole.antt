-- A book written part by part into a clear buffer: contents, kinds and start, nodes, names.
use mathlib.Core.Path.{◌≡◌, sym, ap, ◌∙◌}
use mathlib.Core.List.{List, [], ◌∷◌, ◌++◌}
use Prim.Native.Nat.{ℕ, ◌+◌, ◌*◌, ◌≤◌, ◌<◌}
use native.Mathlib.Omega.{arith}
use borrow.Author.Tests.{le-leb, lt-leb}
use lib.ListN.{length, length-append, length-replicate}
use lib.Seq.{sets}
use Rattle.words.specs.Words.{with_u16, word_bytes, zeros}
use Rattle.words.proofs.Bytes.{length_words, words_append}
use Rattle.words.proofs.Stored.{sets_then, sets_word, sets-zeros}
use Rattle.forms.specs.Forms.{contents_of}
use Rattle.written.specs.Written.{written, with_zeros, handed, refused_with, OUT-ROOM, Hands}
use Rattle.written.specs.declared.Written.{Written}
use Rattle.book.specs.Form.{named_sections}
use Rattle.book.proofs.Holding.{length_node}
use Rattle.names.specs.Names.{names_bytes}
use Rattle.resolving.specs.Writing.{last_of, resolved}
use Rattle.making.specs.Bytes.{Down, names_down, node_written, nodes_words, made_bytes}
use Rattle.making.proofs.Numbers.{length_threes}

-- one run of stores behind another
behind : (l : List ℕ) {prev next : List ℕ} (done : List ℕ) {at : ℕ} (more : List ℕ) → prev ≡ sets l 0 done → next ≡ sets prev at more
    → at ≡ length done → next ≡ sets l 0 (done ++ more)
behind l done {at} more is stored place =
    stored ∙ ap (λ (m : List ℕ). sets m at more) is ∙ sets_then l 0 done at more (omega arith)

-- a cleared buffer
pub cleared_long : (room : ℕ) {after : List ℕ} → after ≡ zeros room → length after ≡ room
cleared_long room is = ap length is ∙ length-replicate room 0

pub cleared-zeros : (room : ℕ) {after : List ℕ} → after ≡ zeros room → after ≡ zeros (length after)
cleared-zeros room is = is ∙ ap zeros (sym (cleared_long room is))

module _ (d : Down) where
  abbrev names : List ℕ
  names = names_bytes (names_down d)

  abbrev count : ℕ
  count = length d.nodes

  abbrev many : ℕ
  many = length d.kinds

  abbrev start : ℕ
  start = last_of d.rows 0

  abbrev contents : List ℕ
  contents = word_bytes (contents_of (named_sections count (length names)))

  abbrev written_nodes : List ℕ
  written_nodes = nodes_words d

  abbrev whole : List ℕ
  whole = made_bytes d

  -- the parts, one behind the other
  parts : contents ++ word_bytes (many ∷ []) ++ word_bytes (start ∷ []) ++ word_bytes written_nodes ++ names ≡ whole
  unfolding made_bytes word_bytes
  parts =
      sym (ap (λ (l : List ℕ). l ++ names) (words_append (contents_of (named_sections count (length names))) (many ∷ start ∷ written_nodes)))

  length_nodes : length (word_bytes written_nodes) ≡ 6 * count
  length_nodes =
      length_words written_nodes ∙ omega (arith, length_threes (node_written d) (λ raw. length_node (resolved d.text d.rows d.kinds raw.node raw.place)) d.nodes)

  length_contents : length contents ≡ 20
  length_contents = length_words (contents_of (named_sections count (length names)))

  two_long : length (contents ++ word_bytes (many ∷ [])) ≡ 22
  two_long = length-append contents (word_bytes (many ∷ [])) ∙ omega (arith, length_contents, length_words (many ∷ []))

  three_long : length (contents ++ word_bytes (many ∷ []) ++ word_bytes (start ∷ [])) ≡ 24
  three_long =
      length-append (contents ++ word_bytes (many ∷ [])) (word_bytes (start ∷ []))
      ∙ omega (arith, two_long, length_words (start ∷ []))

  four_long : length (contents ++ word_bytes (many ∷ []) ++ word_bytes (start ∷ []) ++ word_bytes written_nodes) ≡ 24 + 6 * count
  four_long =
      length-append (contents ++ word_bytes (many ∷ []) ++ word_bytes (start ∷ [])) (word_bytes written_nodes)
      ∙ omega (arith, three_long, length_nodes)

  pub length_whole : length whole ≡ 24 + 6 * count + length names
  length_whole =
      ap length (sym parts)
      ∙ length-append (contents ++ word_bytes (many ∷ []) ++ word_bytes (start ∷ []) ++ word_bytes written_nodes) names
      ∙ omega (arith, four_long)

  -- stored one behind the other in a clear buffer they are the book and zeros behind it
  pub book-written : {clear one two three four five : List ℕ} {size at count' many' start' : ℕ}
      → count' ≡ count → many' ≡ many → start' ≡ start → at ≡ 20 → clear ≡ zeros (length clear) → size ≡ length names
      → 24 + 6 * count + size ≤ length clear
      → one ≡ sets clear 0 (word_bytes (contents_of (named_sections count' size)))
      → two ≡ with_u16 one at many'
      → three ≡ with_u16 two (at + 2) start'
      → four ≡ sets three (at + 4) (word_bytes written_nodes)
      → five ≡ sets four (at + 4 + 6 * count') names
      → five ≡ with_zeros whole (length clear)
  book-written {clear} {one} {two} {three} {four} {five} {size} {at} {count'} {many'} {start'} count_is many_is start_is place is-clear size_is fits first second third fourth fifth =
      let a : one ≡ sets clear 0 contents = rw (size_is, count_is) at first in
      let b = behind clear contents (word_bytes (many ∷ [])) a (second ∙ sets_word one at many' ∙ ap (λ (n : ℕ). sets one at (word_bytes (n ∷ []))) many_is) (place ∙ sym length_contents) in
      let c = behind clear (contents ++ word_bytes (many ∷ [])) (word_bytes (start ∷ [])) b
      (third ∙ sets_word two (at + 2) start' ∙ ap (λ (n : ℕ). sets two (at + 2) (word_bytes (n ∷ []))) start_is) (omega (arith, two_long)) in
      let d = behind clear (contents ++ word_bytes (many ∷ []) ++ word_bytes (start ∷ [])) (word_bytes written_nodes) c fourth
      (omega (arith, three_long)) in
      let e = behind clear (contents ++ word_bytes (many ∷ []) ++ word_bytes (start ∷ []) ++ word_bytes written_nodes) names d fifth
      (omega (arith, four_long, count_is)) in
      e ∙ ap (sets clear 0) parts ∙ ap (λ (l : List ℕ). sets l 0 whole) is-clear
      ∙ sets-zeros (length clear) whole (omega (arith, length_whole))

  -- a book is handed over, or there is no room for it
  module _ {room size : ℕ} (size_is : size ≡ 24 + 6 * count + length names) where
    pub no_room : {answer : Written} {bytes : List ℕ} → room < size → Hands (refused_with OUT-ROOM 0 room) answer bytes
        → Hands (handed whole room) answer bytes
    unfolding handed
    no_room short hands = rw (lt-leb (length whole) room (omega (arith, length_whole))) hands

    pub has_room : {bytes : List ℕ} {long : ℕ} → size ≤ room → long ≡ room → bytes ≡ with_zeros whole long
        → Hands (handed whole room) (written 0 size 0) bytes
    unfolding handed
    has_room fits long-is is =
        rw (le-leb (length whole) room (omega (arith, length_whole)))
        (record { answer_is = ap (λ (s : ℕ). written 0 s 0) (size_is ∙ sym length_whole); bytes_are = is ∙ ap (with_zeros whole) long-is })
