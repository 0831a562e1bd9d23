-- The form of a book, of two sections or, with names, of three: numbers 1 to 4 and 19.
use Rattle.std.specs.Prelude.{ℕ, ◌+◌, ◌*◌, ◌-◌, ◌/◌, Bool, ◌&&◌, cond, List, [], ◌∷◌, ltb, leb, eqb, length}
use Rattle.words.specs.Words.{u16_at}
use Rattle.words.specs.Lists.{first_bad}
use Rattle.forms.specs.Forms.{contents_size, section_at, contents_are}
use Rattle.names.specs.Names.{NAMES, names_good, first_bad_name, names_of}
use Rattle.book.specs.Book.{Book}
use Rattle.book.specs.Decode.{nodes, node_good}
use Rattle.book.specs.declared.Judged.{Judged}

-- the answers' numbers, with NAMES for a book with names
abbrev pub DONE : ℕ
DONE = 0

abbrev pub LENGTH : ℕ
LENGTH = 1

abbrev pub CONTENTS : ℕ
CONTENTS = 2

abbrev pub SETTINGS : ℕ
SETTINGS = 3

abbrev pub NODE : ℕ
NODE = 4

-- the sections of a book with so many nodes, by their sizes: settings and nodes; then names, of so many bytes
abbrev pub book_sections : ℕ → List ℕ
book_sections count = 4 ∷ (6 * count) ∷ []

abbrev pub named_sections : ℕ → ℕ → List ℕ
named_sections count size = 4 ∷ (6 * count) ∷ size ∷ []

-- whether bytes begin as a book with names: with a count of three sections
unfoldable pub named : List ℕ → Bool
named bytes = eqb (u16_at bytes 0) 3

-- where the settings begin, and behind them the nodes
unfoldable pub settings_at : List ℕ → ℕ
settings_at bytes = cond (named bytes) (section_at (named_sections 0 0) 1) (section_at (book_sections 0) 1)

abbrev pub nodes_at : List ℕ → ℕ
nodes_at bytes = settings_at bytes + 4

-- how many nodes there are: with names by the size of section 2 in the contents, else by the length
unfoldable pub count_of : List ℕ → ℕ
count_of bytes = cond (named bytes) (u16_at bytes (contents_size 1 + 4) / 6) ((length bytes - nodes_at bytes) / 6)

-- how many nodes bytes claim to have: none where they are shorter than any book
abbrev pub count_claimed : List ℕ → ℕ
count_claimed bytes = cond (ltb (length bytes) 24) 0 (count_of bytes)

-- where the nodes end, and the names begin
abbrev pub names_at : List ℕ → ℕ
names_at bytes = nodes_at bytes + 6 * count_of bytes

-- how many kinds there are, and the start
abbrev pub kinds_of : List ℕ → ℕ
kinds_of bytes = u16_at bytes (settings_at bytes)

abbrev pub start_of : List ℕ → ℕ
start_of bytes = u16_at bytes (settings_at bytes + 2)

-- N is 1 to 512
abbrev pub few_nodes : List ℕ → Bool
few_nodes bytes = leb 1 (count_of bytes) && leb (count_of bytes) 512

-- the length is 18 + 6N for such an N; with names it is 32 to 4,184
abbrev pub length_good : List ℕ → Bool
length_good bytes =
    cond (named bytes)
    (leb 32 (length bytes) && leb (length bytes) 4184)
    (few_nodes bytes && eqb (length bytes) (names_at bytes))

-- the sections: settings and nodes; with names also all that follows
abbrev pub sections_of : List ℕ → List ℕ
sections_of bytes =
    cond (named bytes) (named_sections (count_of bytes) (length bytes - names_at bytes)) (book_sections (count_of bytes))

-- the contents are those of the sections, for such an N, whose nodes all stand in the bytes
abbrev pub contents_good : List ℕ → Bool
contents_good bytes = few_nodes bytes && leb (names_at bytes) (length bytes) && contents_are bytes (sections_of bytes)

-- settings at an offset, for a count of nodes: 1 to 64 kinds, and a start among the nodes
abbrev pub settings_good : List ℕ → ℕ → ℕ → Bool
settings_good bytes at count =
    leb 1 (u16_at bytes at) && leb (u16_at bytes at) 64 && ltb (u16_at bytes (at + 2)) count

-- the first node that is against the type table, or the count where none is
abbrev pub bad_node : List ℕ → ℕ
bad_node bytes = first_bad (node_good bytes (nodes_at bytes) (kinds_of bytes) (count_of bytes)) (count_of bytes) 0

-- an answer with its place
abbrev pub judged : ℕ → ℕ → Judged
judged number place = record { number = number; place = place }

-- the names' answer: with names, a good one for each kind stands at an offset, and nothing else
abbrev pub names_form : List ℕ → ℕ → ℕ → Judged
names_form bytes at kinds =
    cond (named bytes)
    (cond (names_good bytes at kinds) (judged DONE 0) (judged NAMES (first_bad_name bytes at kinds)))
    (judged DONE 0)

-- the form of a book: done, or the first of 1 to 4 and 19 with its place
unfoldable pub form_of : List ℕ → Judged
form_of bytes =
    cond (length_good bytes)
    (cond (contents_good bytes)
    (cond (settings_good bytes (settings_at bytes) (count_of bytes))
    (cond (leb (count_of bytes) (bad_node bytes))
    (names_form bytes (names_at bytes) (kinds_of bytes))
    (judged NODE (bad_node bytes)))
    (judged SETTINGS 0))
    (judged CONTENTS 0))
    (judged LENGTH 0)

-- the book that bytes are
unfoldable pub book_of : List ℕ → Book
book_of bytes =
    record {
      count = count_of bytes;
      kinds = kinds_of bytes;
      start = start_of bytes;
      node = nodes bytes (nodes_at bytes) (count_of bytes);
    }

-- the names that stand in a book's bytes, one for each kind
abbrev pub book_names : List ℕ → List (List ℕ)
book_names bytes = names_of bytes (names_at bytes) (kinds_of bytes)
