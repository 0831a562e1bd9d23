-- Looking up a kind's name: a part of the book or of the house list, or nothing.
use Rattle.std.specs.Prelude.{ℕ, ◌+◌, ◌&&◌, cond, List, [], ltb, eqb, get_or, Option, Some, None}
use Rattle.words.specs.Lists.{part_at}
use Rattle.names.specs.Names.{name_at, name_of}
use Rattle.book.specs.Form.{DONE, named, names_at, form_of, book_of}
use Rattle.moves.specs.Moves.{house_good}
use Rattle.moves.specs.declared.Part.{Part}
use Rattle.moves.specs.declared.Source.{Source}

-- where a kind's name is looked up: in the book where it has names, else in the house list; nowhere if what is needed
-- is refused, or the kind is not one of the book's
unfoldable pub source_of : List ℕ → List ℕ → ℕ → Option Source
source_of bytes house kind =
    cond (eqb (form_of bytes).number DONE && ltb kind (book_of bytes).kinds)
    (cond (named bytes) (Some Source.Book) (cond (house_good house) (Some Source.House) None))
    None

-- a kind's name
abbrev pub name_in : Option Source → List ℕ → List ℕ → ℕ → List ℕ
name_in None bytes house kind = []
name_in (Some Source.Book) bytes house kind = name_of bytes (names_at bytes) kind
name_in (Some Source.House) bytes house kind = name_of house 0 kind

abbrev pub kind_name : List ℕ → List ℕ → ℕ → List ℕ
kind_name bytes house kind = name_in (source_of bytes house kind) bytes house kind

-- a part: of nothing 0, of the book 1, of the house list 2; the offset of its first byte, and its size
abbrev pub part : ℕ → ℕ → ℕ → Part
part from offset size = record { from = from; offset = offset; size = size }

-- the part that is the name with a number, without its length byte
abbrev pub name_part : ℕ → List ℕ → ℕ → ℕ → Part
name_part from bytes base n = part from (name_at bytes base n + 1) (get_or bytes (name_at bytes base n) 0)

-- where a kind's name stands
abbrev pub part_in : Option Source → List ℕ → List ℕ → ℕ → Part
part_in None bytes house kind = part 0 0 0
part_in (Some Source.Book) bytes house kind = name_part 1 bytes (names_at bytes) kind
part_in (Some Source.House) bytes house kind = name_part 2 house 0 kind

abbrev pub part_of : List ℕ → List ℕ → ℕ → Part
part_of bytes house kind = part_in (source_of bytes house kind) bytes house kind

-- the bytes of a part
abbrev pub part_bytes : Part → List ℕ → List ℕ → List ℕ
part_bytes p bytes house =
    cond (eqb p.from 1) (part_at bytes p.offset p.size)
    (cond (eqb p.from 2) (part_at house p.offset p.size) [])
