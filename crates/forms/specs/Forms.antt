-- Forms: contents first, then sections one after the other. A form is the list of its sections' sizes.
use Rattle.std.specs.Prelude.{ℕ, ◌+◌, ◌*◌, ◌-◌, Bool, true, ◌&&◌, List, [], ◌∷◌, eqb, length, take}
use Rattle.words.specs.Words.{u16_at}

-- the offset past sections of these sizes, from an offset on
abbrev pub past : ℕ → List ℕ → ℕ
past at [] = at
past at (size ∷ more) = past (at + size) more

-- the size of the contents of so many sections: their count, then three numbers for each
abbrev pub contents_size : ℕ → ℕ
contents_size sections = 2 + 6 * sections

-- the offset of a section of a form, by its number from 1 on
abbrev pub section_at : List ℕ → ℕ → ℕ
section_at sizes section = past (contents_size (length sizes)) (take (section - 1) sizes)

-- the size of a form: the offset past its last section
abbrev pub form_size : List ℕ → ℕ
form_size sizes = past (contents_size (length sizes)) sizes

-- the contents entries of sections, from a number and an offset on: for each its number, its offset and its size
abbrev pub entries_from : ℕ → ℕ → List ℕ → List ℕ
entries_from section at [] = []
entries_from section at (size ∷ more) = section ∷ at ∷ size ∷ entries_from (section + 1) (at + size) more

-- the contents of a form: how many sections it has, and their entries
abbrev pub contents_of : List ℕ → List ℕ
contents_of sizes = length sizes ∷ entries_from 1 (contents_size (length sizes)) sizes

-- whether these 16-bit numbers stand in bytes, from a place on
abbrev pub words_are : List ℕ → ℕ → List ℕ → Bool
words_are bytes at [] = true
words_are bytes at (word ∷ more) = eqb (u16_at bytes at) word && words_are bytes (at + 2) more

-- whether bytes begin with the contents of a form
abbrev pub contents_are : List ℕ → List ℕ → Bool
contents_are bytes sizes = words_are bytes 0 (contents_of sizes)
