-- Where the name of a kind stands: a part of the book or of the house list.
use mathlib.Core.Path.{◌≡◌, refl, sym, ap, ◌∙◌}
use mathlib.Core.Bool.{Bool, true, false, ◌&&◌, cond}
use mathlib.Core.List.{List, []}
use mathlib.Core.Logic.{◌≢◌}
use Prim.Native.Nat.{ℕ, ◌+◌, ◌-◌, ◌≤◌, ◌<◌}
use native.Mathlib.Nat.{zero-add}
use native.Mathlib.Omega.{arith}
use borrow.Author.Tests.{eq-eqb, ne_eqb, lt-ltb, le-ltb, eqb-true, ltb-true}
use lib.Dec.{ltb, eqb}
use lib.ListN.{length, get_or, take, drop}
use Rattle.std.specs.Prelude.{Option, Some, None}
use Rattle.words.proofs.Same.{part_between}
use Rattle.words.proofs.Tests.{both}
use Rattle.names.specs.Names.{HOUSE-NAMES, past_name, name_at, name_of, names_of}
use Rattle.names.proofs.Standing.{get_d_names, names_stand, names_short}
use Rattle.book.specs.Form.{DONE, named, names_at, kinds_of, form_of, book_of, book_names}
use Rattle.book.proofs.Decoded.{formed}
use Rattle.book.proofs.Laws.{length-named}
use Rattle.moves.specs.Look.{source_of, name_in, kind_name, part, name_part, part_in, part_of, part_bytes}
use Rattle.moves.specs.Moves.{house_good}
use Rattle.moves.specs.declared.Part.{Part}
use Rattle.moves.specs.declared.Source.{Source}
use Rattle.book.specs.Errors.{judged_by}
use Rattle.book.specs.declared.BookError.{BookError}
use Rattle.book.specs.declared.Judged.{Judged}
use Rattle.moves.proofs.Answers.{not_done}
use Rattle.moves.proofs.Laid.{few_kinds}

-- a kind's name is the part that is said
pub name_is_part : (bytes house : List ℕ) (kind : ℕ) → kind_name bytes house kind ≡ part_bytes (part_of bytes house kind) bytes house
name_is_part bytes house kind = go (source_of bytes house kind)
  where
    go : (s : Option Source) → name_in s bytes house kind ≡ part_bytes (part_in s bytes house kind) bytes house
    go None = refl
    go (Some Source.Book) = refl
    go (Some Source.House) = refl

module _ (bytes house : List ℕ) (kind : ℕ) where
  -- where a name is looked up, test by test
  pub source_refused : (form_of bytes).number ≢ DONE → None ≡ source_of bytes house kind
  unfolding source_of
  source_refused other = rw (ne_eqb (form_of bytes).number DONE other)

  module _ (done : (form_of bytes).number ≡ DONE) where
    pub source_none : (book_of bytes).kinds ≤ kind → None ≡ source_of bytes house kind
    unfolding source_of
    source_none past = rw (eq-eqb (form_of bytes).number DONE done, le-ltb kind (book_of bytes).kinds past)

    module _ (below : kind < (book_of bytes).kinds) where
      pub source_book : named bytes ≡ true → (Some Source.Book) ≡ source_of bytes house kind
      unfolding source_of
      source_book has = rw (eq-eqb (form_of bytes).number DONE done, lt-ltb kind (book_of bytes).kinds below, has)

      module _ (plain : named bytes ≡ false) where
        pub source_bad : house_good house ≡ false → None ≡ source_of bytes house kind
        unfolding source_of
        source_bad bad = rw (eq-eqb (form_of bytes).number DONE done, lt-ltb kind (book_of bytes).kinds below, plain, bad)

        pub source_house : house_good house ≡ true → (Some Source.House) ≡ source_of bytes house kind
        unfolding source_of
        source_house good = rw (eq-eqb (form_of bytes).number DONE done, lt-ltb kind (book_of bytes).kinds below, plain, good)

-- what the tests have shown where a name is looked up
tests_book : (taken has good : Bool)
    → cond taken (cond has (Some Source.Book) (cond good (Some Source.House) None)) None ≡ (Some Source.Book)
    → (taken ≡ true) × (has ≡ true)
tests_book true true good is = (refl, refl)
tests_book true false true is = let clash : ◌≡◌ {A = ℕ} 0 1 = cc in absurd (omega arith)
tests_book true false false is = let clash : ◌≡◌ {A = ℕ} 0 1 = cc in absurd (omega arith)
tests_book false has good is = let clash : ◌≡◌ {A = ℕ} 0 1 = cc in absurd (omega arith)

tests_house : (taken has good : Bool)
    → cond taken (cond has (Some Source.Book) (cond good (Some Source.House) None)) None ≡ (Some Source.House)
    → (taken ≡ true) × (has ≡ false) × (good ≡ true)
tests_house true true good is = let clash : ◌≡◌ {A = ℕ} 0 1 = cc in absurd (omega arith)
tests_house true false true is = (refl, refl, refl)
tests_house true false false is = let clash : ◌≡◌ {A = ℕ} 0 1 = cc in absurd (omega arith)
tests_house false has good is = let clash : ◌≡◌ {A = ℕ} 0 1 = cc in absurd (omega arith)

-- a name that is there, not far from the beginning
pub record There (list : List ℕ) (base n : ℕ) : Type 0 where
  pub within : past_name list (name_at list base n) ≤ length list
  pub near : name_at list base n ≤ 4184

module _ (bytes house : List ℕ) (kind : ℕ) where
  -- a name looked up in the book is there
  module _ (is : source_of bytes house kind ≡ (Some Source.Book)) where
    book_tests : ((form_of bytes).number ≡ DONE) × (kind < (book_of bytes).kinds) × (named bytes ≡ true)
    unfolding source_of
    book_tests =
        let (taken, has) =
        tests_book (eqb (form_of bytes).number DONE && ltb kind (book_of bytes).kinds) (named bytes) (house_good house) is in
        let (form, below) = both (eqb (form_of bytes).number DONE) _ taken in
        (eqb-true _ _ form, ltb-true _ _ below, has)

    pub book_form : (form_of bytes).number ≡ DONE
    book_form = book_tests.0

    pub in_book : There bytes (names_at bytes) kind
    unfolding book_of
    in_book =
        let form = formed bytes book_form in
        let stand = names_stand bytes (names_at bytes) (kinds_of bytes) (form.names_good_lem book_tests.2) in
        let ends = (stand.each_whole kind book_tests.1).within in
        record { within = ends; near = omega (arith, ends, length-named bytes book_tests.2 form.long) }

  -- a name looked up in the house list is there
  pub in_house : source_of bytes house kind ≡ (Some Source.House) → There house 0 kind
  unfolding source_of
  in_house is =
      let (taken, plain, good) =
      tests_house (eqb (form_of bytes).number DONE && ltb kind (book_of bytes).kinds) (named bytes) (house_good house) is in
      let (form, below) = both (eqb (form_of bytes).number DONE) _ taken in
      let few = few_kinds bytes (eqb-true _ _ form) in
      let stand = names_stand house 0 HOUSE-NAMES good in
      let known : kind < (book_of bytes).kinds = ltb-true _ _ below in
      let among : kind < HOUSE-NAMES = omega (arith, few) in
      record { within = (stand.each_whole kind among).within; near = omega (arith, names_short house 0 stand kind (omega arith)) }

  pub book_there : source_of bytes house kind ≡ Some Source.Book
      → (past_name bytes (name_at bytes (names_at bytes) kind) ≤ length bytes) × (name_at bytes (names_at bytes) kind ≤ 4184)
  book_there is = let there = in_book is in (there.within, there.near)

  pub house_there : source_of bytes house kind ≡ Some Source.House
      → (past_name house (name_at house 0 kind) ≤ length house) × (name_at house 0 kind ≤ 4184)
  house_there is = let there = in_house is in (there.within, there.near)

  -- the part, by where the name is looked up
  pub part_none : source_of bytes house kind ≡ None → part 0 0 0 ≡ part_of bytes house kind
  part_none is = sym (ap (λ (s : Option Source). part_in s bytes house kind) is)

  pub part_refused : (error : BookError) → form_of bytes ≡ judged_by error → part 0 0 0 ≡ part_of bytes house kind
  part_refused error is =
      part_none (sym (source_refused bytes house kind (λ done. not_done error (sym (ap (λ (j : Judged). j.number) is) ∙ done))))

  pub part_book : source_of bytes house kind ≡ (Some Source.Book) → {at size : ℕ} → at ≡ name_at bytes (names_at bytes) kind → size ≡ get_or bytes at 0
      → part 1 (at + 1) size ≡ part_of bytes house kind
  part_book is {at} {size} at_is size_is =
      (λ i. part 1 (at_is i + 1) ((size_is ∙ ap (λ (n : ℕ). get_or bytes n 0) at_is) i))
      ∙ sym (ap (λ (s : Option Source). part_in s bytes house kind) is)

  pub part_house : source_of bytes house kind ≡ (Some Source.House) → {at size : ℕ} → at ≡ name_at house 0 kind → size ≡ get_or house at 0
      → part 2 (at + 1) size ≡ part_of bytes house kind
  part_house is {at} {size} at_is size_is =
      (λ i. part 2 (at_is i + 1) ((size_is ∙ ap (λ (n : ℕ). get_or house n 0) at_is) i))
      ∙ sym (ap (λ (s : Option Source). part_in s bytes house kind) is)

  -- the part by its number: its bytes are there, and are the name
  module _ {found : Part} (is : found ≡ part_of bytes house kind) where
    part_source : (s : Option Source) → source_of bytes house kind ≡ s → found ≡ part_in s bytes house kind
    part_source s told = is ∙ ap (λ (t : Option Source). part_in t bytes house kind) told

    from_book : found.from ≡ 1 → There bytes (names_at bytes) kind × (found ≡ name_part 1 bytes (names_at bytes) kind)
    from_book one = go (source_of bytes house kind) refl
      where
        go : (s : Option Source) → source_of bytes house kind ≡ s
            → There bytes (names_at bytes) kind × (found ≡ name_part 1 bytes (names_at bytes) kind)
        go None told = absurd (omega (arith, one, ap (λ (p : Part). p.from) (part_source None told)))
        go (Some Source.Book) told = (in_book told, part_source (Some Source.Book) told)
        go (Some Source.House) told = absurd (omega (arith, one, ap (λ (p : Part). p.from) (part_source (Some Source.House) told)))

    from_house : found.from ≡ 2 → There house 0 kind × (found ≡ name_part 2 house 0 kind)
    from_house two = go (source_of bytes house kind) refl
      where
        go : (s : Option Source) → source_of bytes house kind ≡ s → There house 0 kind × (found ≡ name_part 2 house 0 kind)
        go None told = absurd (omega (arith, two, ap (λ (p : Part). p.from) (part_source None told)))
        go (Some Source.Book) told = absurd (omega (arith, two, ap (λ (p : Part). p.from) (part_source (Some Source.Book) told)))
        go (Some Source.House) told = (in_house told, part_source (Some Source.House) told)

    -- the name, by the part's number
    pub name_by_part : kind_name bytes house kind ≡ part_bytes found bytes house
    name_by_part = name_is_part bytes house kind ∙ ap (λ (p : Part). part_bytes p bytes house) (sym is)

    -- the part's bytes, by the places between which they stand
    pub book_within : found.from ≡ 1 → found.offset + found.size ≤ length bytes
    book_within one =
        let (there, told) = from_book one in
        omega (arith, there.within, ap (λ (p : Part). p.offset) told, ap (λ (p : Part). p.size) told)

    pub house_within : found.from ≡ 2 → found.offset + found.size ≤ length house
    house_within two =
        let (there, told) = from_house two in
        omega (arith, there.within, ap (λ (p : Part). p.offset) told, ap (λ (p : Part). p.size) told)

    pub name_in_book : found.from ≡ 1 → take (found.offset + found.size - found.offset) (drop found.offset bytes) ≡ kind_name bytes house kind
    name_in_book one = part_between bytes found.offset found.size ∙ sym (name_by_part ∙ rw (eq-eqb found.from 1 one))

    pub name_in_house : found.from ≡ 2 → take (found.offset + found.size - found.offset) (drop found.offset house) ≡ kind_name bytes house kind
    name_in_house two =
        part_between house found.offset found.size
        ∙ sym (name_by_part ∙ rw (ne_eqb found.from 1 (λ one. omega arith), eq-eqb found.from 2 two))

    pub no_name : found.from ≢ 1 → found.from ≢ 2 → [] ≡ kind_name bytes house kind
    no_name one two = sym (name_by_part ∙ rw (ne_eqb found.from 1 one, ne_eqb found.from 2 two))

-- ---- what a look-up comes to

module _ (bytes house : List ℕ) (kind : ℕ) where
  -- nothing where the book's form is refused, or the kind is not one of its own
  pub name_refused : (form_of bytes).number ≢ DONE → kind_name bytes house kind ≡ []
  name_refused other = sym (ap (λ (s : Option Source). name_in s bytes house kind) (source_refused bytes house kind other))

  module _ (done : (form_of bytes).number ≡ DONE) where
    pub name_none : (book_of bytes).kinds ≤ kind → kind_name bytes house kind ≡ []
    name_none past = sym (ap (λ (s : Option Source). name_in s bytes house kind) (source_none bytes house kind done past))

    module _ (below : kind < (book_of bytes).kinds) where
      -- the book's own name where it has names, whatever the house list
      pub name_of_book : named bytes ≡ true → kind_name bytes house kind ≡ get_or (book_names bytes) kind []
      unfolding book_of
      name_of_book has =
          sym (ap (λ (s : Option Source). name_in s bytes house kind) (source_book bytes house kind done below has))
          ∙ sym (get_d_names bytes (names_at bytes) (kinds_of bytes) 0 kind below ∙ ap (name_of bytes (names_at bytes)) (zero-add kind))

      -- else the house list's, if that is good
      pub name_of_house : named bytes ≡ false → house_good house ≡ true
          → kind_name bytes house kind ≡ get_or (names_of house 0 HOUSE-NAMES) kind []
      name_of_house plain good =
          sym (ap (λ (s : Option Source). name_in s bytes house kind) (source_house bytes house kind done below plain good))
          ∙ sym (get_d_names house 0 HOUSE-NAMES 0 kind (omega (arith, few_kinds bytes done)) ∙ ap (name_of house 0) (zero-add kind))

      pub name_bad_house : named bytes ≡ false → house_good house ≡ false → kind_name bytes house kind ≡ []
      name_bad_house plain bad = sym (ap (λ (s : Option Source). name_in s bytes house kind) (source_bad bytes house kind done below plain bad))
