-- Laws of the form of a book: where its parts stand, what good contents say, and the answer by each test.
use mathlib.Core.Path.{◌≡◌, refl}
use mathlib.Core.Bool.{Bool, true, false, ◌&&◌, cond}
use mathlib.Core.Logic.{◌⊎◌, inl, inr}
use mathlib.Core.List.{List}
use Prim.Native.Nat.{ℕ, ◌+◌, ◌-◌, ◌/◌, ◌≤◌, ◌<◌}
use native.Mathlib.Omega.{arith}
use borrow.Author.Tests.{leb-true, ltb-true, eqb-true, le-leb, lt-leb}
use lib.Dec.{leb, eqb}
use lib.ListN.{length}
use Rattle.words.specs.Words.{u16_at}
use Rattle.words.proofs.FirstBad.{first_most}
use Rattle.words.proofs.Tests.{both, fails}
use Rattle.forms.specs.Forms.{contents_are}
use Rattle.names.specs.Names.{NAMES, name_good, names_good, first_bad_name}
use Rattle.book.specs.Form.{judged, DONE, LENGTH, CONTENTS, SETTINGS, NODE, named, settings_at, count_of, names_at, kinds_of}
use Rattle.book.specs.Form.{sections_of, few_nodes, length_good, contents_good, settings_good}
use Rattle.book.specs.Form.{bad_node, names_form, form_of}

-- where settings stand, and how many nodes there are, without names and with them
module _ (bytes : List ℕ) where
  pub settings_plain : named bytes ≡ false → settings_at bytes ≡ 14
  unfolding settings_at
  settings_plain plain = rw plain

  pub settings_named : named bytes ≡ true → settings_at bytes ≡ 20
  unfolding settings_at
  settings_named names = rw names

  pub count_plain : named bytes ≡ false → count_of bytes ≡ (length bytes - 18) / 6
  unfolding count_of
  count_plain plain = rw (plain, settings_plain plain)

  pub count_named : named bytes ≡ true → count_of bytes ≡ u16_at bytes 12 / 6
  unfolding count_of
  count_named names = rw names

-- the settings begin after the contents of two sections, and not after those of three
pub settings_between : (bytes : List ℕ) → (14 ≤ settings_at bytes) × (settings_at bytes ≤ 20)
settings_between bytes = go (named bytes) refl
  where
    go : (t : Bool) → named bytes ≡ t → (14 ≤ settings_at bytes) × (settings_at bytes ≤ 20)
    go true is = omega (arith, settings_named bytes is)
    go false is = omega (arith, settings_plain bytes is)

-- N is 1 to 512, and so many nodes stand in the bytes
pub record Sized (bytes : List ℕ) : Type 0 where
  pub some_node : 0 < count_of bytes
  pub few_nodes : count_of bytes ≤ 512
  pub within : names_at bytes ≤ length bytes

-- a number that a test finds within bounds is within wider ones
at_least : {n least lower : ℕ} → leb least n ≡ true → lower ≤ least → lower ≤ n
at_least {n} {least} test wider = omega (arith, leb-true least n test)

at_most_lem : {n most upper : ℕ} → leb n most ≡ true → most ≤ upper → n ≤ upper
at_most_lem {n} {most} test wider = omega (arith, leb-true n most test)

-- what the test of N says
pub few_nodes_are : (bytes : List ℕ) → few_nodes bytes ≡ true → (0 < count_of bytes) × (count_of bytes ≤ 512)
few_nodes_are bytes few =
    let (least, most) = both (leb 1 (count_of bytes)) _ few in
    (at_least {n = count_of bytes} least (omega arith), at_most_lem {n = count_of bytes} most (omega arith))

-- a length that is good without names is that of such nodes; with names it is 32 to 4,184
pub length_plain : (bytes : List ℕ) → named bytes ≡ false → length_good bytes ≡ true
    → (0 < count_of bytes) × (count_of bytes ≤ 512) × (length bytes ≡ names_at bytes)
length_plain bytes plain good =
    let tests : (few_nodes bytes && eqb (length bytes) (names_at bytes)) ≡ true = rw plain at good in
    let (few, whole) = both (few_nodes bytes) _ tests in
    let (some_node, at_most_512) = few_nodes_are bytes few in
    (some_node, at_most_512, eqb-true _ _ whole)

pub length-named : (bytes : List ℕ) → named bytes ≡ true → length_good bytes ≡ true → (32 ≤ length bytes) × (length bytes ≤ 4184)
length-named bytes names good =
    let tests = rw names at good in
    let (least, most) = both _ _ tests in
    (at_least {n = length bytes} least (omega arith), at_most_lem {n = length bytes} most (omega arith))

-- a good length is at least 24
pub length_least : (bytes : List ℕ) → length_good bytes ≡ true → 24 ≤ length bytes
length_least bytes good = go (named bytes) refl
  where
    go : (t : Bool) → named bytes ≡ t → 24 ≤ length bytes
    go true is = omega (arith, length-named bytes is good)
    go false is = omega (arith, length_plain bytes is good, settings_plain bytes is)

pub too_short : (bytes : List ℕ) → length bytes < 24 → length_good bytes ≡ false
too_short bytes short = fails (length_good bytes) (λ good. omega (arith, short, length_least bytes good))

-- what good contents say
pub sized : (bytes : List ℕ) → contents_good bytes ≡ true → Sized bytes × (contents_are bytes (sections_of bytes) ≡ true)
sized bytes good =
    let (fit, are) = both (few_nodes bytes && leb (names_at bytes) (length bytes)) _ good in
    let (few, within) = both (few_nodes bytes) _ fit in
    let (some_node, at_most_512) = few_nodes_are bytes few in
    (record { some_node = some_node; few_nodes = at_most_512; within = leb-true _ _ within }, are)

-- what good settings say
pub settings_say : (bytes : List ℕ) (at count : ℕ) → settings_good bytes at count ≡ true
    → (0 < u16_at bytes at) × (u16_at bytes at ≤ 64) × (u16_at bytes (at + 2) < count)
settings_say bytes at count good =
    let (ends, below) = both (leb 1 (u16_at bytes at) && leb (u16_at bytes at) 64) _ good in
    let (least, most) = both (leb 1 (u16_at bytes at)) _ ends in
    (leb-true _ _ least, leb-true _ _ most, ltb-true _ _ below)

-- the first bad name is one of so many, or their count
pub bad_within : (bytes : List ℕ) (at count : ℕ) → first_bad_name bytes at count ≤ count
bad_within bytes at count = first_most (name_good bytes at) count

-- the answer of the form test, one test after the other
module _ (bytes : List ℕ) where
  pub form_length : length_good bytes ≡ false → form_of bytes ≡ judged LENGTH 0
  unfolding form_of
  form_length bad = rw bad

  module _ (length-good : length_good bytes ≡ true) where
    pub form_contents : contents_good bytes ≡ false → form_of bytes ≡ judged CONTENTS 0
    unfolding form_of
    form_contents bad = rw (length-good, bad)

    module _ (contents_good_lem : contents_good bytes ≡ true) where
      pub form_settings : settings_good bytes (settings_at bytes) (count_of bytes) ≡ false → form_of bytes ≡ judged SETTINGS 0
      unfolding form_of
      form_settings bad = rw (length-good, contents_good_lem, bad)

      module _ (settings_good_lem : settings_good bytes (settings_at bytes) (count_of bytes) ≡ true) where
        pub form_node : bad_node bytes < count_of bytes → form_of bytes ≡ judged NODE (bad_node bytes)
        unfolding form_of
        form_node bad = rw (length-good, contents_good_lem, settings_good_lem, lt-leb _ _ bad)

        pub form_names : count_of bytes ≤ bad_node bytes → form_of bytes ≡ names_form bytes (names_at bytes) (kinds_of bytes)
        unfolding form_of
        form_names good = rw (length-good, contents_good_lem, settings_good_lem, le-leb _ _ good)

-- the numbers of a form test: 0 to 4, and 19
abbrev pub FormNumber : ℕ → Type 0
FormNumber number = (number ≤ NODE) ⊎ (number ≡ NAMES)

-- whatever the tests say, the number is one of these
tests_listed : (long contents settings nodes with names : Bool) (bad name : ℕ)
    → FormNumber
    (cond long
    (cond contents
    (cond settings
    (cond nodes (cond with (cond names (judged DONE 0) (judged NAMES name)) (judged DONE 0)) (judged NODE bad))
    (judged SETTINGS 0))
    (judged CONTENTS 0))
    (judged LENGTH 0)
    ).number
tests_listed false contents settings nodes with names bad name = inl (omega arith)
tests_listed true false settings nodes with names bad name = inl (omega arith)
tests_listed true true false nodes with names bad name = inl (omega arith)
tests_listed true true true false with names bad name = inl (omega arith)
tests_listed true true true true false names bad name = inl (omega arith)
tests_listed true true true true true false bad name = inr refl
tests_listed true true true true true true bad name = inl (omega arith)

-- the form's number is on the list
pub form_listed : (bytes : List ℕ) → FormNumber (form_of bytes).number
unfolding form_of
form_listed bytes =
    tests_listed (length_good bytes) (contents_good bytes) (settings_good bytes (settings_at bytes) (count_of bytes))
    (leb (count_of bytes) (bad_node bytes))
    (named bytes)
    (names_good bytes (names_at bytes) (kinds_of bytes))
    (bad_node bytes)
    (first_bad_name bytes (names_at bytes) (kinds_of bytes))
