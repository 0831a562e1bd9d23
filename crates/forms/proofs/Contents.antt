-- Laws of forms: what their sizes bound, where sections begin, and bytes that begin with contents.
use mathlib.Core.Path.{◌≡◌, refl, sym, ap, ◌∙◌}
use mathlib.Core.Bool.{true}
use mathlib.Core.List.{List, [], ◌∷◌, ◌++◌}
use Prim.Native.Nat.{ℕ, suc, ◌+◌, ◌*◌, ◌/◌, ◌%◌, ◌≤◌, ◌<◌}
use native.Mathlib.Nat.{mod-eq_of_lt}
use native.Mathlib.Omega.{arith}
use borrow.Author.Tests.{eq-eqb, eqb-true}
use lib.Dec.{eqb}
use lib.ListN.{length, get_or, drop}
use Rattle.words.specs.Words.{u16_at, word_bytes, Below, below_none, below_more}
use Rattle.words.proofs.Tests.{joined, both}
use Rattle.words.proofs.Bytes.{Small, u16_behind, u16_words}
use Rattle.forms.specs.Forms.{past, contents_size, form_size, entries_from, contents_of, words_are, contents_are}

-- an offset past sections is not before them
pub past_least : (at : ℕ) (sizes : List ℕ) → at ≤ past at sizes
past_least at [] = omega arith
past_least at (size ∷ more) = omega (arith, past_least (at + size) more)

-- contents stand within a form
pub contents_within : (sizes : List ℕ) → contents_size (length sizes) ≤ form_size sizes
contents_within sizes = past_least (contents_size (length sizes)) sizes

-- so many entries are three numbers each
length_entries : (section at : ℕ) (sizes : List ℕ) → length (entries_from section at sizes) ≡ 3 * length sizes
length_entries section at [] = refl
length_entries section at (size ∷ more) = omega (arith, length_entries (section + 1) (at + size) more)

pub length_contents : (sizes : List ℕ) → 2 * length (contents_of sizes) ≡ contents_size (length sizes)
length_contents sizes = omega (arith, length_entries 1 (contents_size (length sizes)) sizes)

-- the entries of a form below 65,536 bytes take 16 bits each
small_entries : (section at : ℕ) (sizes : List ℕ) → section + length sizes ≤ 65536 → past at sizes < 65536
    → Small (entries_from section at sizes)
small_entries section at [] few small = below_none
small_entries section at (size ∷ rest) few small =
    let behind = past_least (at + size) rest in
    below_more {n = section} (omega arith)
    (below_more {n = at} (omega (arith, behind))
    (below_more {n = size} (omega (arith, behind)) (small_entries (section + 1) (at + size) rest (omega arith) small)))

pub small_contents : (sizes : List ℕ) → form_size sizes < 65536 → Small (contents_of sizes)
small_contents sizes small =
    let least = contents_within sizes in
    below_more {n = length sizes} (omega (arith, least)) (small_entries 1 _ sizes (omega (arith, least)) small)

-- numbers that stand in bytes one by one stand there
pub words_are_lem : (bytes : List ℕ) (at : ℕ) (words : List ℕ)
    → ((i : ℕ) → i < length words → u16_at bytes (at + 2 * i) ≡ get_or words i 0)
    → words_are bytes at words ≡ true
words_are_lem bytes at [] each = refl
words_are_lem bytes at (word ∷ rest) each =
    joined _ _ (eq-eqb _ _ (ap (u16_at bytes) first ∙ each 0 (omega arith)))
    (words_are_lem bytes (at + 2) rest (λ i below. ap (u16_at bytes) (place i) ∙ each (suc i) (omega arith)))
  where
    first : at ≡ at + 2 * 0
    first = omega arith

    place : (i : ℕ) → at + 2 + 2 * i ≡ at + 2 * suc i
    place i = omega arith

-- the contents of a form below 65,536 bytes are what they are, whatever follows
pub contents_are_those : (sizes rest : List ℕ) → form_size sizes < 65536 → contents_are (word_bytes (contents_of sizes) ++ rest) sizes ≡ true
contents_are_those sizes rest small =
    words_are_lem _ 0 (contents_of sizes)
    (λ i below. ap (u16_at (word_bytes (contents_of sizes) ++ rest)) (from i) ∙ u16_words (small_contents sizes small) rest i below)
  where
    from : (i : ℕ) → 0 + 2 * i ≡ 2 * i
    from i = omega arith

-- ---- bytes in which these numbers stand are theirs

-- two bytes before make no difference behind them
words_behind : (low high : ℕ) (bytes : List ℕ) (at : ℕ) (words : List ℕ)
    → words_are (low ∷ high ∷ bytes) (suc (suc at)) words ≡ words_are bytes at words
words_behind low high bytes at [] = refl
words_behind low high bytes at (word ∷ rest) =
    let next : suc (suc at) + 2 ≡ suc (suc (at + 2)) = omega arith in
    rw (next, u16_behind low high bytes at, words_behind low high bytes (at + 2) rest)

-- numbers that stand in bytes, one list after the other
pub words_joined : (bytes : List ℕ) (at : ℕ) (xs ys : List ℕ) → words_are bytes at xs ≡ true → words_are bytes (at + 2 * length xs) ys ≡ true
    → words_are bytes at (xs ++ ys) ≡ true
words_joined bytes at [] ys first second = let same : at + 2 * 0 ≡ at = omega arith in rw same at second
words_joined bytes at (x ∷ xs) ys first second =
    let (here, rest) = both (eqb (u16_at bytes at) x) _ first in
    let place : at + 2 * suc (length xs) ≡ at + 2 + 2 * length xs = omega arith in
    joined (eqb (u16_at bytes at) x) _ here (words_joined bytes (at + 2) xs ys rest (rw place at second))

-- bytes in which numbers stand begin with those numbers' bytes
pub words_stand : (words : List ℕ) {bytes : List ℕ} → Below 256 bytes → 2 * length words ≤ length bytes → words_are bytes 0 words ≡ true
    → word_bytes words ++ drop (2 * length words) bytes ≡ bytes
unfolding word_bytes u16_at
words_stand [] below fits stand = refl
words_stand (word ∷ rest) below_none fits stand = absurd (omega arith)
words_stand (word ∷ rest) (below_more low below_none) fits stand = absurd (omega arith)
words_stand (word ∷ rest) (below_more {n = l} low (below_more {n = h} {more = bytes} high more)) fits stand =
    let (here, behind) = both (eqb (l + 256 * h) word) _ stand in
    let word_is : l + 256 * h ≡ word = eqb-true _ _ here in
    let low-is : word % 256 ≡ l = omega arith in
    let above : word / 256 ≡ h = omega arith in
    let high_is : word / 256 % 256 ≡ h = rw above (mod-eq_of_lt high) in
    let place : 2 * suc (length rest) ≡ suc (suc (2 * length rest)) = omega arith in
    rw (low-is, high_is, place)
    (ap (λ (m : List ℕ). l ∷ h ∷ m) (words_stand rest more (omega arith) (sym (words_behind l h bytes 0 rest) ∙ behind)))
