-- Every word of a sheet has 1 to 16 small letters: the text's words have at least one letter and small ones only, and what is read takes
-- none of more than 16.
use Prim.Native.Nat.{ℕ, zero, suc, ◌≤◌, ◌<◌}
use native.Mathlib.Omega.{arith}
use mathlib.Core.Path.{◌≡◌, refl, sym, ◌∙◌}
use mathlib.Core.Logic.{◌⊎◌, inl, inr}
use mathlib.Core.Bool.{Bool, true, false, cond}
use mathlib.Core.List.{List, [], ◌∷◌, ◌++◌}
use lib.ListN.{length, get_or}
use lib.Dec.{leb, eqb}
use borrow.Author.Tests.{leb-true}
use Rattle.words.proofs.Tests.{never, both, or_cases}
use Rattle.sheets.specs.Text.{letter, blank, Token, word, sign, with_letter, tokens}
use Rattle.sheets.specs.Grammar.{Expression, Rule, IsWord, Sort, Rules, no_rules, a_rule}
use Rattle.sheets.specs.Grammar.{Reads, a_word, an_empty, a_group, plain, a_star, one_factor, further_factor}
use Rattle.sheets.specs.Grammar.{one_sequence, further_sequence}
use Rattle.sheets.specs.Nodes.{among, rule_names, words_in, all_words}
use Rattle.sheets.specs.Spelling.{GoodWord, GoodWords}
use Rattle.sheets.proofs.Words.{among-append, among_cons}
use Rattle.sheets.proofs.Appearance.{kinds_by_first_appearance}

-- one letter or more, each small
record Letters (letters : List ℕ) : Type 0 where
  some_letter : 1 ≤ length letters
  all_small : (i : ℕ) → i < length letters → (97 ≤ get_or letters i 0) × (get_or letters i 0 ≤ 122)

-- tokens whose words are such letters
data Spelled : List Token → Type 0 where
  spelled_none : Spelled []
  spelled_sign : {p byte : ℕ} {more : List Token} → Spelled more → Spelled (sign p byte ∷ more)
  spelled_word : {p : ℕ} {letters : List ℕ} {more : List Token} → Letters letters → Spelled more → Spelled (word p letters ∷ more)

letter_small : (byte : ℕ) → letter byte ≡ true → (97 ≤ byte) × (byte ≤ 122)
unfolding letter
letter_small byte e = let t = both (leb 97 byte) (leb byte 122) e in (leb-true 97 byte t.0, leb-true byte 122 t.1)

one_letter : (byte : ℕ) → letter byte ≡ true → Letters (byte ∷ [])
one_letter byte e = record { some_letter = omega arith; all_small = small }
  where
    small : (i : ℕ) → i < 1 → (97 ≤ get_or (byte ∷ []) i 0) × (get_or (byte ∷ []) i 0 ≤ 122)
    small zero h = letter_small byte e
    small (suc i) h = absurd (omega arith)

one_more : (byte : ℕ) {letters : List ℕ} → letter byte ≡ true → Letters letters → Letters (byte ∷ letters)
one_more byte {letters} e l = record { some_letter = omega arith; all_small = small }
  where
    small : (i : ℕ) → i < suc (length letters) → (97 ≤ get_or (byte ∷ letters) i 0) × (get_or (byte ∷ letters) i 0 ≤ 122)
    small zero h = letter_small byte e
    small (suc i) h = l.all_small i (omega arith)

letter_spelled : (at byte : ℕ) {more : List Token} → letter byte ≡ true → Spelled more → Spelled (with_letter at byte more)
unfolding with_letter
letter_spelled at byte e spelled_none = spelled_word (one_letter byte e) spelled_none
letter_spelled at byte e (spelled_sign s) = spelled_word (one_letter byte e) (spelled_sign s)
letter_spelled at byte e (spelled_word {p} {letters} {more} l s) = go (eqb p (suc at))
  where
    go : (t : Bool) → Spelled (cond t (word at (byte ∷ letters) ∷ more) (word at (byte ∷ []) ∷ word p letters ∷ more))
    go true = spelled_word (one_more byte e l) s
    go false = spelled_word (one_letter byte e) (spelled_word l s)

tokens_spelled : (at : ℕ) (text : List ℕ) → Spelled (tokens at text)
unfolding tokens
tokens_spelled at [] = spelled_none
tokens_spelled at (byte ∷ more) = go (letter byte) refl (blank byte) (tokens_spelled (suc at) more)
  where
    go : (t : Bool) → letter byte ≡ t → (b : Bool) → Spelled (tokens (suc at) more)
        → Spelled (cond t (with_letter at byte (tokens (suc at) more)) (cond b (tokens (suc at) more) (sign at byte ∷ tokens (suc at) more)))
    go true e b s = letter_spelled at byte e s
    go false e true s = s
    go false e false s = spelled_sign s

behind_sign : {p byte : ℕ} {more : List Token} → Spelled (sign p byte ∷ more) → Spelled more
behind_sign (spelled_sign s) = s

-- words that are all good
record All (words : List (List ℕ)) : Type 0 where
  good : (w : List ℕ) → among w words ≡ true → GoodWord w

all_none : All []
unfolding among
all_none = record { good = λ w e. never e }

all_more : {w : List ℕ} {words : List (List ℕ)} → GoodWord w → All words → All (w ∷ words)
all_more {w} {words} g all = record { good = λ v e. go v (among_cons v w words e) }
  where
    go : (v : List ℕ) → (v ≡ w) ⊎ (among v words ≡ true) → GoodWord v
    go v (inl p) = rw p g
    go v (inr p) = all.good v p

all_append : {xs ys : List (List ℕ)} → All xs → All ys → All (xs ++ ys)
all_append {xs} {ys} a b = record { good = λ v e. go v (or_cases (among v xs) (among v ys) (sym (among-append v xs ys) ∙ e)) }
  where
    go : (v : List ℕ) → (among v xs ≡ true) ⊎ (among v ys ≡ true) → GoodWord v
    go v (inl p) = a.good v p
    go v (inr p) = b.good v p

word_good : {letters : List ℕ} → IsWord letters → Letters letters → GoodWord letters
word_good is l =
    record { some_letter = l.some_letter; few_letters = is.short; all_small = l.all_small; free = is.free }

-- what is read of such tokens has good words, and such tokens are left
reads_good : {sort : Sort} {d : ℕ} {from more : List Token} {e : Expression} → Reads sort d from e more → Spelled from
    → All (words_in e) × Spelled more
unfolding words_in
reads_good (a_word is) (spelled_word l s) = (all_more (word_good is l) all_none, s)
reads_good an_empty (spelled_word l s) = (all_none, s)
reads_good (a_group r) (spelled_sign s) = let t = reads_good r s in (t.0, behind_sign t.1)
reads_good (plain r) s = reads_good r s
reads_good (a_star r) s = let t = reads_good r s in (t.0, behind_sign t.1)
reads_good (one_factor r) s = reads_good r s
reads_good (further_factor r q) s =
    let t = reads_good r s in
    let u = reads_good q t.1 in
    (all_append t.0 u.0, u.1)
reads_good (one_sequence r) s = reads_good r s
reads_good (further_sequence r q) s =
    let t = reads_good r s in
    let u = reads_good q (behind_sign t.1) in
    (all_append t.0 u.0, u.1)

rules_good : {from : List Token} {rules : List Rule} → Rules from rules → Spelled from → All (rule_names rules) × All (all_words rules)
unfolding rule_names all_words
rules_good no_rules s = (all_none, all_none)
rules_good (a_rule is r more) (spelled_word l (spelled_sign s)) =
    let t = reads_good r s in
    let u = rules_good more (behind_sign t.1) in
    (all_more (word_good is l) u.0, all_append t.0 u.1)

pub text_words : (at : ℕ) (text : List ℕ) {rules : List Rule} → Rules (tokens at text) rules → GoodWords rules
text_words at text {rules} read =
    let t = rules_good read (tokens_spelled at text) in
    record {
      names = t.0.good;
      words = t.1.good;
      kinds = λ k h. t.1.good _ ((kinds_by_first_appearance rules).appears k h);
    }
