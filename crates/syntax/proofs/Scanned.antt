-- Words and signs found from the left, with the word under way: they are the text's tokens.
use Prim.Native.Nat.{ℕ, suc, ◌≤◌}
use native.Mathlib.Omega.{arith}
use mathlib.Core.Path.{◌≡◌, refl, sym, ap, ◌∙◌}
use mathlib.Core.Bool.{Bool, true, false, cond}
use mathlib.Core.List.{List, [], ◌∷◌, ◌++◌, append_assoc}
use lib.Dec.{eqb}
use borrow.Author.Tests.{eq-eqb, ne_eqb}
use Rattle.sheets.specs.Text.{letter, blank, Token, word, sign, with_letter, tokens}
use Rattle.syntax.proofs.Bytes.{Class, a_letter, a_blank, a_sign, class_of}

-- the word under way, with its place and its letters so far
pub data Under : Type 0 where
  no_word : Under
  under : ℕ → List ℕ → Under

-- it with a letter more, and as the token that it is
unfoldable pub grown : Under → ℕ → ℕ → Under
grown no_word at byte = under at (byte ∷ [])
grown (under p letters) at byte = under p (letters ++ (byte ∷ []))

unfoldable pub flushed : Under → List Token → List Token
flushed no_word more = more
flushed (under p letters) more = word p letters ∷ more

-- the tokens of a text from a place on, with the word under way
unfoldable pub scan : List ℕ → ℕ → Under → List Token
scan [] at u = flushed u []
scan (byte ∷ more) at u =
    cond (letter byte) (scan more (suc at) (grown u at byte))
    (flushed u (cond (blank byte) (scan more (suc at) no_word) (sign at byte ∷ scan more (suc at) no_word)))

-- the word under way before tokens: it is joined to a word that begins at the place
unfoldable front : ℕ → Under → List Token → List Token
front at no_word more = more
front at (under p letters) [] = word p letters ∷ []
front at (under p letters) (sign q byte ∷ more) = word p letters ∷ sign q byte ∷ more
front at (under p letters) (word q others ∷ more) =
    cond (eqb q at) (word p (letters ++ others) ∷ more) (word p letters ∷ word q others ∷ more)

-- tokens none of which begins before a place
data Later (at : ℕ) : List Token → Type 0 where
  later_none : Later at []
  later_word : {p : ℕ} {letters : List ℕ} {more : List Token} → at ≤ p → Later at (word p letters ∷ more)
  later_sign : {p byte : ℕ} {more : List Token} → at ≤ p → Later at (sign p byte ∷ more)

later_weaker : {at : ℕ} {more : List Token} → Later (suc at) more → Later at more
later_weaker later_none = later_none
later_weaker (later_word {p} h) = later_word {p = p} (omega arith)
later_weaker (later_sign {p} h) = later_sign {p = p} (omega arith)

later_letter : (at byte : ℕ) (more : List Token) → Later at (with_letter at byte more)
unfolding with_letter
later_letter at byte [] = later_word {p = at} (omega arith)
later_letter at byte (sign p other ∷ more) = later_word {p = at} (omega arith)
later_letter at byte (word p letters ∷ more) = go (eqb p (suc at))
  where
    go : (t : Bool) → Later at (cond t (word at (byte ∷ letters) ∷ more) (word at (byte ∷ []) ∷ word p letters ∷ more))
    go true = later_word {p = at} (omega arith)
    go false = later_word {p = at} (omega arith)

tokens_later : (text : List ℕ) (at : ℕ) → Later at (tokens at text)
unfolding tokens
tokens_later [] at = later_none
tokens_later (byte ∷ more) at = go (class_of byte) (tokens_later more (suc at))
  where
    go : Class byte → Later (suc at) (tokens (suc at) more) → Later at (tokens at (byte ∷ more))
    go (a_letter l) ih = rw l (later_letter at byte (tokens (suc at) more))
    go (a_blank l b) ih = rw (l, b) (later_weaker ih)
    go (a_sign l b) ih = rw (l, b) (later_sign {p = at} (omega arith))

-- a word under way that is followed by nothing at its end is whole
front_apart : {at : ℕ} {more : List Token} (u : Under) → Later (suc at) more → front at u more ≡ flushed u more
unfolding front flushed
front_apart no_word h = refl
front_apart (under p letters) later_none = refl
front_apart (under p letters) (later_sign h) = refl
front_apart {at} (under p letters) (later_word {p = q} h) = rw (ne_eqb q at (λ e. omega arith))

front_sign : (at p byte : ℕ) (u : Under) (more : List Token) → front at u (sign p byte ∷ more) ≡ flushed u (sign p byte ∷ more)
unfolding front flushed
front_sign at p byte no_word more = refl
front_sign at p byte (under q letters) more = refl

-- a letter joined before
front-letter : (at byte : ℕ) (u : Under) (more : List Token) → front (suc at) (grown u at byte) more ≡ front at u (with_letter at byte more)
unfolding front grown with_letter
front-letter at byte no_word [] = refl
front-letter at byte no_word (sign p other ∷ more) = refl
front-letter at byte no_word (word p letters ∷ more) = refl
front-letter at byte (under p letters) [] = rw (eq-eqb at at refl)
front-letter at byte (under p letters) (sign q other ∷ more) = rw (eq-eqb at at refl)
front-letter at byte (under p letters) (word q others ∷ more) = go (eqb q (suc at)) refl
  where
    go : (t : Bool) → eqb q (suc at) ≡ t
        → front (suc at) (under p (letters ++ (byte ∷ []))) (word q others ∷ more)
        ≡ front at (under p letters) (with_letter at byte (word q others ∷ more))
    go true e = rw (e, eq-eqb at at refl, append_assoc letters (byte ∷ []) others)
    go false e = rw (e, eq-eqb at at refl)

scan-front : (text : List ℕ) (at : ℕ) (u : Under) → scan text at u ≡ front at u (tokens at text)
unfolding scan tokens front
scan-front [] at u = sym (front_apart u later_none)
scan-front (byte ∷ more) at u = go (class_of byte) (λ v. scan-front more (suc at) v)
  where
    go : Class byte → ((v : Under) → scan more (suc at) v ≡ front (suc at) v (tokens (suc at) more))
        → scan (byte ∷ more) at u ≡ front at u (tokens at (byte ∷ more))
    go (a_letter l) ih = rw l (ih (grown u at byte) ∙ front-letter at byte u (tokens (suc at) more))
    go (a_blank l b) ih = rw (l, b) (ap (flushed u) (ih no_word) ∙ sym (front_apart u (tokens_later more (suc at))))
    go (a_sign l b) ih =
        rw (l, b)
        (ap (λ (more : List Token). flushed u (sign at byte ∷ more)) (ih no_word) ∙ sym (front_sign at at byte u (tokens (suc at) more)))

-- scanned from outside a word a text gives its tokens
pub scan_is_tokens : (text : List ℕ) (at : ℕ) → scan text at no_word ≡ tokens at text
unfolding front
scan_is_tokens text at = scan-front text at no_word
