-- The words of a sheet are the letters that stand at their places.
use mathlib.Core.Path.{◌≡◌, refl, sym, ap, ◌∙◌}
use mathlib.Core.List.{List, [], ◌∷◌, ◌++◌, append-nil, append_assoc}
use Prim.Native.Nat.{ℕ, suc}
use native.Mathlib.Numerals.{add-one}
use lib.ListN.{drop}
use lib.Seq.{drop-drop}
use Rattle.sheets.specs.Text.{Token, word, sign, tokens}
use Rattle.sheets.specs.Grammar.{Expression, named, nothing, choice, sequence, starred, Rule, Sort, Rules, no_rules, a_rule}
use Rattle.sheets.specs.Grammar.{Reads, a_word, an_empty, a_group, plain, a_star, one_factor, further_factor}
use Rattle.sheets.specs.Grammar.{one_sequence, further_sequence}
use Rattle.syntax.proofs.Bytes.{Class, a_letter, a_blank, a_sign, class_of}
use Rattle.syntax.proofs.Scanned.{Under, no_word, under, grown, flushed, scan, scan_is_tokens}
use Rattle.resolving.specs.Letters.{letters_in, word_at}

-- what is left of a list past one element more
pub drop-next : (text : List ℕ) (at : ℕ) {byte : ℕ} {more : List ℕ} → drop at text ≡ byte ∷ more → drop (suc at) text ≡ more
drop-next text at is = sym (ap (λ (n : ℕ). drop n text) (add-one at)) ∙ sym (drop-drop 1 at text) ∙ ap (drop 1) is

module _ (text : List ℕ) where
  -- tokens whose words are the letters at their places
  pub data Placed : List Token → Type 0 where
    placed_none : Placed []
    placed_word : {p : ℕ} {letters : List ℕ} {more : List Token} → letters ≡ word_at text p → Placed more → Placed (word p letters ∷ more)
    placed_sign : {p byte : ℕ} {more : List Token} → Placed more → Placed (sign p byte ∷ more)

  -- a word under way goes on with the letters at the place that is reached
  data Goes (at : ℕ) : Under → Type 0 where
    goes_none : Goes at no_word
    goes_word : {p : ℕ} {letters : List ℕ} → word_at text p ≡ letters ++ word_at text at → Goes at (under p letters)

  flushed_placed : {at : ℕ} {u : Under} {more : List Token} → Goes at u → word_at text at ≡ [] → Placed more → Placed (flushed u more)
  unfolding flushed
  flushed_placed goes_none none rest = rest
  flushed_placed (goes_word {p} {letters} is) none rest =
      placed_word (sym (append-nil letters) ∙ ap (λ (l : List ℕ). letters ++ l) (sym none) ∙ sym is) rest

  grown_goes : {at byte : ℕ} {u : Under} → Goes at u → word_at text at ≡ byte ∷ word_at text (suc at) → Goes (suc at) (grown u at byte)
  unfolding grown
  grown_goes goes_none is = goes_word is
  grown_goes {at} {byte} (goes_word {p} {letters} goes) is =
      goes_word (goes ∙ ap (λ (l : List ℕ). letters ++ l) is ∙ sym (append_assoc letters (byte ∷ []) (word_at text (suc at))))

  scan_placed : (rest : List ℕ) (at : ℕ) (u : Under) → drop at text ≡ rest → Goes at u → Placed (scan rest at u)
  unfolding scan word_at letters_in
  scan_placed [] at u is goes = flushed_placed goes (rw is) placed_none
  scan_placed (byte ∷ rest) at u is goes =
      go (class_of byte) (λ v g. scan_placed rest (suc at) v (drop-next text at is) g)
    where
      go : Class byte → ((v : Under) → Goes (suc at) v → Placed (scan rest (suc at) v)) → Placed (scan (byte ∷ rest) at u)
      go (a_letter l) ih = rw l (ih (grown u at byte) (grown_goes goes (rw (is, l, drop-next text at is))))
      go (a_blank l b) ih = rw (l, b) (flushed_placed goes (rw (is, l)) (ih no_word goes_none))
      go (a_sign l b) ih = rw (l, b) (flushed_placed goes (rw (is, l)) (placed_sign (ih no_word goes_none)))

  pub tokens_placed : Placed (tokens 0 text)
  tokens_placed = rw (← scan_is_tokens text 0) (scan_placed text 0 no_word refl goes_none)

  -- an expression's words, and rules' names and words, are the letters at their places
  pub data Told : Expression → Type 0 where
    told_word : {p : ℕ} {letters : List ℕ} → letters ≡ word_at text p → Told (named p letters)
    told_nothing : {p : ℕ} → Told (nothing p)
    told_choice : {p : ℕ} {e f : Expression} → Told e → Told f → Told (choice p e f)
    told_sequence : {p : ℕ} {e f : Expression} → Told e → Told f → Told (sequence p e f)
    told_starred : {p : ℕ} {e : Expression} → Told e → Told (starred p e)

  pub data ToldRules : List Rule → Type 0 where
    told_none : ToldRules []
    told_more : {r : Rule} {rules : List Rule} → r.name ≡ word_at text r.place → Told r.expression → ToldRules rules
        → ToldRules (r ∷ rules)

  pub behind_sign : {p byte : ℕ} {more : List Token} → Placed (sign p byte ∷ more) → Placed more
  behind_sign (placed_sign rest) = rest

  -- what is read of such tokens is told by the text, and such tokens are left
  pub reads_told : {sort : Sort} {d : ℕ} {from more : List Token} {e : Expression} → Reads sort d from e more → Placed from
      → Told e × Placed more
  reads_told (a_word is) (placed_word here rest) = (told_word here, rest)
  reads_told an_empty (placed_word here rest) = (told_nothing, rest)
  reads_told (a_group r) (placed_sign rest) = let t = reads_told r rest in (t.0, behind_sign t.1)
  reads_told (plain r) rest = reads_told r rest
  reads_told (a_star r) rest = let t = reads_told r rest in (told_starred t.0, behind_sign t.1)
  reads_told (one_factor r) rest = reads_told r rest
  reads_told (further_factor r q) rest =
      let t = reads_told r rest in
      let u = reads_told q t.1 in
      (told_sequence t.0 u.0, u.1)
  reads_told (one_sequence r) rest = reads_told r rest
  reads_told (further_sequence r q) rest =
      let t = reads_told r rest in
      let u = reads_told q (behind_sign t.1) in
      (told_choice t.0 u.0, u.1)

  rules_told : {from : List Token} {rules : List Rule} → Rules from rules → Placed from → ToldRules rules
  rules_told no_rules rest = told_none
  rules_told (a_rule is r more) (placed_word here (placed_sign rest)) =
      let t = reads_told r rest in
      told_more here t.0 (rules_told more (behind_sign t.1))

  pub sheet_told : {rules : List Rule} → Rules (tokens 0 text) rules → ToldRules rules
  sheet_told read = rules_told read tokens_placed
