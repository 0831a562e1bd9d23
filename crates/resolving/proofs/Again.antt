-- The rules of a sheet stand where its `;` and blanks tell, so a name that comes again is found there.
use mathlib.Core.Path.{◌≡◌, refl, sym, ap, ◌∙◌}
use mathlib.Core.Bool.{Bool, true, false, cond}
use mathlib.Core.List.{List, [], ◌∷◌}
use Prim.Native.Nat.{ℕ, zero, suc, ◌+◌, ◌≤◌, ◌<◌}
use native.Mathlib.Decide.{ℕ_discrete}
use native.Mathlib.Nat.{add-zero}
use native.Mathlib.Numerals.{add-one}
use native.Mathlib.Omega.{arith}
use borrow.Author.Tests.{eqb-true, ne_eqb}
use lib.Dec.{eqb}
use lib.ListN.{length, get_or, drop, length-drop}
use lib.Seq.{get_or-drop}
use mathlib.Core.Logic.{◌⊎◌, inl, inr}
use Rattle.words.proofs.Tests.{or_cases, never}
use Rattle.sheets.specs.Text.{blank, Token, word, sign, with_letter, tokens}
use Rattle.sheets.specs.Grammar.{Expression, Rule, Sort, Rules, no_rules, a_rule}
use Rattle.sheets.specs.Grammar.{Reads, a_word, an_empty, a_group, plain, a_star, one_factor, further_factor}
use Rattle.sheets.specs.Grammar.{one_sequence, further_sequence}
use Rattle.sheets.specs.Nodes.{among}
use Rattle.sheets.specs.Made.{repeats, repeated_at}
use Rattle.syntax.proofs.Bytes.{Class, a_letter, a_blank, a_sign, class_of, letter_not_blank, letter_no_other}
use Rattle.resolving.specs.Letters.{word_at}
use Rattle.resolving.specs.Lines.{blanks_in, rule_in, past_blanks, past_rule, rule_at, names_before, NewBefore, AgainAt, NoneAgain}
use Rattle.resolving.proofs.Placed.{drop-next, behind_sign, Placed, placed_word, placed_sign, tokens_placed}
use Rattle.resolving.proofs.Placed.{reads_told}

-- the tokens behind the next `;`
unfoldable behind_rule : List Token → List Token
behind_rule [] = []
behind_rule (word p letters ∷ more) = behind_rule more
behind_rule (sign p byte ∷ more) = cond (eqb byte 59) more (behind_rule more)

-- an expression has no `;`
reads_within : {sort : Sort} {d : ℕ} {from more : List Token} {e : Expression} → Reads sort d from e more
    → behind_rule from ≡ behind_rule more
unfolding behind_rule
reads_within (a_word is) = refl
reads_within an_empty = refl
reads_within (a_group r) = reads_within r
reads_within (plain r) = reads_within r
reads_within (a_star r) = reads_within r
reads_within (one_factor r) = reads_within r
reads_within (further_factor r q) = reads_within r ∙ reads_within q
reads_within (one_sequence r) = reads_within r
reads_within (further_sequence r q) = reads_within r ∙ reads_within q

letter-within : (at byte : ℕ) (more : List Token) → behind_rule (with_letter at byte more) ≡ behind_rule more
unfolding behind_rule with_letter
letter-within at byte [] = refl
letter-within at byte (sign p other ∷ more) = refl
letter-within at byte (word p letters ∷ more) = go (eqb p (suc at))
  where
    go : (t : Bool) → behind_rule (cond t (word at (byte ∷ letters) ∷ more) (word at (byte ∷ []) ∷ word p letters ∷ more)) ≡ behind_rule more
    go true = refl
    go false = refl

blank_no_end : (byte : ℕ) → blank byte ≡ true → eqb byte 59 ≡ false
unfolding blank
blank_no_end byte is = ne_eqb byte 59 (λ e. go e (or_cases (eqb byte 32) (eqb byte 10) is))
  where
    go : byte ≡ 59 → (eqb byte 32 ≡ true) ⊎ (eqb byte 10 ≡ true) → ⊥
    go e (inl is) = omega (arith, eqb-true byte 32 is)
    go e (inr is) = omega (arith, eqb-true byte 10 is)

module _ (text : List ℕ) where
  -- the tokens from a place on
  abbrev tokens_from : ℕ → List Token
  tokens_from at = tokens at (drop at text)

  -- blanks are no tokens
  blanks_passed : (rest : List ℕ) (at : ℕ) → drop at text ≡ rest → tokens_from at ≡ tokens_from (at + blanks_in rest)
  unfolding blanks_in tokens
  blanks_passed [] at is = rw (add-zero, is)
  blanks_passed (byte ∷ rest) at is = go (class_of byte) (blanks_passed rest (suc at) (drop-next text at is))
    where
      go : Class byte → tokens_from (suc at) ≡ tokens_from (suc at + blanks_in rest)
          → tokens_from at ≡ tokens_from (at + cond (blank byte) (suc (blanks_in rest)) 0)
      go (a_letter l) ih = rw (letter_not_blank byte l, add-zero)
      go (a_blank l b) ih =
          let next : at + suc (blanks_in rest) ≡ suc at + blanks_in rest = omega arith in
          rw (b, next, ← ih, is, l, b, drop-next text at is)
      go (a_sign l b) ih = rw (b, add-zero)

  pub blanks_tokens : (at : ℕ) → tokens_from at ≡ tokens_from (past_blanks text at)
  unfolding past_blanks
  blanks_tokens at = blanks_passed (drop at text) at refl

  rule_passed : (rest : List ℕ) (at : ℕ) → drop at text ≡ rest → behind_rule (tokens_from at) ≡ tokens_from (at + rule_in rest)
  unfolding rule_in tokens behind_rule
  rule_passed [] at is = rw (add-zero, is)
  rule_passed (byte ∷ rest) at is = go (class_of byte) (rule_passed rest (suc at) (drop-next text at is))
    where
      next : at + suc (rule_in rest) ≡ suc at + rule_in rest
      next = omega arith

      go : Class byte → behind_rule (tokens_from (suc at)) ≡ tokens_from (suc at + rule_in rest)
          → behind_rule (tokens_from at) ≡ tokens_from (at + cond (eqb byte 59) 1 (suc (rule_in rest)))
      go (a_letter l) ih =
          rw (letter_no_other byte 59 l (omega arith), next, ← ih, is, l, drop-next text at is)
          (letter-within at byte (tokens (suc at) rest))
      go (a_blank l b) ih = rw (blank_no_end byte b, next, ← ih, is, l, b, drop-next text at is)
      go (a_sign l b) ih = sign_passed (eqb byte 59) refl
        where
          sign_passed : (t : Bool) → eqb byte 59 ≡ t
              → behind_rule (tokens_from at) ≡ tokens_from (at + cond (eqb byte 59) 1 (suc (rule_in rest)))
          sign_passed true e = rw (e, is, l, b, e, add-one, drop-next text at is)
          sign_passed false e = rw (e, next, ← ih, is, l, b, e, drop-next text at is)

  rule-tokens : (at : ℕ) → behind_rule (tokens_from at) ≡ tokens_from (past_blanks text (past_rule text at))
  unfolding past_rule
  rule-tokens at = rule_passed (drop at text) at refl ∙ blanks_tokens (past_rule text at)

  -- past blanks stands no blank
  abbrev Clear : ℕ → Type 0
  Clear at = at < length text → blank (get_or text at 0) ≡ false

  byte_here : (at : ℕ) {byte : ℕ} {rest : List ℕ} → drop at text ≡ byte ∷ rest → get_or text at 0 ≡ byte
  byte_here at is =
      let place : at + 0 ≡ at = omega arith in
      sym (rw place at (get_or-drop at text 0 0)) ∙ ap (λ (l : List ℕ). get_or l 0 0) is

  clear_past : (rest : List ℕ) (at : ℕ) → drop at text ≡ rest → at + blanks_in rest < length text
      → blank (get_or text (at + blanks_in rest) 0) ≡ false
  unfolding blanks_in
  clear_past [] at is below = absurd (omega (arith, below, length-drop at text, ap length is))
  clear_past (byte ∷ rest) at is below = go (blank byte) refl (clear_past rest (suc at) (drop-next text at is))
    where
      go : (t : Bool) → blank byte ≡ t → (suc at + blanks_in rest < length text → blank (get_or text (suc at + blanks_in rest) 0) ≡ false)
          → blank (get_or text (at + cond (blank byte) (suc (blanks_in rest)) 0) 0) ≡ false
      go true b ih =
          let next : at + suc (blanks_in rest) ≡ suc at + blanks_in rest = omega arith in
          rw (b, next) (ih (rw (b, next) at below))
      go false b ih = rw (b, add-zero, byte_here at is) b

  past_clear : (at : ℕ) → Clear (past_blanks text at)
  unfolding past_blanks
  past_clear at = clear_past (drop at text) at refl

  rule_clear : (n : ℕ) → Clear (rule_at text n)
  unfolding rule_at
  rule_clear zero = past_clear 0
  rule_clear (suc n) = past_clear (past_rule text (rule_at text n))

  -- the first token from there on begins there
  data Starts (at : ℕ) : List Token → Type 0 where
    starts_none : length text ≤ at → Starts at []
    starts_word : {p : ℕ} {letters : List ℕ} {more : List Token} → p ≡ at → at < length text → Starts at (word p letters ∷ more)
    starts_sign : {p byte : ℕ} {more : List Token} → Starts at (sign p byte ∷ more)

  letter_starts : (at byte : ℕ) (more : List Token) → at < length text → Starts at (with_letter at byte more)
  unfolding with_letter
  letter_starts at byte [] below = starts_word refl below
  letter_starts at byte (sign p other ∷ more) below = starts_word refl below
  letter_starts at byte (word p letters ∷ more) below = go (eqb p (suc at))
    where
      go : (t : Bool) → Starts at (cond t (word at (byte ∷ letters) ∷ more) (word at (byte ∷ []) ∷ word p letters ∷ more))
      go true = starts_word refl below
      go false = starts_word refl below

  starts : (rest : List ℕ) (at : ℕ) → drop at text ≡ rest → Clear at → Starts at (tokens at rest)
  unfolding tokens
  starts [] at is clear = starts_none (omega (arith, length-drop at text, ap length is))
  starts (byte ∷ rest) at is clear = go (class_of byte)
    where
      below : at < length text
      below = omega (arith, length-drop at text, ap length is)

      go : Class byte → Starts at (tokens at (byte ∷ rest))
      go (a_letter l) = rw l (letter_starts at byte (tokens (suc at) rest) below)
      go (a_blank l b) = never (sym (clear below) ∙ rw (byte_here at is) b)
      go (a_sign l b) = rw (l, b) starts_sign

  rule_starts : (n : ℕ) → Starts (rule_at text n) (tokens_from (rule_at text n))
  rule_starts n = starts (drop (rule_at text n) text) (rule_at text n) refl (rule_clear n)

  rule-behind : (n : ℕ) → tokens_from (rule_at text (suc n)) ≡ behind_rule (tokens_from (rule_at text n))
  unfolding rule_at
  rule-behind n = sym (rule-tokens (rule_at text n))

  -- rules stand where the text tells, from a number on
  pub data Lined : ℕ → List Rule → Type 0 where
    lined_none : {n : ℕ} → length text ≤ rule_at text n → Lined n []
    lined_more : {n : ℕ} {r : Rule} {rules : List Rule} → r.place ≡ rule_at text n → r.name ≡ word_at text (rule_at text n)
        → rule_at text n < length text → Lined (suc n) rules → Lined n (r ∷ rules)

  rules_lined : {from : List Token} {rules : List Rule} → Rules from rules → (n : ℕ) → tokens_from (rule_at text n) ≡ from
      → Starts (rule_at text n) from → Placed text from → Lined n rules
  unfolding behind_rule
  rules_lined no_rules n is (starts_none past) placed = lined_none past
  rules_lined (a_rule {more = more} is_IsWord r others) n is (starts_word here below) (placed_word name_is (placed_sign rest)) =
      let next : tokens_from (rule_at text (suc n)) ≡ more = rule-behind n ∙ ap behind_rule is ∙ reads_within r in
      lined_more here (name_is ∙ ap (word_at text) here) below
      (rules_lined others (suc n) next (rw next at (rule_starts (suc n))) (behind_sign text (reads_told text r rest).1))

  pub sheet_lined : {rules : List Rule} → Rules (tokens 0 text) rules → Lined 0 rules
  unfolding rule_at
  sheet_lined read = rules_lined (rw (first) at read) 0 refl (rule_starts 0) (rw first at (tokens_placed text))
    where
      first : tokens 0 text ≡ tokens_from (rule_at text 0)
      first = blanks_tokens 0

  -- a rule whose name is new
  new_next : (n : ℕ) (r : Rule) (rules : List Rule) → r.name ≡ word_at text (rule_at text n)
      → among (word_at text (rule_at text n)) (names_before text n) ≡ false
      → (repeats (names_before text n) (r ∷ rules) ≡ repeats (names_before text (suc n)) rules)
      × (repeated_at (names_before text n) (r ∷ rules) ≡ repeated_at (names_before text (suc n)) rules)
  unfolding repeats repeated_at names_before
  new_next n r rules name_is new = (rw (name_is, new), rw (name_is, new))

  -- the rule with a name that an earlier one has
  again_here : (n : ℕ) (r : Rule) (rules : List Rule) → r.name ≡ word_at text (rule_at text n)
      → among (word_at text (rule_at text n)) (names_before text n) ≡ true
      → (repeats (names_before text n) (r ∷ rules) ≡ true) × (repeated_at (names_before text n) (r ∷ rules) ≡ r.place)
  unfolding repeats repeated_at
  again_here n r rules name_is known = (rw (name_is, known), rw (name_is, known))

  module _ {m : ℕ} (new : NewBefore text m) where
    -- the name of a rule past new ones comes again: it is the first that does
    lined_again : {n : ℕ} {rules : List Rule} → Lined n rules → n ≤ m → rule_at text m < length text
        → among (word_at text (rule_at text m)) (names_before text m) ≡ true
        → (repeats (names_before text n) rules ≡ true) × (repeated_at (names_before text n) rules ≡ rule_at text m)
    lined_again {n} (lined_none past) upto within known = absurd (go (ℕ_discrete n m))
      where
        go : Dec (n ≡ m) → ⊥
        go (yes is) = omega (arith, past, rw (← is) at within)
        go (no other) = omega (arith, past, new.each_within n (omega arith))
    lined_again {n} (lined_more {r = r} {rules = rules} place_is name_is below rest) upto within known =
        go (ℕ_discrete n m) (λ next. lined_again rest next within known)
      where
        go : Dec (n ≡ m)
            → (suc n ≤ m → (repeats (names_before text (suc n)) rules ≡ true) ×
            (repeated_at (names_before text (suc n)) rules ≡ rule_at text m))
            → (repeats (names_before text n) (r ∷ rules) ≡ true) × (repeated_at (names_before text n) (r ∷ rules) ≡ rule_at text m)
        go (yes is) ih =
            let here = again_here n r rules name_is (rw (← is) at known) in
            (here.0, here.1 ∙ place_is ∙ ap (rule_at text) is)
        go (no other) ih =
            let next = new_next n r rules name_is (new.each_new n (omega arith)) in
            let found = ih (omega arith) in
            (next.0 ∙ found.0, next.1 ∙ found.1)

    -- all rules are new ones
    lined_new : {n : ℕ} {rules : List Rule} → Lined n rules → n ≤ m → length text ≤ rule_at text m
        → repeats (names_before text n) rules ≡ false
    unfolding repeats
    lined_new (lined_none past) upto end = refl
    lined_new {n} (lined_more {r = r} {rules = rules} place_is name_is below rest) upto end =
        go (ℕ_discrete n m) (λ next. lined_new rest next end)
      where
        go : Dec (n ≡ m) → (suc n ≤ m → repeats (names_before text (suc n)) rules ≡ false) → repeats (names_before text n) (r ∷ rules) ≡ false
        go (yes is) ih = absurd (omega (arith, below, ap (rule_at text) is, end))
        go (no other) ih = (new_next n r rules name_is (new.each_new n (omega arith))).0 ∙ ih (omega arith)

-- what the search for a name that comes again finds in a sheet
module _ {text : List ℕ} {rules : List Rule} (read : Rules (tokens 0 text) rules) where
  pub comes_again : {at : ℕ} → AgainAt text at → (repeats [] rules ≡ true) × (repeated_at [] rules ≡ at)
  unfolding names_before
  comes_again a =
      let is = a.at_is in
      let found = lined_again text a.new (sheet_lined text read) (omega arith) (rw is at a.within) (rw is at a.known) in
      (found.0, found.1 ∙ sym is)

  pub never_again : NoneAgain text → repeats [] rules ≡ false
  unfolding names_before
  never_again a = lined_new text a.new (sheet_lined text read) (omega arith) a.ends
