-- Where the rules of a text begin, as far as `;` and blanks tell, and the names that stand there.
use Rattle.std.specs.Prelude.{ℕ, zero, suc, ◌+◌, ◌<◌, ◌≤◌, ◌≡◌, true, false, cond, List, [], ◌∷◌, eqb, length, drop}
use Rattle.sheets.specs.Text.{blank}
use Rattle.sheets.specs.Nodes.{among}
use Rattle.resolving.specs.Letters.{word_at}

-- how many blanks a list begins with, and how many bytes there are up to the first `;` and with it
unfoldable pub blanks_in : List ℕ → ℕ
blanks_in [] = 0
blanks_in (byte ∷ more) = cond (blank byte) (suc (blanks_in more)) 0

unfoldable pub rule_in : List ℕ → ℕ
rule_in [] = 0
rule_in (byte ∷ more) = cond (eqb byte 59) 1 (suc (rule_in more))

module _ (text : List ℕ) where
  -- the place past the blanks, and past the next `;`
  unfoldable pub past_blanks : ℕ → ℕ
  past_blanks at = at + blanks_in (drop at text)

  unfoldable pub past_rule : ℕ → ℕ
  past_rule at = at + rule_in (drop at text)

  -- where the rule with a number begins
  unfoldable pub rule_at : ℕ → ℕ
  rule_at zero = past_blanks 0
  rule_at (suc n) = past_blanks (past_rule (rule_at n))

  -- the names of the first so many rules, the last first
  unfoldable pub names_before : ℕ → List (List ℕ)
  names_before zero = []
  names_before (suc n) = word_at text (rule_at n) ∷ names_before n

  -- so many rules begin in the text, and no earlier rule has the name of one of them
  pub record NewBefore (n : ℕ) : Type 0 where
    pub each_within : (m : ℕ) → m < n → rule_at m < length text
    pub each_new : (m : ℕ) → m < n → among (word_at text (rule_at m)) (names_before m) ≡ false

  -- the place of the first rule whose name an earlier one has
  pub record AgainAt (at : ℕ) : Type 0 where
    pub number : ℕ
    pub new : NewBefore number
    pub at_is : at ≡ rule_at number
    pub within : at < length text
    pub known : among (word_at text at) (names_before number) ≡ true

  -- or there is none up to the end of the text
  pub record NoneAgain : Type 0 where
    pub number : ℕ
    pub new : NewBefore number
    pub ends : length text ≤ rule_at number
