-- How the words of a sheet are spelled.
use Rattle.std.specs.Prelude.{ℕ, ◌≤◌, ◌<◌, ◌≡◌, ◌≢◌, true, List, [], length, get_or}
use Rattle.sheets.specs.Text.{empty_word}
use Rattle.sheets.specs.Grammar.{Rule}
use Rattle.sheets.specs.Nodes.{among, rule_names, all_words, kind_names}

-- a word: 1 to 16 small letters, and not `empty`
pub record GoodWord (letters : List ℕ) : Type 0 where
  pub some_letter : 1 ≤ length letters
  pub few_letters : length letters ≤ 16
  pub all_small : (i : ℕ) → i < length letters → (97 ≤ get_or letters i 0) × (get_or letters i 0 ≤ 122)
  pub free : letters ≢ empty_word

-- each rule's name, each word of an expression and each kind's name is such a word
pub record GoodWords (rules : List Rule) : Type 0 where
  pub names : (w : List ℕ) → among w (rule_names rules) ≡ true → GoodWord w
  pub words : (w : List ℕ) → among w (all_words rules) ≡ true → GoodWord w
  pub kinds : (k : ℕ) → k < length (kind_names rules) → GoodWord (get_or (kind_names rules) k [])
