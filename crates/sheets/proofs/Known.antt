-- Each word of a sheet names a rule or is a kind.
use Prim.Native.Nat.{ℕ, ◌<◌}
use native.Mathlib.Omega.{arith}
use mathlib.Core.Path.{◌≡◌, sym, ◌∙◌}
use mathlib.Core.Bool.{true, false}
use mathlib.Core.List.{List, [], ◌∷◌, ◌++◌}
use lib.ListN.{length, get_or}
use Rattle.sheets.specs.Grammar.{Rule}
use Rattle.sheets.specs.Nodes.{among, number_of, rule_names, all_words, kind_names}
use Rattle.sheets.specs.Meaning.{IsKind}
use Rattle.sheets.proofs.Words.{among_one, among-left, among_right, get_d_among, number_below, number_names}
use Rattle.sheets.proofs.Appearance.{kinds_by_first_appearance}

-- words that each name a rule or are a kind
pub record Known (rules : List Rule) (words : List (List ℕ)) : Type 0 where
  pub kind : (w : List ℕ) → among w words ≡ true → among w (rule_names rules) ≡ false → among w (kind_names rules) ≡ true

pub all_known : (rules : List Rule) → Known rules (all_words rules)
all_known rules = record { kind = (kinds_by_first_appearance rules).none_left-out }

module _ {rules : List Rule} where
  pub known_left : (xs ys : List (List ℕ)) → Known rules (xs ++ ys) → Known rules xs
  known_left xs ys k = record { kind = λ w e. k.kind w (among-left w xs ys e) }

  pub known_right : (xs ys : List (List ℕ)) → Known rules (xs ++ ys) → Known rules ys
  known_right xs ys k = record { kind = λ w e. k.kind w (among_right w xs ys e) }

  pub known_one : {w : List ℕ} → Known rules (w ∷ []) → among w (rule_names rules) ≡ false → among w (kind_names rules) ≡ true
  known_one {w} k = k.kind w (among_one w)

-- the kind that a word is
pub word_kind : (rules : List Rule) (letters : List ℕ) → among letters (rule_names rules) ≡ false → among letters (kind_names rules) ≡ true
    → IsKind rules (number_of letters (kind_names rules)) letters
word_kind rules letters free kind =
    record {
      no_rule = free;
      known = number_below letters (kind_names rules) kind;
      named_so = number_names letters (kind_names rules) kind;
    }

-- a kind's number is the one that goes with its name
pub kind_number : {rules : List Rule} {k : ℕ} {letters : List ℕ} → IsKind rules k letters → number_of letters (kind_names rules) ≡ k
kind_number {rules} {k} {letters} is =
    let kinds = kind_names rules in
    let apart = (kinds_by_first_appearance rules).none_twice in
    let found : among letters kinds ≡ true = rw is.named_so at (get_d_among kinds k is.known) in
    let below : number_of letters kinds < length kinds = number_below letters kinds found in
    let here : get_or kinds (number_of letters kinds) [] ≡ letters = number_names letters kinds found in
    let not_lower : number_of letters kinds < k → ⊥ = λ h. apart _ _ h is.known (here ∙ sym is.named_so) in
    let not-higher : k < number_of letters kinds → ⊥ = λ h. apart _ _ h below (is.named_so ∙ sym here) in
    omega (arith, not_lower, not-higher)
