-- What a text is decides what reading it comes to: a sheet has one list of rules, and each way to be no sheet its one place.
use Prim.Native.Nat.{ℕ}
use mathlib.Core.Path.{◌≡◌, refl, ap, ◌∙◌}
use mathlib.Core.Bool.{Bool, true, false}
use mathlib.Core.List.{List, ◌∷◌}
use lib.Dec.{ltb}
use lib.ListN.{length}
use borrow.Author.Tests.{ltb-true, ltb-false}
use Rattle.words.specs.Beginnings.{Parts, Lacks}
use Rattle.sheets.specs.Grammar.{Rule, Sheet, IsSheet}
use Rattle.syntax.specs.Machine.{Outcome, sheet, wrong, read_sheet}
use Rattle.syntax.proofs.SheetsRead.{sheet_is_read}
use Rattle.syntax.proofs.ReadSheets.{read_is_a_sheet}
use Rattle.words.proofs.Beginnings.{parts_once, parts_not_in, parts_not_lacks}
use Rattle.syntax.proofs.WrongPlaces.{wrong_parts, wrong_lacks}

-- a sheet has one list of rules
pub sheet_once : (text : List ℕ) {first other : Rule} {further others : List Rule} → Sheet text first further → Sheet text other others
    → first ∷ further ≡ other ∷ others
sheet_once text {first} {other} {further} {others} x y =
    let p = sheet_is_read text x in
    let q = sheet_is_read text y in
    cc

-- what is read as rules is a sheet
read_in : (text : List ℕ) {rules : List Rule} → read_sheet text ≡ sheet rules → IsSheet text
read_in text is = let f = read_is_a_sheet text is in record { first = f.first; further = f.further; sheet = f.is_sheet }

-- a text that goes wrong at a place is wrong there
pub parts_wrong : (text : List ℕ) {i : ℕ} → Parts IsSheet text i → read_sheet text ≡ wrong i
parts_wrong text {i} p = go (read_sheet text) refl
  where
    place : (j : ℕ) (t : Bool) → ltb j (length text) ≡ t → read_sheet text ≡ wrong j → j ≡ i
    place j true below is = parts_once (wrong_parts text is (ltb-true j (length text) below)) p
    place j false past is = absurd (parts_not_lacks p (wrong_lacks text is (ltb-false j (length text) past)).1)

    go : (out : Outcome) → read_sheet text ≡ out → read_sheet text ≡ wrong i
    go (sheet rules) is = absurd (parts_not_in p (read_in text is))
    go (wrong j) is = is ∙ ap wrong (place j (ltb j (length text)) refl is)

-- one in which more is due is wrong at its end
pub lacks_wrong : (text : List ℕ) → Lacks IsSheet text → read_sheet text ≡ wrong (length text)
lacks_wrong text l = go (read_sheet text) refl
  where
    place : (j : ℕ) (t : Bool) → ltb j (length text) ≡ t → read_sheet text ≡ wrong j → j ≡ length text
    place j true below is = absurd (parts_not_lacks (wrong_parts text is (ltb-true j (length text) below)) l)
    place j false past is = (wrong_lacks text is (ltb-false j (length text) past)).0

    go : (out : Outcome) → read_sheet text ≡ out → read_sheet text ≡ wrong (length text)
    go (sheet rules) is = absurd (l.unfinished (read_in text is))
    go (wrong j) is = is ∙ ap wrong (place j (ltb j (length text)) refl is)
