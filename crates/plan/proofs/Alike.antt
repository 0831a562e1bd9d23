-- Plans that are alike but for what is due are judged alike, and agree below their count.
use Prim.Native.Nat.{ℕ, zero, suc, ◌+◌, ◌*◌, ◌/◌, ◌%◌, ◌≤◌, ◌<◌}
use native.Mathlib.Nat.{div-lt_iff_lt-mul}
use native.Mathlib.Omega.{arith}
use mathlib.Core.Path.{◌≡◌, refl, sym, ap, ap₂, ◌∙◌}
use mathlib.Core.Bool.{Bool, ◌&&◌, cond}
use mathlib.Core.List.{List, [], ◌∷◌}
use lib.Arith.{digits_lt}
use lib.Dec.{ltb, leb, eqb}
use lib.ListN.{length, get_or}
use Rattle.words.specs.Lists.{first_bad}
use Rattle.words.specs.Words.{u16_at}
use Rattle.forms.specs.Forms.{contents_of, words_are, contents_are}
use Rattle.book.specs.Book.{left_of, right_of, tag_of}
use Rattle.book.specs.Decode.{type_of, fields_good, node_of, type_at, left_at, right_at, node_at, nodes, node_good}
use Rattle.book.specs.Form.{DONE, judged, settings_good}
use Rattle.book.proofs.Decoded.{nodes_below}
use Rattle.running.proofs.Agrees.{Agree}
use Rattle.plan.specs.Form.{plan_sections, plan_settings_at, plan_nodes_at, rows_at, row_at, dues_at, plan_count, plan_kinds, plan_start, cell_at}
use Rattle.plan.specs.Form.{plan_from, plan_of, PLAN-FORM, CELL, size_good, plan_good, has_cell, cell_good, cells_judged, plan_judged}
use Rattle.plan.specs.Form.{Runnable, AlikeButDue}
use Rattle.plan.proofs.Runnable.{start_node, left_node, right_node}

-- tests that are the same below a count fail first at the same number
first_same : {good other : ℕ → Bool} (left n : ℕ) → ((i : ℕ) → i < n + left → good i ≡ other i) → first_bad good left n ≡ first_bad other left n
unfolding first_bad
first_same zero n same = refl
first_same {good} {other} (suc left) n same =
    ap₂ (λ (b : Bool) (m : ℕ). cond b m n) (same n (omega arith)) (first_same left (suc n) (λ i below. same i (omega arith)))

module _ {p q : List ℕ} (alike : AlikeButDue p q) where
  abbrev count : ℕ
  count = plan_count p

  abbrev kinds : ℕ
  kinds = plan_kinds p

  -- ---- words, nodes and cells

  word_same : (at : ℕ) → at + 1 < dues_at count kinds → u16_at p at ≡ u16_at q at
  unfolding u16_at
  word_same at within = ap₂ (λ (low high : ℕ). low + 256 * high) (alike.before at (omega arith)) (alike.before (at + 1) within)

  pub count_same : plan_count p ≡ plan_count q
  unfolding plan_count
  count_same = ap (λ (n : ℕ). n / 6) (word_same 12 (omega arith))

  pub kinds_same : plan_kinds p ≡ plan_kinds q
  unfolding plan_kinds
  kinds_same = word_same 26 (omega arith)

  start_same : plan_start p ≡ plan_start q
  unfolding plan_start
  start_same = word_same 28 (omega arith)

  words_same : (at : ℕ) (words : List ℕ) → at + 2 * length words ≤ dues_at count kinds → words_are p at words ≡ words_are q at words
  words_same at [] within = refl
  words_same at (word ∷ more) within =
      ap₂ ◌&&◌ (ap (λ (n : ℕ). eqb n word) (word_same at (omega arith))) (words_same (at + 2) more (omega arith))

  contents_same : contents_are p (plan_sections count kinds) ≡ contents_are q (plan_sections count kinds)
  contents_same = words_same 0 (contents_of (plan_sections count kinds)) (omega arith)

  settings_same : settings_good p plan_settings_at count ≡ settings_good q plan_settings_at count
  settings_same =
      ap₂ (λ (k s : ℕ). leb 1 k && leb k 64 && ltb s count) (word_same plan_settings_at (omega arith)) (word_same (plan_settings_at + 2) (omega arith))

  module _ (n : ℕ) (below : n < count) where
    type_same : type_at p plan_nodes_at n ≡ type_at q plan_nodes_at n
    type_same = word_same (plan_nodes_at + 6 * n) (omega arith)

    left-same : left_at p plan_nodes_at n ≡ left_at q plan_nodes_at n
    left-same = word_same (plan_nodes_at + 6 * n + 2) (omega arith)

    right_same : right_at p plan_nodes_at n ≡ right_at q plan_nodes_at n
    right_same = word_same (plan_nodes_at + 6 * n + 4) (omega arith)

    good_same : node_good p plan_nodes_at kinds count n ≡ node_good q plan_nodes_at kinds count n
    unfolding node_good
    good_same =
        λ i. fields_good (type_of (type_same i)) (record { kinds = kinds; count = count; own = n; left = left-same i; right = right_same i })

    node_same : node_at p plan_nodes_at n ≡ node_at q plan_nodes_at n
    unfolding node_at
    node_same = λ i. node_of (type_same i) (left-same i) (right_same i)

    looked_up : nodes p plan_nodes_at (plan_count p) n ≡ nodes q plan_nodes_at (plan_count q) n
    looked_up =
        nodes_below p plan_nodes_at count n below ∙ node_same ∙ sym (nodes_below q plan_nodes_at (plan_count q) n (rw count_same at below))

    cell_same : (column : ℕ) → column < kinds + 1 → cell_at p count kinds n column ≡ cell_at q (plan_count q) (plan_kinds q) n column
    unfolding cell_at
    cell_same column within =
        rw (← count_same, ← kinds_same)
        (alike.before (row_at count kinds n + column) (omega (arith, digits_lt {q = n} {m = count} {r = column} {c = kinds + 1} below within)))

  -- ---- the form

  form_same : plan_good p count kinds ≡ plan_good q count kinds
  unfolding plan_good
  form_same =
      λ i. size_good (alike.long i) count kinds
      && (contents_same i && settings_same i && leb count (first_same count 0 (λ n below. good_same n (omega (arith, below))) i))

  place_same : (place : ℕ) → place < count * (kinds + 1) → cell_good p count kinds place ≡ cell_good q count kinds place
  unfolding cell_good
  place_same place below =
      let row : place / (kinds + 1) < count = (div-lt_iff_lt-mul {k = kinds + 1} {x = place} {y = count} (omega arith)).1 below in
      let cell : get_or p (rows_at count + place) 0 ≡ get_or q (rows_at count + place) 0 = alike.before (rows_at count + place) (omega arith) in
      λ i. cond (ltb (place % (kinds + 1)) kinds) (has_cell (node_same (place / (kinds + 1)) row i) (cell i)) (leb (cell i) 1)

  cells_same : cells_judged p count kinds ≡ cells_judged q count kinds
  unfolding cells_judged
  cells_same =
      ap (λ (bad : ℕ). cond (ltb bad (count * (kinds + 1))) (judged CELL bad) (judged DONE 0))
      (first_same (count * (kinds + 1)) 0 (λ place below. place_same place (omega (arith, below))))

  -- they are judged alike
  pub judged_alike : plan_judged p ≡ plan_judged q
  unfolding plan_judged
  judged_alike =
      rw (← count_same, ← kinds_same) (λ i. cond (form_same i) (cells_same i) (judged PLAN-FORM 0))

  -- ---- the plans

  -- tags are the same
  pub tags_agree : (n : ℕ) → n < (plan_of p).count → (plan_of p).tag n ≡ (plan_of q).tag n
  unfolding plan_from
  tags_agree n below = ap tag_of (looked_up n below)

  -- where they are judged done they agree
  pub plans_agree : (plan_judged p).number ≡ DONE → Agree (plan_of p) (plan_of q)
  unfolding plan_from
  plans_agree good =
      record {
        count = count_same;
        kinds = kinds_same;
        start = start_same;
        start_below = start_node runs;
        left = λ n below. ap left_of (looked_up n below);
        right = λ n below. ap right_of (looked_up n below);
        left_below = λ n below. left_node runs n;
        right_below = λ n below. right_node runs n;
        cell = λ n k below kind. cell_same n below k (omega arith);
        null = λ n below.
            ap (λ (c : ℕ). eqb c 1) (cell_same n below kinds (omega arith) ∙ ap (cell_at q (plan_count q) (plan_kinds q) n) kinds_same);
      }
    where
      runs : Runnable p (plan_count p) (plan_kinds p)
      runs = record { good = good; count_is = refl; kinds_is = refl }
