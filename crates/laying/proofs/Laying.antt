-- Parts in a list of numbers, and the writing of a sample by them: what is written and what is due make the run.
use Prim.Native.Nat.{ℕ, zero, suc, ◌+◌, ◌-◌, ◌/◌, ◌≤◌, ◌<◌}
use native.Mathlib.Omega.{arith}
use native.Mathlib.Numerals.{add-one}
use mathlib.Core.Path.{◌≡◌, refl, sym, ap, ap₂, ◌∙◌, subst}
use mathlib.Core.Bool.{Bool, true, false, cond}
use mathlib.Core.List.{List, [], ◌∷◌, ◌++◌, append_assoc, append-nil}
use lib.Dec.{ltb}
use lib.ListN.{length, get_or, set, length-append, length-replicate}
use lib.Seq.{sets, length-sets, get_or-set_same, get_or-set_other}
use Rattle.words.specs.Words.{zeros}
use Rattle.words.proofs.Stored.{sets_then, sets-zeros}
use Rattle.book.specs.declared.Node.{Node}
use Rattle.book.specs.Book.{Book, Proper, fail_is, empty_is, token_is, either_is, then_is, tagged_is, ref_is}
use Rattle.rules.specs.Step.{left_from, right_from, kind_of}
use Rattle.weights.specs.Weight.{weight_at}
use Rattle.weights.proofs.Weighing.{head_small}
use Rattle.sampling.specs.Sample.{Sample}
use Rattle.sampling.specs.Parts.{events_of, due_before, parts_on, sum_over, visits, Fits, fits_none, Row, row_none}
use Rattle.sampling.proofs.Rows.{Visited, row_visit, fits_one, fits_visit, fits_few}
use Rattle.sampling.proofs.Best.{best_weight}
use Rattle.sampling.proofs.Writing.{DEPTH, sample_due, book_kinded}
use Rattle.laying.specs.Stacked.{stacked, Ready, Wrote}

-- ---- parts in a list

-- a part beyond so many places changes none of these
stacked-set : (parts : List ℕ) (at n held : ℕ) → held ≤ at → stacked (set parts at n) held ≡ stacked parts held
unfolding stacked
stacked-set parts at n zero below = refl
stacked-set parts at n (suc held) below =
    ap₂ (λ (x : ℕ) (xs : List ℕ). x ∷ xs) (get_or-set_other parts at held n 0 (λ e. omega arith)) (stacked-set parts at n held (omega arith))

pub stacked-length : (parts : List ℕ) (held : ℕ) → length (stacked parts held) ≡ held
unfolding stacked
stacked-length parts zero = refl
stacked-length parts (suc held) = ap suc (stacked-length parts held)

pub stacked_top : (parts : List ℕ) (held : ℕ) → 0 < held → stacked parts held ≡ get_or parts (held - 1) 0 ∷ stacked parts (held - 1)
unfolding stacked
stacked_top parts zero some = absurd (omega arith)
stacked_top parts (suc held) some = let less : suc held - 1 ≡ held = omega arith in rw less refl

-- so many places have so many parts, and none has none
pub stacked_held : (parts : List ℕ) (held : ℕ) {due : List ℕ} → stacked parts held ≡ due → held ≡ length due
stacked_held parts held are = sym (stacked-length parts held) ∙ ap length are

pub stacked_none : (parts : List ℕ) {held : ℕ} → held ≡ 0 → stacked parts held ≡ []
unfolding stacked
stacked_none parts none = rw none refl

-- one part is put
pub stacked_put : (parts : List ℕ) (held n : ℕ) → held < length parts → stacked (set parts held n) (held + 1) ≡ n ∷ stacked parts held
unfolding stacked
stacked_put parts held n inside = rw add-one is
  where
    is : stacked (set parts held n) (suc held) ≡ n ∷ stacked parts held
    is = ap₂ (λ (x : ℕ) (xs : List ℕ). x ∷ xs) (get_or-set_same parts held n 0 inside) (stacked-set parts held n held (omega arith))

-- ---- the sides of a proper node

pub left_zero : {kinds count n : ℕ} {at : Node} → n < count → Proper kinds count n at → left_from 0 at < count
left_zero below fail_is = omega arith
left_zero below empty_is = omega arith
left_zero below (token_is k) = omega arith
left_zero below (either_is l r) = omega arith
left_zero below (then_is l r) = omega arith
left_zero below (tagged_is l t) = omega arith
left_zero below (ref_is l) = l

pub right_zero : {kinds count n : ℕ} {at : Node} → n < count → Proper kinds count n at → right_from 0 at < count
right_zero below fail_is = omega arith
right_zero below empty_is = omega arith
right_zero below (token_is k) = omega arith
right_zero below (either_is l r) = omega arith
right_zero below (then_is l r) = omega arith
right_zero below (tagged_is l t) = omega arith
right_zero below (ref_is l) = omega arith

-- ---- writing

-- so much of the sample is written, and the parts that are due write the rest
pub record Writing (b : Book) (weights : List ℕ) (room : ℕ) (parts : List ℕ) (at : ℕ) (out : List ℕ) : Type 0 where
  pub written : List ℕ
  pub rest : List ℕ
  pub sample : Sample b (written ++ rest)
  pub fits_room : length (written ++ rest) ≤ room
  pub out_is : out ≡ sets (zeros room) 0 written
  pub at_is : at ≡ length written
  pub row : Row b.node (weight_at weights) b.count DEPTH parts rest
  pub fits : Fits (weight_at weights) b.count parts

-- how many nodes are still visited
abbrev pub visits_left : Book → List ℕ → List ℕ → ℕ
visits_left b weights parts = sum_over (visits b.node (weight_at weights) DEPTH) parts

-- the buffer is as long as it was
pub writing_long : {b : Book} {weights parts out : List ℕ} {room at : ℕ} → Writing b weights room parts at out → length out ≡ room
writing_long {room = room} writing =
    ap length writing.out_is ∙ length-sets (zeros room) 0 writing.written ∙ length-replicate room 0

module _ {b : Book} {weights : List ℕ} {room : ℕ} (ready : Ready b weights room) where
  -- the sample is as long as its weight says
  pub sample_length : {run : List ℕ} → Sample b run → length run ≡ weight_at weights b.start / 64
  sample_length {run} sample =
      let kinded = book_kinded b ready.passes.well_formed in
      omega (arith, best_weight ready.are kinded ready.short sample, head_small kinded (kinded b.start) sample.derived)

  pub start_inside : {start : ℕ} → start ≡ b.start → start < length weights
  start_inside is = omega (arith, is, ready.passes.well_formed.start_below, ready.passes.well_formed.few_nodes, ready.long)

  -- before the first visit the start is due, if anything is
  pub writing_none : {start : ℕ} {parts out : List ℕ} → start ≡ b.start → out ≡ zeros room
      → parts ≡ due_before (weight_at weights start) start [] → Writing b weights room parts 0 out
  writing_none {start} {parts} is clear given =
      let due_are : parts ≡ due_before (weight_at weights b.start) b.start [] = rw is at given in
      let due = sample_due b ready.passes weights ready.are ready.short in
      rw due_are
      (record {
        written = [];
        rest = due.run;
        sample = due.sample;
        fits_room = omega (arith, sample_length due.sample, ready.fits);
        out_is = clear;
        at_is = refl;
        row = due.row;
        fits = due_fits (ltb (weight_at weights b.start) 64);
      })
    where
      due_fits : (t : Bool) → Fits (weight_at weights) b.count (cond t [] (b.start ∷ []))
      due_fits true = fits_none
      due_fits false = fits_one (weight_at weights) b.count b.start ready.passes.well_formed.start_below

  -- one visit, of the part on top of others
  module _ {parts out : List ℕ} {at : ℕ} (writing : Writing b weights room parts at out) {top : ℕ} {under : List ℕ}
      (popped : parts ≡ top ∷ under) where
    visit : Visited b.node (weight_at weights) b.count 33619967 top under writing.rest
    visit = row_visit (subst (λ xs. Row b.node (weight_at weights) b.count DEPTH xs writing.rest) popped writing.row)

    top_fits : Fits (weight_at weights) b.count (top ∷ under)
    top_fits = subst (Fits (weight_at weights) b.count) popped writing.fits

    pub visit-inside : top < b.count
    visit-inside = visit.inside

    -- there is room for two parts in its place
    pub room_inside : length under + 1 < 513
    room_inside = omega (arith, fits_few (weight_at weights) top_fits, ready.passes.well_formed.few_nodes)

    module _ {node : Node} (read : node ≡ b.node top) where
      pub visit_kind : kind_of node < 64
      visit_kind = rw read (book_kinded b ready.passes.well_formed top)

      -- its sides have weights
      pub visit_sides : (left_from 0 node < length weights) × (right_from 0 node < length weights)
      visit_sides =
          let proper = ready.passes.well_formed.proper top visit-inside in
          let few = ready.passes.well_formed.few_nodes in
          rw read
          (omega (arith, left_zero visit-inside proper, few, ready.long), omega (arith, right_zero visit-inside proper, few, ready.long))

      joins : writing.written ++ writing.rest ≡ (writing.written ++ events_of node) ++ visit.rest
      joins =
          ap (λ (xs : List ℕ). writing.written ++ xs) visit.run_is
          ∙ sym (append_assoc writing.written (events_of (b.node top)) visit.rest)
          ∙ ap (λ x. (writing.written ++ events_of x) ++ visit.rest) (sym read)

      -- its event finds room
      pub event_fits : at + length (events_of node) ≤ room
      event_fits =
          omega (
            arith,
            writing.fits_room,
            writing.at_is,
            ap length joins,
            length-append (writing.written ++ events_of node) visit.rest,
            length-append writing.written (events_of node),
          )

      module _ {after then : List ℕ} {at-then : ℕ} (put : after ≡ sets out at (events_of node)) (at_is : at-then ≡ at + length (events_of node))
          (pushed : then ≡ parts_on node (weight_at weights) under) where
        due_is : then ≡ parts_on (b.node top) (weight_at weights) under
        due_is = pushed ∙ ap (λ x. parts_on x (weight_at weights) under) read

        pub writing_more : Writing b weights room then at-then after
        writing_more = record {
          written = writing.written ++ events_of node;
          rest = visit.rest;
          sample = subst (Sample b) joins writing.sample;
          fits_room = subst (λ xs. length xs ≤ room) joins writing.fits_room;
          out_is =
              put ∙ ap (λ xs. sets xs at (events_of node)) writing.out_is
              ∙ sets_then (zeros room) 0 writing.written at (events_of node) (omega (arith, writing.at_is));
          at_is = omega (arith, at_is, writing.at_is, length-append writing.written (events_of node));
          row = subst (λ xs. Row b.node (weight_at weights) b.count DEPTH xs visit.rest) (sym due_is) visit.row;
          fits = subst (Fits (weight_at weights) b.count) (sym due_is) (fits_visit (weight_at weights) top_fits visit);
        }

        pub writing_fewer : visits_left b weights then < visits_left b weights parts
        writing_fewer = rw (due_is, popped) visit.fewer

  -- when nothing is due, the sample is written
  pub writing_end : {parts out : List ℕ} {at : ℕ} → Writing b weights room parts at out → parts ≡ [] → Wrote b out room
  writing_end {parts} {out} writing end =
      record {
        run = writing.written ++ writing.rest;
        sample = writing.sample;
        out_is =
            rw (over end writing.row, append-nil writing.written)
            (writing.out_is ∙ sets-zeros room writing.written
            (omega (arith, writing.fits_room, length-append writing.written writing.rest)));
      }
    where
      nothing : {rest : List ℕ} {depth : ℕ} → Row b.node (weight_at weights) b.count depth [] rest → rest ≡ []
      nothing row_none = refl

      over : {rest : List ℕ} → parts ≡ [] → Row b.node (weight_at weights) b.count DEPTH parts rest → rest ≡ []
      over {rest} none row = nothing (subst (λ xs. Row b.node (weight_at weights) b.count DEPTH xs rest) none row)
