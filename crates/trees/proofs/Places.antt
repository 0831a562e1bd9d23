-- Where records first go wrong, and where more is due: a reading tells both, and that they are a tree.
use Prim.Native.Nat.{ℕ, suc, ◌<◌}
use mathlib.Core.Path.{◌≡◌, refl, sym, ◌∙◌}
use mathlib.Core.Bool.{Bool, true, false}
use mathlib.Core.List.{List, [], ◌∷◌, ◌++◌}
use lib.ListN.{length, take, get_or}
use Rattle.words.specs.Beginnings.{Starts, Parts, Lacks}
use Rattle.book.specs.Book.{Book}
use Rattle.grammar.specs.Passing.{Passes}
use Rattle.meaning.specs.Meaning.{Accepts}
use Rattle.trees.specs.declared.Due.TheVariants.{Nothing, Part}
use Rattle.trees.specs.Trees.{Tree, events}
use Rattle.trees.specs.Machine.{Powers, PowersOf, State, state, allows, goes, stops, step, onward, reads, read_tree}
use Rattle.trees.proofs.ReadTrees.{whole, clash, reads_append, read_more, owes_reads, tree_is_read, read_is_a_tree}
use Rattle.trees.proofs.Ready.{ready_part, none_held, IsReady, ready_owed, ready_then_on, nothing_held}

module _ {b : Book} (passes : Passes b) {powers : Powers} (known : PowersOf b.node powers) where
  ready_reads : (records : List ℕ) (s t : State) → IsReady b.node s → reads b.node powers s records ≡ goes t → IsReady b.node t
  unfolding reads onward step
  ready_reads [] s t r is = let same : s ≡ t = cc in rw (sym same) r
  ready_reads (given ∷ more) s t r is =
      go (allows powers s.due given) refl (λ u q e. ready_reads more u t q e)
    where
      go : (test : Bool) → allows powers s.due given ≡ test
          → ((u : State) → IsReady b.node u → reads b.node powers u more ≡ goes t → IsReady b.node t) → IsReady b.node t
      go true e ih = ih _ (ready_then_on passes.well_formed known given r e) (rw e at is)
      go false e ih = absurd (clash (rw e at is))

  -- wherever the reading stands, the records read can be completed
  pub read_ready : (records : List ℕ) {s : State} → read_tree b powers records ≡ goes s → IsReady b.node s
  unfolding read_tree
  read_ready records {s} is =
      ready_reads records (state (Part b.start) []) s (ready_part passes.productive none_held) is

  -- records that go through begin a tree
  pub read_starts : (records : List ℕ) {s : State} → read_tree b powers records ≡ goes s → Starts (Tree b) records
  unfolding read_tree onward
  read_starts records {s} is =
      let t = ready_owed (read_ready records is) in
      let e = (owes_reads passes.well_formed known t.1 s t.2).0 in
      let through : read_tree b powers (records ++ t.1) ≡ goes whole =
      reads_append b.node powers (state (Part b.start) []) records t.1 ∙ rw is e
      in
      record { rest = t.1; within = record { run = _; accepts = read_is_a_tree passes.well_formed known (records ++ t.1) through } }

  -- and those that do not, begin none
  pub stopped_starts_none : (records : List ℕ) → read_tree b powers records ≡ stops → Starts (Tree b) records → ⊥
  unfolding read_tree onward
  stopped_starts_none records is s =
      let e = (tree_is_read passes.well_formed known s.within.accepts).0 in
      let never : stops ≡ goes whole =
      sym (reads_append b.node powers (state (Part b.start) []) records s.rest ∙ rw is) ∙ e
      in
      clash never

  -- records that end with something due are no tree
  due_is_no_tree : (records : List ℕ) {s : State} → read_tree b powers records ≡ goes s → (s ≡ whole → ⊥) → Tree b records → ⊥
  due_is_no_tree records {s} is some t =
      let e = (tree_is_read passes.well_formed known t.accepts).0 in
      let same : s ≡ whole = let q = sym is ∙ e in cc in
      some same

  -- a record that may not stand where it stands: they go wrong there
  pub wrong_parts : (records : List ℕ) (i : ℕ) {s : State} → i < length records → read_tree b powers (take i records) ≡ goes s
      → allows powers s.due (get_or records i 0) ≡ false → Parts (Tree b) records i
  unfolding step
  wrong_parts records i {s} below is bars =
      record {
        inside = below;
        agrees = read_starts (take i records) is;
        differs = stopped_starts_none (take (suc i) records) (read_more b powers records i below is ∙ rw bars);
      }

  -- at the end: something is due, and more is lacking
  pub due_lacks : (records : List ℕ) {s : State} → read_tree b powers records ≡ goes s → (s.due ≡ Nothing → ⊥) → Lacks (Tree b) records
  due_lacks records {s} is some =
      record {
        agrees = read_starts records is;
        unfinished = due_is_no_tree records is (λ e. some (λ i. (e i).due));
      }

  -- or nothing is, and they are a tree
  pub nothing_due_tree : (records : List ℕ) {s : State} → read_tree b powers records ≡ goes s → s.due ≡ Nothing
      → Accepts b (events b.node records) records
  nothing_due_tree records {s} is none =
      let held_none = nothing_held (read_ready records is) none in
      let same : s ≡ whole = λ i. state (none i) (held_none i) in
      read_is_a_tree passes.well_formed known records (rw same at is)
