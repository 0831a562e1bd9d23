-- The outcome of a reading as the book means it: from what the answer of the machine means to what its number, place and tree say.
use Prim.Native.Nat.{ℕ, ◌-◌, ◌≤◌, ◌<◌}
use native.Mathlib.Nat.{le_of_eq}
use native.Mathlib.Omega.{arith}
use borrow.Author.Tests.{le-leb, lt-ltb, le-ltb, ltb-true, ltb-false}
use mathlib.Core.Path.{◌≡◌, refl, sym, ap, ◌∙◌}
use mathlib.Core.Bool.{Bool, true, false, false≢true, cond}
use mathlib.Core.Logic.{◌⊎◌, inl, inr, ⊎_elim}
use mathlib.Core.List.{List, [], ◌++◌}
use lib.Dec.{ltb}
use lib.ListN.{length, take, get_or}
use lib.Seq.{take_all}
use Rattle.words.specs.Words.{zeros}
use Rattle.book.specs.Book.{Book}
use Rattle.book.specs.Form.{DONE}
use Rattle.running.specs.Running.{UNKNOWN, UNEXPECTED, END, Plan, Answer, AnswerOf, accepted, stopped, expected, tells}
use Rattle.running.specs.Stages.{Part, bare_answer}
use Rattle.reader.specs.Numbers.{answered}
use Rattle.reader.specs.Reads.{Outcome, outcome, accepted_of, outcome_of}
use Rattle.grammar.specs.Derivations.{Lawful}
use Rattle.grammar.specs.Passing.{Passes}
use Rattle.meaning.specs.Meaning.{tree, Refuses, Ends, refusal_of, Means, means_accepted, means_refused, means_end, without_parts}
use Rattle.meaning.specs.Meaning.{NextKinds, Tells, tells-next}
use Rattle.meaning.proofs.Verdict.{means_unique}
use Rattle.promises.specs.Promises.{ReadsAsMeant}

-- the number of an answer of the machine, and its place in a run of a length
number_of : Answer → ℕ
number_of (accepted records) = DONE
number_of (stopped number place held) = number

place_of : ℕ → Answer → ℕ
place_of size (accepted records) = size
place_of size (stopped number place held) = place

bare_number : (a : Answer) → number_of (without_parts a) ≡ number_of a
unfolding number_of without_parts
bare_number (accepted records) = refl
bare_number (stopped number place held) = refl

bare_place : (size : ℕ) (a : Answer) → place_of size (without_parts a) ≡ place_of size a
unfolding place_of without_parts
bare_place size (accepted records) = refl
bare_place size (stopped number place held) = refl

-- an answer that is accepted without its parts is accepted
bare_accepted : (a : AnswerOf Part) {records : List ℕ} → without_parts (bare_answer a) ≡ accepted records → a ≡ accepted records
unfolding without_parts bare_answer
bare_accepted (accepted more) {records} e = let same : more ≡ records = cc in ap accepted same
bare_accepted (stopped number place held) e = let never : ◌≡◌ {A = ℕ} 0 1 = cc in absurd (omega arith)

-- which number an event is refused with, by its kind
module _ (kinds k : ℕ) where
  by_kind : (known : Bool) → ltb k kinds ≡ known → (cond known UNEXPECTED UNKNOWN ≡ UNKNOWN → kinds ≤ k) × (cond known UNEXPECTED UNKNOWN ≡ UNEXPECTED → k < kinds)
  by_kind true is = (λ e. absurd (omega arith), λ e. ltb-true k kinds is)
  by_kind false is = (λ e. ltb-false k kinds is, λ e. absurd (omega arith))

  refused_unknown : {number : ℕ} → number ≡ refusal_of kinds k → number ≡ UNKNOWN → kinds ≤ k
  refused_unknown is e = (by_kind (ltb k kinds) refl).0 (sym is ∙ e)

  refused_unexpected : {number : ℕ} → number ≡ refusal_of kinds k → number ≡ UNEXPECTED → k < kinds
  refused_unexpected is e = (by_kind (ltb k kinds) refl).1 (sym is ∙ e)

  refused_listed : {number : ℕ} → number ≡ refusal_of kinds k → (number ≡ UNKNOWN) ⊎ (number ≡ UNEXPECTED)
  refused_listed {number} is = go (ltb k kinds) is
    where
      go : (known : Bool) → number ≡ cond known UNEXPECTED UNKNOWN → (number ≡ UNKNOWN) ⊎ (number ≡ UNEXPECTED)
      go true e = inr e
      go false e = inl e

  refused_between : {number : ℕ} → number ≡ refusal_of kinds k → (UNKNOWN ≤ number) × (number ≤ UNEXPECTED)
  refused_between is = ⊎_elim (λ e. omega arith) (λ e. omega arith) (refused_listed is)

module _ (p : Plan) (size room : ℕ) where
  -- the outcome of an accepted run, where its records have room
  pub accepted_outcome : (records : List ℕ) → length records ≤ room
      → outcome_of p size room (accepted records)
      ≡ outcome (answered DONE size (length records) 0) (records ++ zeros (room - length records))
  unfolding outcome_of accepted_of
  accepted_outcome records fits = rw (le-leb (length records) room fits)

  outcome_number : (a : AnswerOf Part) → ((records : List ℕ) → a ≡ accepted records → length records ≤ room)
      → (outcome_of p size room a).reading.number ≡ number_of (bare_answer a)
  unfolding outcome_of number_of bare_answer
  outcome_number (accepted records) fits = ap (λ (o : Outcome). o.reading.number) (accepted_outcome records (fits records refl))
  outcome_number (stopped number place held) fits = refl

  outcome_place : (a : AnswerOf Part) → ((records : List ℕ) → a ≡ accepted records → length records ≤ room)
      → (outcome_of p size room a).reading.place ≡ place_of size (bare_answer a)
  unfolding outcome_of place_of bare_answer
  outcome_place (accepted records) fits = ap (λ (o : Outcome). o.reading.place) (accepted_outcome records (fits records refl))
  outcome_place (stopped number place held) fits = refl

-- what the number and the place of an answer that means a run say
module _ {b : Book} {run : List ℕ} where
  lawful_number : {a : Answer} → Means b run a → number_of a ≡ DONE → Lawful b run
  unfolding number_of
  lawful_number (means_accepted m) e = m.derivation
  lawful_number (means_refused r is) e = absurd (omega (arith, (refused_between b.kinds _ is).0))
  lawful_number (means_end m) e = absurd (omega arith)

  unknown_number : {a : Answer} {i : ℕ} → Means b run a → number_of a ≡ UNKNOWN → place_of (length run) a ≡ i
      → Refuses b run i × (b.kinds ≤ get_or run i 0)
  unfolding number_of place_of
  unknown_number (means_accepted m) e f = absurd (omega arith)
  unknown_number (means_refused r is) e f = rw (← f) (r, refused_unknown b.kinds _ is e)
  unknown_number (means_end m) e f = absurd (omega arith)

  unexpected_number : {a : Answer} {i : ℕ} → Means b run a → number_of a ≡ UNEXPECTED → place_of (length run) a ≡ i
      → Refuses b run i × (get_or run i 0 < b.kinds)
  unfolding number_of place_of
  unexpected_number (means_accepted m) e f = absurd (omega arith)
  unexpected_number (means_refused r is) e f = rw (← f) (r, refused_unexpected b.kinds _ is e)
  unexpected_number (means_end m) e f = absurd (omega arith)

  end_number : {a : Answer} {i : ℕ} → Means b run a → number_of a ≡ END → place_of (length run) a ≡ i → Ends b run i
  unfolding number_of place_of
  end_number (means_accepted m) e f = absurd (omega arith)
  end_number (means_refused r is) e f = absurd (omega (arith, (refused_between b.kinds _ is).1))
  end_number (means_end m) e f = rw (← f) m

  listed_number : {a : Answer} → Means b run a
      → (number_of a ≡ DONE) ⊎ ((number_of a ≡ UNKNOWN) ⊎ ((number_of a ≡ UNEXPECTED) ⊎ (number_of a ≡ END)))
  unfolding number_of
  listed_number (means_accepted m) = inl refl
  listed_number (means_refused {number} r is) = inr (go (refused_listed b.kinds _ is))
    where
      go : (number ≡ UNKNOWN) ⊎ (number ≡ UNEXPECTED) → (number ≡ UNKNOWN) ⊎ ((number ≡ UNEXPECTED) ⊎ (number ≡ END))
      go (inl e) = inl e
      go (inr e) = inr (inl e)
  listed_number (means_end m) = inr (inr (inr refl))

-- the kinds that a refusal tells, by its number
module _ {b : Book} {run : List ℕ} {p : Plan} (size room : ℕ) where
  kinds_next : {number i : ℕ} {held : List ℕ} → Tells b run p (stopped number i held) → NextKinds b (take i run) (expected p held)
  kinds_next (tells-next next) = next

  -- an outcome whose number tells has the kinds next
  told-next : (a : AnswerOf Part) → Tells b run p (bare_answer a) → tells (number_of (bare_answer a)) ≡ true
      → NextKinds b (take (place_of size (bare_answer a)) run) (outcome_of p size room a).reading.expected
  unfolding outcome_of number_of place_of bare_answer
  told-next (accepted records) tell is = absurd (false≢true is)
  told-next (stopped number i held) tell is = rw is (kinds_next tell)

module _ {b : Book} (passes : Passes b) {run : List ℕ} (p : Plan) (room : ℕ) {a : AnswerOf Part} (means : Means b run (bare_answer a))
    (tell : Tells b run p (bare_answer a))
    (fits : (records : List ℕ) → a ≡ accepted records → length records ≤ room) where
  -- another answer that means the run has the same number and the same place
  same_number : {other : Answer} → Means b run other → (outcome_of p (length run) room a).reading.number ≡ number_of other
  same_number m = outcome_number p _ room a fits ∙ sym (bare_number (bare_answer a)) ∙ ap number_of (means_unique passes means m) ∙ bare_number _

  same_place : {other : Answer} → Means b run other → (outcome_of p (length run) room a).reading.place ≡ place_of (length run) other
  same_place m =
      outcome_place p _ room a fits ∙ sym (bare_place _ (bare_answer a)) ∙ ap (place_of (length run)) (means_unique passes means m) ∙ bare_place _ _

  accepted_is : (d : Lawful b run) → a ≡ accepted (tree b.start d)
  unfolding without_parts
  accepted_is d = bare_accepted a (means_unique passes means (means_accepted (record { derivation = d; records_are = refl })))

  -- a refusal of the run at an event, with its number
  refused_here : {i number : ℕ} → Refuses b run i → number ≡ refusal_of b.kinds (get_or run i 0) → Means b run (stopped number i [])
  refused_here r is = means_refused r is

  outcome_is : (d : Lawful b run)
      → outcome_of p (length run) room a
      ≡ outcome (answered DONE (length run) (length (tree b.start d)) 0) (tree b.start d ++ zeros (room - length (tree b.start d)))
  outcome_is d = ap (outcome_of p (length run) room) (accepted_is d) ∙ accepted_outcome p (length run) room _ (fits _ (accepted_is d))

  next_kinds : (number : ℕ) → tells number ≡ true → (outcome_of p (length run) room a).reading.number ≡ number
      → NextKinds b (take (outcome_of p (length run) room a).reading.place run) (outcome_of p (length run) room a).reading.expected
  next_kinds number told is =
      let same : number_of (bare_answer a) ≡ number = sym (outcome_number p _ room a fits) ∙ is in
      rw (outcome_place p _ room a fits) (told-next (length run) room a tell (rw same told))

  pub reads_as_meant : ReadsAsMeant b run room (outcome_of p (length run) room a).reading (outcome_of p (length run) room a).tree
  unfolding number_of place_of
  reads_as_meant =
      record {
        accepts = (
          λ e. lawful_number means (sym (outcome_number p _ room a fits) ∙ e),
          λ d. same_number (means_accepted (record { derivation = d; records_are = refl })),
        );
        answers = λ d. ap (λ (o : Outcome). o.reading) (outcome_is d);
        writes = λ d. ap (λ (o : Outcome). o.tree) (outcome_is d);
        unknown = λ i. (
          λ e. unknown_number means (sym (outcome_number p _ room a fits) ∙ e.0) (sym (outcome_place p _ room a fits) ∙ e.1),
          λ m.
              let is : UNKNOWN ≡ refusal_of b.kinds (get_or run i 0) = rw (le-ltb (get_or run i 0) b.kinds m.1) in
              (same_number (refused_here m.0 is), same_place (refused_here m.0 is)),
        );
        unexpected = λ i. (
          λ e. unexpected_number means (sym (outcome_number p _ room a fits) ∙ e.0) (sym (outcome_place p _ room a fits) ∙ e.1),
          λ m.
              let is : UNEXPECTED ≡ refusal_of b.kinds (get_or run i 0) = rw (lt-ltb (get_or run i 0) b.kinds m.1) in
              (same_number (refused_here m.0 is), same_place (refused_here m.0 is)),
        );
        ends = λ i. (
          λ e. end_number means (sym (outcome_number p _ room a fits) ∙ e.0) (sym (outcome_place p _ room a fits) ∙ e.1),
          λ m. (same_number (means_end {held = []} m), same_place (means_end {held = []} m)),
        );
        next = λ e. ⊎_elim (next_kinds UNKNOWN refl) (next_kinds UNEXPECTED refl) e;
        next_end = λ e.
            let ended = end_number means (sym (outcome_number p _ room a fits) ∙ e) refl in
            let whole : (outcome_of p (length run) room a).reading.place ≡ length run = outcome_place p _ room a fits ∙ ended.whole in
            rw (take_all _ run (le_of_eq (sym whole))) at (next_kinds END refl e);
        listed = rw (outcome_number p (length run) room a fits) (listed_number means);
      }
