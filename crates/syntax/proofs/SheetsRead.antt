-- Every sheet is read: what is read as an expression leads from a state in which it is due to the state behind it.
use Prim.Native.Nat.{ℕ, ◌+◌, ◌≤◌}
use native.Mathlib.Omega.{arith}
use mathlib.Core.Path.{◌≡◌, refl, sym}
use mathlib.Core.List.{List, [], ◌∷◌, ◌++◌, append-nil, append_assoc}
use lib.ListN.{length}
use Rattle.words.proofs.Tests.{fails}
use Rattle.sheets.specs.Text.{Token, word, sign, same, empty_word}
use Rattle.sheets.specs.Grammar.{Expression, named, nothing, Rule, rule, IsWord, first_place}
use Rattle.sheets.specs.Grammar.{Sort, bare, factor, factors, sequences, Reads, a_word, an_empty, a_group, plain, a_star as read-star}
use Rattle.sheets.specs.Grammar.{one_factor, further_factor, one_sequence, further_sequence, Rules, no_rules, a_rule, Sheet}
use Rattle.syntax.specs.Machine.{Choices, no_choice, before, no_factor, so_far, Frame, frame, blank_frame}
use Rattle.syntax.specs.Machine.{joined, with_factor, chosen, closed_by, closed}
use Rattle.syntax.specs.Machine.{due, after, done, Inside, State, name_due, inside, sheet, word_of, read_sheet}
use Rattle.syntax.proofs.Bytes.{same_self, same_equal}
use Rattle.syntax.proofs.Steps.{nested, opening, Seat, factoring, Seated, seat_name, seat_due, seat_done, seat_after}
use Rattle.syntax.proofs.Steps.{takes_name, takes_factor, whole_name}
use Rattle.syntax.proofs.Signs.{Followed, behind_star, behind-bare, Sign, an_equals, an_open, a_star, a_bar, a_close, an_end}
use Rattle.syntax.proofs.Comes.{Comes, comes_end, comes_word, comes_sign}
use Rattle.syntax.proofs.Runs.{comes_to_run}

-- ---- a factor without a star

-- what a word is within an expression
pub word_named : {p : ℕ} {letters : List ℕ} → IsWord letters → word_of p letters ≡ named p letters
unfolding word_of
word_named {letters = letters} w = rw (fails (same letters empty_word) (λ e. w.free (same_equal letters empty_word e)))

pub word_nothing : {p : ℕ} → word_of p empty_word ≡ nothing p
unfolding word_of
word_nothing = rw (same_self empty_word)

comes_factor : {s : State} {i : Inside} {f : Frame} {p : ℕ} {letters : List ℕ} {e : Expression} {more : List Token} {rules : List Rule}
    → length letters ≤ 16 → word_of p letters ≡ e → Seated s (factoring i f) → Comes (inside i f (after p e)) more rules
    → Comes s (word p letters ∷ more) rules
comes_factor short is seated rest = comes_word seated (takes_factor short) (rw (sym is) at rest)

-- what is taken where no star may follow is taken where one may
module _ {i : Inside} {f g : Frame} {p : ℕ} {e : Expression} (same : g ≡ with_factor p e f) where
  seat_bare : {seat : Seat} → Seated (inside i g done) seat → Seated (inside i f (after p e)) seat
  seat_bare seat_done = rw same seat_after

  behind_too : {j : Inside} {h : Frame} → Followed (inside i g done) j h → Followed (inside i f (after p e)) j h
  behind_too behind_star = rw same behind-bare

  sign_bare : {at byte : ℕ} {then : State} → Sign (inside i g done) at byte then → Sign (inside i f (after p e)) at byte then
  sign_bare (an_open seated room) = an_open (seat_bare seated) room
  sign_bare (a_bar behind) = a_bar (behind_too behind)
  sign_bare (a_close behind is) = a_close (behind_too behind) is
  sign_bare (an_end behind is) = an_end (behind_too behind) is

  comes_bare : {more : List Token} {rules : List Rule} → Comes (inside i g done) more rules → Comes (inside i f (after p e)) more rules
  comes_bare (comes_word seated takes rest) = comes_word (seat_bare seated) takes rest
  comes_bare (comes_sign x rest) = comes_sign (sign_bare x) rest

-- ---- what is read leads on

-- by the sort that it is read as: where the reading of what follows it comes to rules, the reading from its first token does
Leads : List Rule → Sort → ℕ → List Token → Expression → List Token → Type 0
Leads rules bare d from e more =
    (s : State) (i : Inside) (f : Frame) → length i.opens + d ≡ 32 → Seated s (factoring i f)
    → Comes (inside i f (after (first_place from) e)) more rules → Comes s from rules
Leads rules factor d from e more =
    (s : State) (i : Inside) (f : Frame) → length i.opens + d ≡ 32 → Seated s (factoring i f)
    → Comes (inside i (with_factor (first_place from) e f) done) more rules → Comes s from rules
Leads rules factors d from e more =
    (i : Inside) (c : Choices) → length i.opens + d ≡ 32
    → Comes (inside i (frame c (so_far e)) done) more rules → Comes (inside i (frame c no_factor) due) from rules
Leads rules sequences d from e more =
    (i : Inside) → length i.opens + d ≡ 32
    → ((f : Frame) → closed f ≡ e → Comes (inside i f done) more rules) → Comes (inside i blank_frame due) from rules

leads : {sort : Sort} {d : ℕ} {from more : List Token} {e : Expression} (rules : List Rule) → Reads sort d from e more
    → Leads rules sort d from e more
unfolding Leads joined with_factor closed_by chosen
leads rules (a_word w) = λ s i f room seated rest. comes_factor w.short (word_named w) seated rest
leads rules an_empty = λ s i f room seated rest. comes_factor (omega arith) word_nothing seated rest
leads rules (a_group {p = p} inner) =
    λ s i f room seated rest.
    comes_sign (an_open seated (omega arith))
    (leads rules inner (nested i (opening p f ∷ i.opens)) (omega arith)
    (λ g is. comes_sign (a_close behind_star refl) (rw (sym is) at rest)))
leads rules (plain r) = λ s i f room seated rest. leads rules r s i f room seated (comes_bare refl rest)
leads rules (read-star r) = λ s i f room seated rest. leads rules r s i f room seated (comes_sign a_star rest)
leads rules (one_factor r) = λ i c room rest. leads rules r _ i (frame c no_factor) room seat_due rest
leads rules (further_factor {e = e} r q) =
    λ i c room rest. leads rules r i c room (leads rules q _ i (frame c (so_far e)) room seat_done rest)
leads rules (one_sequence {e = e} r) = λ i room rest. leads rules r i no_choice room (rest (frame no_choice (so_far e)) refl)
leads rules (further_sequence {p = p} {f = f} r q) =
    λ i room rest.
    leads rules r i room
    (λ g is. comes_sign (a_bar behind_star)
    (leads rules q i (before p (closed g)) room (rest (frame (before p (closed g)) (so_far f)) (rw is))))

-- ---- rules, and a whole sheet

rule_comes : {p q r : ℕ} {name : List ℕ} {inner more : List Token} {e : Expression} {read rules : List Rule} → IsWord name
    → Reads sequences 32 inner e (sign r 59 ∷ more) → Comes (name_due (read ++ (rule p name e ∷ []))) more rules
    → Comes (name_due read) (word p name ∷ sign q 61 ∷ inner) rules
unfolding Leads
rule_comes {p} {name = name} {read = read} {rules} w reads rest =
    comes_word seat_name (takes_name w)
    (comes_sign an_equals
    (leads rules reads (record { rules = read; place = p; name = name; opens = [] }) refl
    (λ f is. comes_sign (an_end behind_star refl) (rw (sym is) at rest))))

rules_come : {text : List Token} {rules : List Rule} (r : Rule) (read : List Rule) → Rules text rules
    → Comes (name_due (r ∷ read)) text (r ∷ read ++ rules)
rules_come r read no_rules = rw (append-nil read) comes_end
rules_come r read (a_rule {p = p} {name = name} {e = e} {rules} w reads others) =
    rule_comes w reads (rw (append_assoc read (rule p name e ∷ []) rules) at (rules_come r (read ++ (rule p name e ∷ [])) others))

first_comes : {text : List Token} {first : Rule} {further : List Rule} → Rules text (first ∷ further)
    → Comes (name_due []) text (first ∷ further)
first_comes (a_rule {p = p} {name = name} {e = e} w reads others) = rule_comes w reads (rules_come (rule p name e) [] others)

-- a sheet is read as its rules
pub sheet_is_read : (text : List ℕ) {first : Rule} {further : List Rule} → Sheet text first further
    → read_sheet text ≡ sheet (first ∷ further)
sheet_is_read text is = comes_to_run text 0 whole_name (first_comes is)
