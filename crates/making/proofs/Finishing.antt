-- A call's answer, by what is settled of the sheet: a book made, or the place of a node.
use mathlib.Core.Path.{◌≡◌, refl, sym, ap, ◌∙◌}
use mathlib.Core.List.{List, ◌∷◌}
use Prim.Native.Nat.{ℕ}
use lib.ListN.{get_or, get_or-map}
use Rattle.written.specs.Written.{out, written, refused_with, handed, Hands}
use Rattle.written.proofs.Handing.{handed_is}
use Rattle.written.specs.declared.Written.{Written}
use Rattle.book.specs.declared.Node.TheVariants.{Fail}
use Rattle.sheets.specs.Nodes.{rules_places}
use Rattle.outline.proofs.Sheets.{raw_rules_length}
use Rattle.outline.specs.Raw.{raw_rules}
use Rattle.outline.specs.declared.RawNode.{RawNode}
use Rattle.resolving.proofs.Nodes.{places_are}
use Rattle.making.specs.Makes.{made_of, Makes, place_of, Places}
use Rattle.making.specs.Bytes.{Down, made_bytes, place_down}
use Rattle.making.specs.Settled.{written_by, SettledAs, RefusedAs}
use Rattle.making.specs.declared.Refusal.{Refusal}
use Rattle.making.specs.declared.Refusal.TheVariants.{NoSheet, NamedTwice, TooBig, Kindless}
use Rattle.making.proofs.Passing.{made_is}
use Rattle.making.proofs.Answering.{refused_answers, passed_answers}

module _ {text : List ℕ} where
  pub make_refused : {refusal : Refusal} {w : Written} → RefusedAs text refusal → w ≡ written_by refusal → (room : ℕ) {answer : Written} {bytes : List ℕ}
      → Hands (refused_with w.number w.place room) answer bytes → Makes text room (out answer bytes)
  make_refused why is room hands =
      rw (← handed_is hands, is) (refused_answers (λ number place. refused_with number place room) text (made_of room) why)

  pub place_refused : {refusal : Refusal} {w : Written} → RefusedAs text refusal → w ≡ written_by refusal → (node : ℕ) → Places text node w
  place_refused {refusal} why is node =
      rw (is, written_is refusal) (refused_answers (λ number place. written number 0 place) text (place_of node) why)
    where
      written_is : (refusal : Refusal) → written_by refusal ≡ written (written_by refusal).number 0 (written_by refusal).place
      written_is (NoSheet place) = refl
      written_is (NamedTwice place) = refl
      written_is TooBig = refl
      written_is Kindless = refl

  module _ {d : Down} (s : SettledAs text d) where
    pub make_done : (room : ℕ) {answer : Written} {bytes : List ℕ} → Hands (handed (made_bytes d) room) answer bytes
        → Makes text room (out answer bytes)
    make_done room hands =
        rw (← handed_is hands, made_is s.sheet s.pass s.put)
        (passed_answers (λ number place. refused_with number place room) text (made_of room) s.sheet s.pass)

    pub place_done : (node : ℕ) {answer : Written} → answer ≡ place_down d node → Places text node answer
    unfolding place_down
    place_done node is =
        rw (is, s.put.nodes_are, raw_rules_length 0 (s.first ∷ s.further), there)
        (passed_answers (λ number place. written number 0 place) text (place_of node) s.sheet s.pass)
      where
        there : (get_or (raw_rules 0 (s.first ∷ s.further)) node (record { node = Fail; place = 0 })).place
            ≡ get_or (rules_places (s.first ∷ s.further)) node 0
        there =
            sym (get_or-map (λ (raw : RawNode). raw.place) (raw_rules 0 (s.first ∷ s.further)) node (record { node = Fail; place = 0 }))
            ∙ ap (λ (l : List ℕ). get_or l node 0) (places_are 0 (s.first ∷ s.further))
