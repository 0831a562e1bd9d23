-- A drum's calls alone say how it stands and what it answers: two boards of one length that agree at a drum still do so after
-- a call for it, with one answer, and a call for another drum leaves it as it was.
use mathlib.Core.Path.{◌≡◌, refl, sym, ◌∙◌, ap, subst}
use mathlib.Core.Bool.{Bool, true, false, not}
use mathlib.Core.Logic.{◌⊎◌, inl, inr}
use mathlib.Core.List.{List, [], ◌∷◌}
use Prim.Native.Nat.{ℕ}
use lib.Dec.{T, T_not, ltb, ltb→lt, eqb, eqb→eq, eqb_refl}
use lib.ListN.{length, get_or, length-set}
use lib.Seq.{get_or-set_same, get_or-set_other}
use Rattle.reader.specs.declared.Reading.{Reading}
use Rattle.drums.specs.declared.Drum.{Drum}
use Rattle.drums.specs.declared.Stepped.{Stepped}
use Rattle.drums.specs.Drums.{idle_drum}
use Rattle.board.specs.Board.{Called, called}
use Rattle.board.specs.Sequences.{asked_of, Call, call_on, drums_after, answers_for, calls_for, Touches, Isolated}
use Rattle.board.proofs.Calls.{chosen, other, called_on, called_off}

-- a test holds or fails
decided : (test : Bool) → T test ⊎ T (not test)
decided true = inl tt
decided false = inr tt

-- boards of one length that agree at a drum
record Alike (d : ℕ) (drums drums' : List Drum) : Type 0 where
  size : length drums ≡ length drums'
  drum : get_or drums d idle_drum ≡ get_or drums' d idle_drum

module _ (call : List ℕ → Drum → ℕ → ℕ → Stepped) (plan : List ℕ) (number k : ℕ) where
  abbrev after : List Drum → Called
  after drums = called call plan drums number k

  pub called_touches : (drums : List Drum) → Touches drums number (after drums).drums
  called_touches drums = by_test (decided (ltb number (length drums)))
    where
      by_test : T (ltb number (length drums)) ⊎ T (not (ltb number (length drums))) → Touches drums number (after drums).drums
      by_test (inl on) =
          let e = called_on call plan drums number k on in
          record {
            as_many = ap (λ (c : Called). length c.drums) e ∙ length-set drums number _;
            others = λ d apart. ap (λ (c : Called). get_or c.drums d idle_drum) e ∙ get_or-set_other drums number d _ idle_drum apart;
          }
      by_test (inr off) =
          let e = called_off call plan drums number k off in
          record {
            as_many = ap (λ (c : Called). length c.drums) e;
            others =
                λ d apart. ap (λ (c : Called). get_or c.drums d idle_drum) e;
          }

  -- one answer, and alike as before
  called_alike : (drums drums' : List Drum) → Alike number drums drums' → ((after drums).reading ≡ (after drums').reading) × Alike number
      (after drums).drums (after drums').drums
  called_alike drums drums' alike = by_test (decided (ltb number (length drums)))
    where
      step : List Drum → Stepped
      step ds = call plan (get_or ds number idle_drum) number k

      same_step : step drums ≡ step drums'
      same_step = ap (λ (d : Drum). call plan d number k) alike.drum

      sizes : length (after drums).drums ≡ length (after drums').drums
      sizes = (called_touches drums).as_many ∙ alike.size ∙ sym (called_touches drums').as_many

      stored : (ds : List Drum) → T (ltb number (length ds)) → get_or (after ds).drums number idle_drum ≡ (step ds).drum
      stored ds on = ap (λ (c : Called). get_or c.drums number idle_drum) (called_on call plan ds number k on)
          ∙ get_or-set_same ds number _ idle_drum (ltb→lt number (length ds) on)

      by_test : T (ltb number (length drums)) ⊎ T (not (ltb number (length drums)))
          → ((after drums).reading ≡ (after drums').reading) × Alike number (after drums).drums (after drums').drums
      by_test (inl on) =
          let on' = subst (λ (m : ℕ). T (ltb number m)) alike.size on in (
            ap (λ (c : Called). c.reading) (called_on call plan drums number k on) ∙ ap (λ (s : Stepped). s.reading) same_step
                ∙ sym (ap (λ (c : Called). c.reading) (called_on call plan drums' number k on')),
            record { size = sizes; drum = stored drums on ∙ ap (λ (s : Stepped). s.drum) same_step ∙ sym (stored drums' on') },
          )
      by_test (inr off) =
          let off' = subst (λ (m : ℕ). T (not (ltb number m))) alike.size off in
          let e = called_off call plan drums number k off in
          let e' = called_off call plan drums' number k off' in (
            ap (λ (c : Called). c.reading) e ∙ sym (ap (λ (c : Called). c.reading) e'),
            record {
              size = sizes;
              drum = ap (λ (c : Called). get_or c.drums number idle_drum) e ∙ alike.drum
                  ∙ sym (ap (λ (c : Called). get_or c.drums number idle_drum) e');
            },
          )

module _ (plan : List ℕ) (d : ℕ) where
  -- from boards that are alike at d, all calls on the one and d's own on the other
  record Agree (drums drums' : List Drum) (cs cs' : List Call) : Type 0 where
    stands : get_or (drums_after plan drums cs) d idle_drum ≡ get_or (drums_after plan drums' cs') d idle_drum
    answers : answers_for plan d drums cs ≡ answers_for plan d drums' cs'

  agree : (cs : List Call) (drums drums' : List Drum) → Alike d drums drums' → Agree drums drums' cs (calls_for d cs)
  unfolding drums_after answers_for calls_for
  agree [] drums drums' alike = record { stands = alike.drum; answers = refl }
  agree (c ∷ cs) drums drums' alike = by_test (λ ds ds' like. agree cs ds ds' like) (decided (eqb c.number d))
    where
      mine : List Drum → Called
      mine ds = call_on plan ds c

      by_test : ((ds ds' : List Drum) → Alike d ds ds' → Agree ds ds' cs (calls_for d cs))
          → T (eqb c.number d) ⊎ T (not (eqb c.number d)) → Agree drums drums' (c ∷ cs) (calls_for d (c ∷ cs))
      by_test onward (inl its) =
          let is : c.number ≡ d = eqb→eq c.number d its in
          let both = called_alike (asked_of c.asked) plan c.number c.kind drums drums'
          (subst (λ (n : ℕ). Alike n drums drums') (sym is) alike) in
          let rest = onward (mine drums).drums (mine drums').drums (subst
          (λ (n : ℕ). Alike n (mine drums).drums (mine drums').drums) is both.1) in
          let own : calls_for d (c ∷ cs) ≡ c ∷ calls_for d cs = chosen (eqb c.number d) (c ∷ calls_for d cs) (calls_for d cs) its in
          subst (Agree drums drums' (c ∷ cs)) (sym own) (record {
            stands = rest.stands;
            answers = chosen (eqb c.number d) ((mine drums).reading ∷ answers_for plan d (mine drums).drums cs)
                (answers_for plan d (mine drums).drums cs) its
                ∙ ap (λ (r : Reading). r ∷ answers_for plan d (mine drums).drums cs) both.0
                ∙ ap (λ (rs : List Reading). (mine drums').reading ∷ rs) rest.answers
                ∙ sym (chosen (eqb c.number d) ((mine drums').reading ∷ answers_for plan d (mine drums').drums (calls_for d cs))
                (answers_for plan d (mine drums').drums (calls_for d cs)) its);
          })
      by_test onward (inr its-not) =
          let touches = called_touches (asked_of c.asked) plan c.number c.kind drums in
          let apart : d ≡ c.number → ⊥ = λ e. T_not (eqb c.number d) its-not
          (subst (λ (n : ℕ). T (eqb c.number n)) (sym e) (eqb_refl c.number)) in
          let rest = onward (mine drums).drums drums' (record {
            size = touches.as_many ∙ alike.size;
            drum = touches.others d apart
                ∙ alike.drum;
          }) in
          let none : calls_for d (c ∷ cs) ≡ calls_for d cs = other (eqb c.number d) (c ∷ calls_for d cs) (calls_for d cs) its-not in
          subst (Agree drums drums' (c ∷ cs)) (sym none) (record {
            stands = rest.stands;
            answers = other (eqb c.number d) ((mine drums).reading ∷ answers_for plan d (mine drums).drums cs)
                (answers_for plan d (mine drums).drums cs) its-not ∙ rest.answers;
          })

pub isolated : (plan : List ℕ) (drums : List Drum) (cs : List Call) (d : ℕ) → Isolated plan drums cs d
isolated plan drums cs d =
    let both = agree plan d cs drums drums (record { size = refl; drum = refl }) in
    record { stands = both.stands; answers = both.answers }
