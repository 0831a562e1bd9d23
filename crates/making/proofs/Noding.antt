-- Nodes written one behind the other.
use mathlib.Core.Path.{◌≡◌, refl, sym, ap, ◌∙◌}
use mathlib.Core.List.{List, [], ◌∷◌, ◌++◌}
use Prim.Native.Nat.{ℕ, ◌+◌, ◌*◌, ◌≤◌, ◌<◌}
use native.Mathlib.Omega.{arith}
use lib.ListN.{length, get_or, take}
use lib.Seq.{sets, length-sets, length-take-le}
use Rattle.std.specs.List.{flat_map}
use Rattle.std.proofs.lemmas.List.{take_all}
use Rattle.words.specs.Words.{with_u16, word_bytes}
use Rattle.words.proofs.Bytes.{length_words, words_append}
use Rattle.words.proofs.Stored.{sets_then, sets_word}
use Rattle.making.proofs.Numbers.{length_threes, one_more}

-- three numbers stored one behind the other
pub three_stored : (l : List ℕ) {one two three : List ℕ} (at a b c : ℕ) → one ≡ with_u16 l at a → two ≡ with_u16 one (at + 2) b
    → three ≡ with_u16 two (at + 4) c → three ≡ sets l at (word_bytes (a ∷ b ∷ c ∷ []))
unfolding word_bytes
three_stored l at a b c first second third =
    third
    ∙ rw (second, first, sets_word l at a, sets_word _ (at + 2) b, sets_word _ (at + 4) c)
    (ap (λ (m : List ℕ). sets m (at + 4) (word_bytes (c ∷ []))) (sets_then l at (word_bytes (a ∷ [])) (at + 2) (word_bytes (b ∷ [])) refl)
    ∙ sets_then l at (word_bytes (a ∷ b ∷ [])) (at + 4) (word_bytes (c ∷ [])) refl)

module _ {X : Type 0} (f : X → List ℕ) (xs : List X) where
  -- the nodes before a number are written
  pub record Noding (before after : List ℕ) (from n : ℕ) : Type 0 where
    pub put : after ≡ sets before from (word_bytes (flat_map f (take n xs)))
    pub long : length after ≡ length before

  pub noding_none : (l : List ℕ) (from : ℕ) → Noding l l from 0
  unfolding word_bytes
  noding_none l from = record { put = refl; long = refl }

  module _ {before after : List ℕ} {from n : ℕ} (d : Noding before after from n) where
    pub noding_more : {next words : List ℕ} (blank : X) → ((x : X) → length (f x) ≡ 3) → n < length xs → words ≡ f (get_or xs n blank)
        → next ≡ sets after (from + 6 * n) (word_bytes words)
        → Noding before next from (n + 1)
    noding_more {next} {words} blank three below is stored =
        let size = length_words (flat_map f (take n xs)) in
        let many = length_threes f three (take n xs) in
        let few : length (take n xs) ≡ n = length-take-le n xs (omega arith) in
        record {
          put =
              stored
              ∙ ap (λ (l : List ℕ). sets l (from + 6 * n) (word_bytes words)) d.put
              ∙ sets_then before from (word_bytes (flat_map f (take n xs))) (from + 6 * n) (word_bytes words) (omega (arith, size, many, few))
              ∙ ap (sets before from)
              (sym (words_append (flat_map f (take n xs)) words)
              ∙ ap word_bytes (ap (λ (l : List ℕ). flat_map f (take n xs) ++ l) is ∙ sym (one_more f xs n blank below)));
          long = ap length stored ∙ length-sets after (from + 6 * n) (word_bytes words) ∙ d.long;
        }

    pub noding_all : length xs ≤ n → after ≡ sets before from (word_bytes (flat_map f xs))
    noding_all past = rw (take_all n xs past) at d.put
