-- The kinds of a sheet are numbered by first appearance: one induction on the words read, with those read before.
use Prim.Native.Nat.{ℕ, ◌+◌, ◌<◌}
use native.Mathlib.Decide.{dec_lt}
use native.Mathlib.Omega.{arith}
use mathlib.Core.Path.{◌≡◌, refl, sym, ap, ◌∙◌}
use mathlib.Core.Logic.{◌≢◌, ◌⊎◌, inl, inr}
use mathlib.Core.Bool.{Bool, true, false}
use mathlib.Core.List.{List, [], ◌∷◌, ◌++◌, append_assoc, append-nil}
use lib.ListN.{length, get_or, length-append, get_or-append}
use lib.Seq.{get_or_at}
use Rattle.words.proofs.Tests.{never, or_cases, fails}
use Rattle.sheets.specs.Grammar.{Rule}
use Rattle.sheets.specs.Nodes.{among, number_of, rule_names, all_words, kinds_after, kind_names}
use Rattle.sheets.specs.Kinds.{ByFirstAppearance}
use Rattle.sheets.proofs.Words.{among-append, among-left, among_right, among_one, one_is}
use Rattle.sheets.proofs.Words.{number_below, number_left, number_right}

-- the word with a number, among words with one more: an earlier one, or the newest
data Turn (xs : List (List ℕ)) (w : List ℕ) (k : ℕ) : Type 0 where
  earlier : k < length xs → get_or (xs ++ (w ∷ [])) k [] ≡ get_or xs k [] → Turn xs w k
  newest : k ≡ length xs → get_or (xs ++ (w ∷ [])) k [] ≡ w → Turn xs w k

earlier_or_newest : (xs : List (List ℕ)) (w : List ℕ) (k : ℕ) → k < length (xs ++ (w ∷ [])) → Turn xs w k
earlier_or_newest xs w k h = go (dec_lt k (length xs))
  where
    go : Dec (k < length xs) → Turn xs w k
    go (yes below) = earlier below (get_or-append xs (w ∷ []) [] k below)
    go (no above) =
        let last : k ≡ length xs = omega (arith, length-append xs (w ∷ [])) in
        newest last (get_or_at xs w [] [] k (sym last))

-- words with different numbers are different
apart : (words : List (List ℕ)) (a b : List ℕ) → number_of a words < number_of b words → a ≢ b
apart words a b h e = let q = ap (λ (x : List ℕ). number_of x words) e in omega arith

module _ {names before seen : List (List ℕ)} (so_far : ByFirstAppearance names before seen) (w : List ℕ) where
  -- the number of a kind stays with one more word read
  kept : (k : ℕ) → k < length seen → number_of (get_or seen k []) (before ++ (w ∷ [])) ≡ number_of (get_or seen k []) before
  kept k h = number_left (get_or seen k []) before (w ∷ []) (so_far.appears k h)

  in_order_still : (i j : ℕ) → i < j → j < length seen
      → number_of (get_or seen i []) (before ++ (w ∷ [])) < number_of (get_or seen j []) (before ++ (w ∷ []))
  in_order_still i j h g = let q = so_far.in_order i j h g in omega (arith, kept i (omega arith), kept j g)

  -- a word that names a rule or is a kind already
  word_passed : (among w names ≡ true) ⊎ (among w seen ≡ true) → ByFirstAppearance names (before ++ (w ∷ [])) seen
  word_passed known =
      record {
        no_rule = so_far.no_rule;
        appears = λ k h. among-left (get_or seen k []) before (w ∷ []) (so_far.appears k h);
        none_left-out = λ v e f. left v f (or_cases (among v before) (among v (w ∷ [])) (sym (among-append v before (w ∷ [])) ∙ e));
        none_twice = so_far.none_twice;
        in_order = in_order_still;
      }
    where
      last : among w names ≡ false → (among w names ≡ true) ⊎ (among w seen ≡ true) → among w seen ≡ true
      last f (inl p) = never (sym f ∙ p)
      last f (inr p) = p

      left : (v : List ℕ) → among v names ≡ false → (among v before ≡ true) ⊎ (among v (w ∷ []) ≡ true) → among v seen ≡ true
      left v f (inl p) = so_far.none_left-out v p f
      left v f (inr p) =
          let e = one_is v w p in
          rw e (last (sym (ap (λ (x : List ℕ). among x names) e) ∙ f) known)

  -- a new kind
  module _ (free : among w names ≡ false) (new : among w seen ≡ false) where
    unread : among w before ≡ false
    unread = fails (among w before) (λ e. never (sym new ∙ so_far.none_left-out w e free))

    new_number : number_of w (before ++ (w ∷ [])) ≡ length before + number_of w (w ∷ [])
    new_number = number_right w before (w ∷ []) unread

    new_in_order : (i j : ℕ) → i < j → j < length (seen ++ (w ∷ []))
        → number_of (get_or (seen ++ (w ∷ [])) i []) (before ++ (w ∷ [])) < number_of (get_or (seen ++ (w ∷ [])) j []) (before ++ (w ∷ []))
    new_in_order i j h g = go (earlier_or_newest seen w j g)
      where
        i_below : i < length seen
        i_below = omega (arith, length-append seen (w ∷ []))

        i_is : get_or (seen ++ (w ∷ [])) i [] ≡ get_or seen i []
        i_is = get_or-append seen (w ∷ []) [] i i_below

        go : Turn seen w j
            → number_of (get_or (seen ++ (w ∷ [])) i []) (before ++ (w ∷ [])) < number_of (get_or (seen ++ (w ∷ [])) j []) (before ++ (w ∷ []))
        go (earlier below is) = rw (i_is, is) (in_order_still i j h below)
        go (newest last is) =
            rw (i_is, is)
            (omega (arith, kept i i_below, number_below (get_or seen i []) before (so_far.appears i i_below), new_number))

    word_added : ByFirstAppearance names (before ++ (w ∷ [])) (seen ++ (w ∷ []))
    word_added =
        record {
          no_rule = λ k h. unnamed k (earlier_or_newest seen w k h);
          appears = λ k h. read k (earlier_or_newest seen w k h);
          none_left-out = λ v e f. left v f (or_cases (among v before) (among v (w ∷ [])) (sym (among-append v before (w ∷ [])) ∙ e));
          none_twice = λ i j h g. apart (before ++ (w ∷ [])) _ _ (new_in_order i j h g);
          in_order = new_in_order;
        }
      where
        unnamed : (k : ℕ) → Turn seen w k → among (get_or (seen ++ (w ∷ [])) k []) names ≡ false
        unnamed k (earlier below is) = rw is (so_far.no_rule k below)
        unnamed k (newest last is) = rw is free

        read : (k : ℕ) → Turn seen w k → among (get_or (seen ++ (w ∷ [])) k []) (before ++ (w ∷ [])) ≡ true
        read k (earlier below is) = rw is (among-left (get_or seen k []) before (w ∷ []) (so_far.appears k below))
        read k (newest last is) = rw is (among_right w before (w ∷ []) (among_one w))

        left : (v : List ℕ) → among v names ≡ false → (among v before ≡ true) ⊎ (among v (w ∷ []) ≡ true)
            → among v (seen ++ (w ∷ [])) ≡ true
        left v f (inl p) = among-left v seen (w ∷ []) (so_far.none_left-out v p f)
        left v f (inr p) = among_right v seen (w ∷ []) p

-- nothing read, no kind
none_read : (names : List (List ℕ)) → ByFirstAppearance names [] []
unfolding among
none_read names =
    record {
      no_rule = λ k h. absurd (omega arith);
      appears = λ k h. absurd (omega arith);
      none_left-out = λ w e f. never e;
      none_twice = λ i j h g. absurd (omega arith);
      in_order = λ i j h g. absurd (omega arith);
    }

kinds_after_lem : (names before seen more : List (List ℕ)) → ByFirstAppearance names before seen
    → ByFirstAppearance names (before ++ more) (kinds_after names seen more)
unfolding kinds_after
kinds_after_lem names before seen [] so_far = rw (append-nil before) so_far
kinds_after_lem names before seen (w ∷ more) so_far =
    rw (sym (append_assoc before (w ∷ []) more))
    (go (among w names) (among w seen) refl refl
    (λ passed. kinds_after_lem names (before ++ (w ∷ [])) seen more passed)
    (λ added. kinds_after_lem names (before ++ (w ∷ [])) (seen ++ (w ∷ [])) more added))
  where
    go : (a b : Bool) → among w names ≡ a → among w seen ≡ b
        → (ByFirstAppearance names (before ++ (w ∷ [])) seen
        → ByFirstAppearance names (before ++ (w ∷ []) ++ more) (kinds_after names seen more))
        → (ByFirstAppearance names (before ++ (w ∷ [])) (seen ++ (w ∷ []))
        → ByFirstAppearance names (before ++ (w ∷ []) ++ more) (kinds_after names (seen ++ (w ∷ [])) more))
        → ByFirstAppearance names (before ++ (w ∷ []) ++ more) (kinds_after names seen (w ∷ more))
    go true b e f passed added = simp (e, f) (passed (word_passed so_far w (inl e)))
    go false true e f passed added = simp (e, f) (passed (word_passed so_far w (inr f)))
    go false false e f passed added = simp (e, f) (added (word_added so_far w e f))

pub kinds_by_first_appearance : (rules : List Rule) → ByFirstAppearance (rule_names rules) (all_words rules) (kind_names rules)
kinds_by_first_appearance rules = kinds_after_lem (rule_names rules) [] [] (all_words rules) (none_read (rule_names rules))
