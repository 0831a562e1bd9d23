-- Words looked up among others, and the kinds by first appearance, one node after the other.
use mathlib.Core.Path.{◌≡◌, refl, sym, ap, ◌∙◌}
use mathlib.Core.Bool.{Bool, true, false, cond, ◌||◌}
use mathlib.Core.List.{List, [], ◌∷◌, ◌++◌, append_assoc, append-nil}
use Prim.Native.Nat.{ℕ, suc, ◌+◌, ◌≤◌, ◌<◌}
use native.Mathlib.Numerals.{add-one}
use native.Mathlib.Omega.{arith}
use lib.ListN.{length, get_or, set, take, drop, take-append-drop, length-append, length-set, length-take, length-map}
use Rattle.std.specs.Prelude.{map, is_some, Option, Some, None, MatchOption}
use Rattle.std.proofs.lemmas.List.{map-append, take_more, take_more_set, take_all}
use Rattle.std.specs.Option.{unwrap_or}
use Rattle.std.specs.List.{AllWithin, HoldsAt}
use Rattle.std.proofs.lemmas.Iterator.{index_from_first}
use Rattle.words.proofs.Tests.{or_right, never}
use Rattle.book.specs.declared.Node.{Node}
use Rattle.book.specs.declared.Node.TheVariants.{Fail, Empty, Token, Either, Then, Tagged, Ref}
use Rattle.sheets.specs.Text.{same}
use Rattle.sheets.specs.Nodes.{among, number_of, kinds_after}
use Rattle.sheets.proofs.Words.{number_below}
use Rattle.outline.specs.declared.RawNode.{RawNode}
use Rattle.outline.specs.declared.Row.{Row}
use Rattle.resolving.specs.Letters.{word_at}
use Rattle.resolving.specs.Words.{kinds_at, names_at, word_of_node, words_of_nodes, Found, Collected, TooMany}

-- a word with a number below their count is among words, one with a number that is not is none of them
module _ (w : List ℕ) where
  pub number_known : (words : List (List ℕ)) → number_of w words < length words → among w words ≡ true
  unfolding number_of among
  number_known [] below = absurd (omega arith)
  number_known (other ∷ words) below = go (same w other) refl (λ b. number_known words b)
    where
      go : (t : Bool) → same w other ≡ t → (number_of w words < length words → among w words ≡ true)
          → (same w other || among w words) ≡ true
      go true is rest = rw is
      go false is rest = rw is (rest (let less : suc (number_of w words) < suc (length words) = rw is at below in omega arith))

  pub number_unknown : (words : List (List ℕ)) → length words ≤ number_of w words → among w words ≡ false
  number_unknown words past = go (among w words) refl
    where
      go : (t : Bool) → among w words ≡ t → among w words ≡ false
      go true is = absurd (omega (arith, number_below w words is))
      go false is = is

  -- the number of a word that is none of them is their count
  pub number_all : (words : List (List ℕ)) → among w words ≡ false → number_of w words ≡ length words
  unfolding number_of among
  number_all [] none = refl
  number_all (other ∷ words) none = go (same w other) refl (λ n. number_all words n)
    where
      go : (t : Bool) → same w other ≡ t → (among w words ≡ false → number_of w words ≡ length words)
          → number_of w (other ∷ words) ≡ suc (length words)
      go true is rest = let known : true ≡ false = rw is at none in never (sym known)
      go false is rest = rw is (ap suc (rest (rw is at none)))

  -- a search by place for the first item whose word it is
  module _ {X : Type 0} (f : X → List ℕ) where
    pub found_by : (xs : List X) (r : Option ℕ)
        → MatchOption r (AllWithin (λ x. same w (f x) ≡ false) xs 0 (length xs))
        (λ i. (i < length xs) × HoldsAt (λ x. same w (f x) ≡ true) xs i × AllWithin (λ x. same w (f x) ≡ false) xs 0 i)
        → Found w (map f xs) r
    unfolding number_of
    found_by xs r gives = go r gives number_is
      where
        number_is : number_of w (map f xs) ≡ unwrap_or r (length xs)
        number_is =
            index_from_first (λ xs. number_of w (map f xs)) (λ x. same w (f x) ≡ true) (λ x. same w (f x) ≡ false) refl
            (λ x xs is. rw is) (λ x xs is. rw (is, add-one)) xs r gives

        go : (r : Option ℕ)
            → MatchOption r (AllWithin (λ x. same w (f x) ≡ false) xs 0 (length xs))
            (λ i. (i < length xs) × HoldsAt (λ x. same w (f x) ≡ true) xs i × AllWithin (λ x. same w (f x) ≡ false) xs 0 i)
            → number_of w (map f xs) ≡ unwrap_or r (length xs) → Found w (map f xs) r
        go None gives is = number_unknown (map f xs) (omega (arith, is, length-map xs f))
        go (Some i) gives is =
            let below : i < length (map f xs) = omega (arith, gives.0, length-map xs f) in
            (number_known (map f xs) (omega (arith, is)), sym is, below)

-- what a search has found, or has not
pub found_known : (w : List ℕ) (words : List (List ℕ)) (r : Option ℕ) → Found w words r → is_some r ≡ true → among w words ≡ true
found_known w words None found some = never some
found_known w words (Some n) found some = found.0

pub found_unknown : (w : List ℕ) (words : List (List ℕ)) (r : Option ℕ) → Found w words r → is_some r ≡ false → among w words ≡ false
found_unknown w words None found none = found
found_unknown w words (Some n) found none = never (sym none)

pub found_or : (w : List ℕ) (words : List (List ℕ)) (r : Option ℕ) {count : ℕ} → Found w words r → length words ≡ count
    → unwrap_or r count ≡ number_of w words
found_or w words None found is = sym (number_all w words found ∙ is)
found_or w words (Some n) found is = found.1

-- the kinds of some words and then of others
pub kinds_append : (names seen xs ys : List (List ℕ)) → kinds_after names seen (xs ++ ys) ≡ kinds_after names (kinds_after names seen xs) ys
unfolding kinds_after
kinds_append names seen [] ys = refl
kinds_append names seen (w ∷ xs) ys =
    go (among w names || among w seen) refl (kinds_append names seen xs ys) (kinds_append names (seen ++ (w ∷ [])) xs ys)
  where
    go : (t : Bool) → (among w names || among w seen) ≡ t
        → kinds_after names seen (xs ++ ys) ≡ kinds_after names (kinds_after names seen xs) ys
        → kinds_after names (seen ++ (w ∷ [])) (xs ++ ys) ≡ kinds_after names (kinds_after names (seen ++ (w ∷ [])) xs) ys
        → cond (among w names || among w seen) (kinds_after names seen (xs ++ ys)) (kinds_after names (seen ++ (w ∷ [])) (xs ++ ys))
        ≡ kinds_after names (cond (among w names || among w seen) (kinds_after names seen xs) (kinds_after names (seen ++ (w ∷ [])) xs)) ys
    go true is old new = rw is old
    go false is old new = rw is new

-- kinds only become more
pub kinds_grow : (names seen words : List (List ℕ)) → length seen ≤ length (kinds_after names seen words)
unfolding kinds_after
kinds_grow names seen [] = omega arith
kinds_grow names seen (w ∷ words) =
    go (among w names || among w seen) refl (kinds_grow names seen words) (kinds_grow names (seen ++ (w ∷ [])) words)
  where
    go : (t : Bool) → (among w names || among w seen) ≡ t → length seen ≤ length (kinds_after names seen words)
        → length (seen ++ (w ∷ [])) ≤ length (kinds_after names (seen ++ (w ∷ [])) words)
        → length seen ≤ length
        (cond (among w names || among w seen) (kinds_after names seen words) (kinds_after names (seen ++ (w ∷ [])) words))
    go true is old new = rw is old
    go false is old new = rw is (omega (arith, new, length-append seen (w ∷ [])))

-- a node's word is a kind that is put down, or none is
module _ (text : List ℕ) (rows : List Row) (kinds : List ℕ) (many : ℕ) where
  abbrev names : List (List ℕ)
  names = names_at text rows

  abbrev seen : List (List ℕ)
  seen = kinds_at text (take many kinds)

  kept : {wanted : List (List ℕ)} → wanted ≡ seen → many ≤ 64 → Collected text wanted kinds kinds many
  kept is fits = record { long = refl; few = fits; are = sym is }

  -- the node is no word
  pub no_word : (node : Node) (place : ℕ) → ((k : ℕ) → node ≡ Token k → ⊥) → many ≤ 64
      → Collected text (kinds_after names seen (word_of_node text node place)) kinds kinds many
  unfolding word_of_node kinds_after
  no_word Fail place other fits = kept refl fits
  no_word Empty place other fits = kept refl fits
  no_word (Token k) place other fits = absurd (other k refl)
  no_word (Either l r) place other fits = kept refl fits
  no_word (Then l r) place other fits = kept refl fits
  no_word (Tagged l t) place other fits = kept refl fits
  no_word (Ref l) place other fits = kept refl fits

  module _ (k place : ℕ) (fits : many ≤ 64) where
    abbrev w : List ℕ
    w = word_at text place

    -- the word names a rule, or is a kind that is put down already
    pub names_rule : among w names ≡ true → Collected text (kinds_after names seen (word_of_node text (Token k) place)) kinds kinds many
    unfolding word_of_node kinds_after
    names_rule is = kept (rw is) fits

    pub seen_kind : among w seen ≡ true → Collected text (kinds_after names seen (word_of_node text (Token k) place)) kinds kinds many
    unfolding word_of_node kinds_after
    seen_kind is = kept (rw (or_right (among w names) (among w seen) is)) fits

    module _ (no_rule : among w names ≡ false) (new : among w seen ≡ false) (long : 64 ≤ length kinds) where
      -- the word is a new kind
      one_more : kinds_after names seen (word_of_node text (Token k) place) ≡ seen ++ (w ∷ [])
      unfolding word_of_node kinds_after
      one_more = rw (no_rule, new)

      -- there is no room for it, or it is put down
      pub no_room : many ≡ 64 → TooMany (kinds_after names seen (word_of_node text (Token k) place))
      no_room full =
          rw one_more (omega (
            arith,
            length-append seen (w ∷ []),
            length-map (take many kinds) (word_at text),
            length-take many kinds,
          ))

      pub put_down : (many ≡ 64 → ⊥)
          → Collected text (kinds_after names seen (word_of_node text (Token k) place)) kinds (set kinds many place) (many + 1)
      put_down room =
          record {
            long = length-set kinds many place;
            few = omega arith;
            are = rw (one_more, take_more_set kinds many place (omega arith)) (map-append (word_at text) (take many kinds) (place ∷ []));
          }

-- the words of some nodes and of others
pub words_append : (text : List ℕ) (xs ys : List RawNode) → words_of_nodes text (xs ++ ys) ≡ words_of_nodes text xs ++ words_of_nodes text ys
unfolding words_of_nodes
words_append text [] ys = refl
words_append text (x ∷ xs) ys =
    rw (words_append text xs ys)
    (sym (append_assoc (word_of_node text x.node x.place) (words_of_nodes text xs) (words_of_nodes text ys)))

-- the kinds of the nodes before a number are put down
module _ (text : List ℕ) (nodes : List RawNode) (rows : List Row) where
  abbrev kinds_of : List RawNode → List (List ℕ)
  kinds_of some = kinds_after (names_at text rows) [] (words_of_nodes text some)

  pub record Collecting (before kinds : List ℕ) (many n : ℕ) : Type 0 where
    pub few : many ≤ 64
    pub long : length kinds ≡ length before
    pub are : kinds_at text (take many kinds) ≡ kinds_of (take n nodes)

  pub collecting_none : (kinds : List ℕ) → Collecting kinds kinds 0 0
  unfolding kinds_after words_of_nodes
  collecting_none kinds = record { few = omega arith; long = refl; are = refl }

  module _ {before kinds : List ℕ} {many n : ℕ} (c : Collecting before kinds many n) (d : RawNode) (below : n < length nodes) where
    abbrev raw : RawNode
    raw = get_or nodes n d

    abbrev next_kinds : List (List ℕ)
    next_kinds = kinds_after (names_at text rows) (kinds_at text (take many kinds)) (word_of_node text raw.node raw.place)

    next_are : next_kinds ≡ kinds_of (take (n + 1) nodes)
    unfolding words_of_nodes
    next_are =
        rw (c.are, take_more nodes n d below, words_append text (take n nodes) (raw ∷ []), append-nil (word_of_node text raw.node raw.place))
        (sym (kinds_append (names_at text rows) [] (words_of_nodes text (take n nodes)) (word_of_node text raw.node raw.place)))

    pub collecting_more : {after : List ℕ} {more : ℕ} → Collected text next_kinds kinds after more → Collecting before after more (n + 1)
    collecting_more found = record { few = found.few; long = found.long ∙ c.long; are = found.are ∙ next_are }

    pub collecting_stops : TooMany next_kinds → TooMany (kinds_of nodes)
    collecting_stops over =
        rw (
          ← take-append-drop (n + 1) nodes,
          words_append text (take (n + 1) nodes) (drop (n + 1) nodes),
          kinds_append (names_at text rows) [] (words_of_nodes text (take (n + 1) nodes)) (words_of_nodes text (drop (n + 1) nodes)),
        )
        (omega (
          arith,
          over,
          ap length next_are,
          kinds_grow (names_at text rows) (kinds_of (take (n + 1) nodes)) (words_of_nodes text (drop (n + 1) nodes)),
        ))

  pub collected_all : {before kinds : List ℕ} {many n : ℕ} → Collecting before kinds many n → length nodes ≤ n
      → Collected text (kinds_of nodes) before kinds many
  collected_all {n = n} c past = record { long = c.long; few = c.few; are = rw (take_all n nodes past) at c.are }
