-- What the bytes of a book of good form decode to.
use mathlib.Core.Path.{◌≡◌, refl, sym, ap, ◌∙◌}
use mathlib.Core.Bool.{true}
use mathlib.Core.List.{List}
use Prim.Native.Nat.{ℕ, ◌+◌, ◌*◌, ◌≤◌, ◌<◌}
use native.Mathlib.Omega.{arith}
use borrow.Author.Tests.{ltb-true, leb-true, lt-ltb, le-ltb}
use lib.Dec.{ltb}
use lib.ListN.{length}
use Rattle.std.specs.Prelude.{Option, Some, None}
use Rattle.words.proofs.Tests.{both, holds, never}
use Rattle.forms.specs.Forms.{contents_are}
use Rattle.names.specs.Names.{NAMES, names_good, first_bad_name}
use Rattle.book.specs.Book.{Proper, fail_is, empty_is, token_is, either_is, then_is, tagged_is, ref_is, WellFormed}
use Rattle.book.specs.Decode.{type_of, typed_node, fields_good, node_at, nodes, node_good, GoodNodes, type_at}
use Rattle.book.specs.Form.{judged, DONE, NODE, named, settings_at, nodes_at, count_of, count_claimed, names_at, kinds_of, start_of}
use Rattle.book.specs.Form.{sections_of, length_good, contents_good, settings_good, bad_node, form_of, book_of}
use Rattle.book.specs.declared.Fields.{Fields}
use Rattle.book.specs.declared.Judged.{Judged}
use Rattle.book.specs.declared.Node.{Node}
use Rattle.book.specs.declared.Node.TheVariants.{Fail}
use Rattle.book.specs.declared.NodeType.{NodeType}
use Rattle.words.proofs.FirstBad.{first_none}
use Rattle.book.proofs.Laws.{Sized, sized, settings_say, settings_between}
use Rattle.book.proofs.Laws.{form_length, form_contents, form_settings, form_node, form_names}

-- fields that the type table takes are those of a proper node
pub fields_proper : (type : Option NodeType) (f : Fields) → fields_good type f ≡ true
    → Proper f.kinds f.count f.own (typed_node type f.left f.right)
fields_proper (Some NodeType.Fail) f good = fail_is
fields_proper (Some NodeType.Empty) f good = empty_is
fields_proper (Some NodeType.Token) f good = token_is (ltb-true _ _ (both (ltb f.left f.kinds) _ good).0)
fields_proper (Some NodeType.Either) f good =
    let (l, r) = both (ltb f.left f.own) _ good in either_is (ltb-true _ _ l) (ltb-true _ _ r)
fields_proper (Some NodeType.Then) f good =
    let (l, r) = both (ltb f.left f.own) _ good in then_is (ltb-true _ _ l) (ltb-true _ _ r)
fields_proper (Some NodeType.Tagged) f good =
    let (first, most) = both _ _ good in
    let (l, least) = both (ltb f.left f.own) _ first in
    tagged_is (ltb-true _ _ l) (leb-true _ _ least, leb-true _ _ most)
fields_proper (Some NodeType.Ref) f good = ref_is (ltb-true _ _ (both (ltb f.left f.count) _ good).0)
fields_proper None f good = never good

-- the look-up below the count, and beyond it
module _ (bytes : List ℕ) (base count n : ℕ) where
  pub nodes_below : n < count → nodes bytes base count n ≡ node_at bytes base n
  unfolding nodes
  nodes_below below = rw (lt-ltb n count below)

  pub nodes_beyond : count ≤ n → nodes bytes base count n ≡ Fail
  unfolding nodes
  nodes_beyond beyond = rw (le-ltb n count beyond)

-- nodes that all pass the type table's test are good nodes
pub good_nodes : (bytes : List ℕ) (base count kinds : ℕ) → base + 6 * count ≤ length bytes → count ≤ 512 → kinds ≤ 64
    → ((n : ℕ) → n < count → node_good bytes base kinds count n ≡ true) → GoodNodes bytes base count kinds
unfolding node_at node_good
good_nodes bytes base count kinds within few_nodes few_kinds good =
    record {
      within = within;
      few_nodes = few_nodes;
      few_kinds = few_kinds;
      proper =
          λ n below.
          rw nodes_below
          (fields_proper (type_of (type_at bytes base n)) _ (good n below));
    }

not_below : {m n : ℕ} → (m < n → ⊥) → n ≤ m
not_below {m} {n} never = omega (arith, never)

-- what the tests of a book of good form have shown
pub record Formed (bytes : List ℕ) : Type 0 where
  pub long : length_good bytes ≡ true
  pub size : Sized bytes
  pub contents : contents_are bytes (sections_of bytes) ≡ true
  pub some_kind : 0 < kinds_of bytes
  pub few_kinds : kinds_of bytes ≤ 64
  pub start_below : start_of bytes < count_of bytes
  pub nodes_good : count_of bytes ≤ bad_node bytes
  pub good : GoodNodes bytes (nodes_at bytes) (count_of bytes) (kinds_of bytes)
  pub names_good_lem : named bytes ≡ true → names_good bytes (names_at bytes) (kinds_of bytes) ≡ true

pub formed : (bytes : List ℕ) → (form_of bytes).number ≡ DONE → Formed bytes
formed bytes done =
    let long : length_good bytes ≡ true = holds _ (λ bad. refused (form_length bytes bad) (omega arith)) in
    let contents : contents_good bytes ≡ true = holds _ (λ bad. refused (form_contents bytes long bad) (omega arith)) in
    let settings : settings_good bytes (settings_at bytes) (count_of bytes) ≡ true =
    holds _ (λ bad. refused (form_settings bytes long contents bad) (omega arith)) in
    let nodes_good : count_of bytes ≤ bad_node bytes =
    not_below (λ bad. refused {number = NODE} {place = bad_node bytes} (form_node bytes long contents settings bad) (omega arith)) in
    let (size, are) = sized bytes contents in
    let (some_kind, few_kinds, start_below) = settings_say bytes _ _ settings in
    record {
      long = long;
      size = size;
      contents = are;
      some_kind = some_kind;
      few_kinds = few_kinds;
      start_below = start_below;
      nodes_good = nodes_good;
      good = good_nodes bytes (nodes_at bytes) _ _ size.within size.few_nodes few_kinds (first_none _ _ nodes_good);
      names_good_lem =
          λ names.
          holds _
          (λ bad.
          refused {number = NAMES} {place = first_bad_name bytes (names_at bytes) (kinds_of bytes)}
          (form_names bytes long contents settings nodes_good ∙ rw (names, bad)) (omega arith));
    }
  where
    refused : {number place : ℕ} → form_of bytes ≡ judged number place → (number ≡ DONE → ⊥) → ⊥
    refused answer other = other (sym (ap (λ (j : Judged). j.number) answer) ∙ done)

-- how far the parts of a book of good form reach, and what its settings are
pub good_form : (bytes : List ℕ) → (form_of bytes).number ≡ DONE
    → (24 ≤ length bytes) × (settings_at bytes ≤ 20) × (nodes_at bytes + 6 * count_of bytes ≤ length bytes) × (count_of bytes ≤ 512)
    × (kinds_of bytes ≤ 64) × (start_of bytes < count_of bytes)
good_form bytes done =
    let f = formed bytes done in
    let between = settings_between bytes in
    (omega (arith, f.size, between), between.1, f.size.within, f.size.few_nodes, f.few_kinds, f.start_below)

pub done_long : (bytes : List ℕ) → form_of bytes ≡ judged DONE 0 → 24 ≤ length bytes
done_long bytes is = (good_form bytes (ap (λ (j : Judged). j.number) is)).0

-- nodes that are proper for fewer kinds are proper for more
pub proper_wider : {kinds more count own : ℕ} {x : Node} → kinds ≤ more → Proper kinds count own x → Proper more count own x
proper_wider le fail_is = fail_is
proper_wider le empty_is = empty_is
proper_wider le (token_is {k} below) = token_is {k = k} (omega arith)
proper_wider le (either_is a b) = either_is a b
proper_wider le (then_is a b) = then_is a b
proper_wider le (tagged_is a b) = tagged_is a b
proper_wider le (ref_is a) = ref_is a

-- the nodes of a book of good form are good for 64 kinds
pub formed_nodes : (bytes : List ℕ) → (form_of bytes).number ≡ DONE → GoodNodes bytes (nodes_at bytes) (count_of bytes) 64
formed_nodes bytes done =
    let f = formed bytes done in
    record {
      within = f.good.within;
      few_nodes = f.good.few_nodes;
      few_kinds = omega arith;
      proper = λ n below. proper_wider f.few_kinds (f.good.proper n below);
    }

-- a book of good form is well-formed
pub well_formed : {bytes : List ℕ} → Formed bytes → WellFormed (book_of bytes)
unfolding book_of
well_formed {bytes} f =
    record {
      some_node = f.size.some_node;
      few_nodes = f.size.few_nodes;
      some_kind = f.some_kind;
      few_kinds = f.few_kinds;
      start_below = f.start_below;
      proper = f.good.proper;
      beyond = λ n beyond. nodes_beyond bytes (nodes_at bytes) _ n beyond;
    }

-- a book of good form reaches past its settings and one node, and its nodes are all there
pub nodes_begin : {bytes : List ℕ} → Formed bytes → (24 ≤ length bytes) × (nodes_at bytes ≤ length bytes)
nodes_begin {bytes} f = omega (arith, f.size, settings_between bytes)

-- it has as many nodes as its bytes claim
pub claimed_is : {bytes : List ℕ} → Formed bytes → count_claimed bytes ≡ (book_of bytes).count
unfolding book_of
claimed_is {bytes} f = rw (le-ltb (length bytes) 24 (nodes_begin f).0) refl

pub node_within : {bytes : List ℕ} {n : ℕ} → Formed bytes → n < (book_of bytes).count → nodes_at bytes + 6 * n + 6 ≤ length bytes
unfolding book_of
node_within f below = omega (arith, f.size, below)

pub nodes_end : {bytes : List ℕ} → Formed bytes → nodes_at bytes + 6 * (book_of bytes).count ≤ length bytes
unfolding book_of
nodes_end f = f.size.within

-- a node of a book, by its bytes
pub book_node : (bytes : List ℕ) (n : ℕ) → n < (book_of bytes).count → (book_of bytes).node n ≡ node_at bytes (nodes_at bytes) n
unfolding book_of
book_node bytes n below = nodes_below bytes (nodes_at bytes) _ n below
