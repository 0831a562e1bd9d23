-- A sheet that passes and is put down: it can be written, and what is written is its book with its kinds' names.
use mathlib.Core.Path.{◌≡◌, refl, sym, ap, ap₂, ◌∙◌}
use mathlib.Core.List.{List, [], ◌∷◌, ◌++◌}
use Prim.Native.Nat.{ℕ, suc, ◌+◌, ◌≤◌, ◌<◌}
use native.Mathlib.Nat.{add-zero, zero-add}
use native.Mathlib.Omega.{arith}
use lib.ListN.{length, get_or, length-map}
use Rattle.std.specs.Prelude.{map}
use Rattle.std.specs.List.{flat_map}
use Rattle.std.proofs.lemmas.List.Concat.{flat_map-cons}
use Rattle.std.proofs.lemmas.List.Folds.{flat_map-map}
use Rattle.words.specs.Lists.{lists_from}
use Rattle.words.specs.Words.{Below, below_more}
use Rattle.names.specs.Names.{GoodNames}
use Rattle.book.specs.Book.{Book, WellFormed}
use Rattle.book.specs.Encode.{node_words, body_words, named_bytes}
use Rattle.book.specs.declared.Node.{Node}
use Rattle.book.specs.declared.Node.TheVariants.{Fail}
use Rattle.book.proofs.Holding.{body_small}
use Rattle.sheets.specs.Grammar.{Rule, Sheet}
use Rattle.sheets.specs.Nodes.{kind_names, sizes, rules_nodes, sheet_book}
use Rattle.sheets.proofs.Appearance.{kinds_by_first_appearance}
use Rattle.sheets.proofs.Formed.{book_well_formed}
use Rattle.sheets.proofs.Sizes.{length_rules_nodes}
use Rattle.sheets.proofs.Spelled.{text_words}
use Rattle.outline.specs.Raw.{raw_rules, rule_rows}
use Rattle.outline.specs.declared.RawNode.{RawNode}
use Rattle.outline.proofs.Sheets.{raw_rules_length, rows_length}
use Rattle.resolving.specs.Letters.{word_at}
use Rattle.resolving.specs.Writing.{last_of, resolved}
use Rattle.resolving.proofs.Nodes.{nodes_are, start_is}
use Rattle.resolving.proofs.Placed.{sheet_told}
use Rattle.making.specs.Bytes.{Down, largest, names_down, nodes_words, made_bytes, Writable}
use Rattle.making.specs.Settled.{Pass, PutDown}
use Rattle.making.proofs.Numbers.{largest_below}

-- the numbers of nodes one behind the other are those by number
nodes_gathered : (list : ℕ → List ℕ) (nodes : List Node) (n : ℕ)
    → ((i : ℕ) → i < length nodes → list (n + i) ≡ node_words (get_or nodes i Fail))
    → lists_from list (length nodes) n ≡ flat_map node_words nodes
unfolding lists_from
nodes_gathered list [] n each = refl
nodes_gathered list (node ∷ nodes) n each =
    ap₂ (λ (a b : List ℕ). a ++ b) (rw add-zero at (each 0 (omega arith)))
    (nodes_gathered list nodes (suc n)
    (λ i below. let next : n + suc i ≡ suc n + i = omega arith in rw next at (each (suc i) (omega arith))))
    ∙ sym (flat_map-cons node_words node nodes)

-- the largest of the lengths of words is no more than each may be
lengths_upto : (most : ℕ) (words : List (List ℕ)) → ((n : ℕ) → n < length words → length (get_or words n []) ≤ most)
    → largest (map length words) ≤ most
unfolding largest
lengths_upto most [] each = omega arith
lengths_upto most (w ∷ words) each =
    omega (arith, each 0 (omega arith), lengths_upto most words (λ n below. each (suc n) (omega arith)))

-- the kinds of a sheet are good names
pub kinds_good : (text : List ℕ) {first : Rule} {further : List Rule} → Sheet text first further → GoodNames (kind_names (first ∷ further))
kinds_good text {first} {further} read =
    record {
      each_good = λ n below.
          let good = (text_words 0 text read).kinds n below in
          record {
            some_byte = good.some_letter;
            few_bytes = good.few_letters;
            all-visible = λ i within. let small = good.all_small i within in (omega (arith, small.0), omega (arith, small.1));
          };
      none_twice = (kinds_by_first_appearance (first ∷ further)).none_twice;
    }

module _ {text : List ℕ} {first : Rule} {further : List Rule} {d : Down} (read : Sheet text first further) (pass : Pass (first ∷ further))
    (put : PutDown text (first ∷ further) d) where
  abbrev rules : List Rule
  rules = first ∷ further

  abbrev book : Book
  book = sheet_book first further

  well_formed : WellFormed book
  well_formed = book_well_formed first further pass.small pass.some_kind

  names_are : names_down d ≡ kind_names rules
  names_are = rw put.text_is put.kinds_are

  many_is : length d.kinds ≡ length (kind_names rules)
  many_is = sym (length-map d.kinds (word_at text)) ∙ ap length put.kinds_are

  count_is : length d.nodes ≡ sizes rules
  count_is = ap length put.nodes_are ∙ raw_rules_length 0 rules

  -- the settings and nodes that are written are the book's
  written_nodes : nodes_words d ≡ lists_from (λ n. node_words (book.node n)) (sizes rules) 0
  unfolding sheet_book
  written_nodes =
      rw (put.text_is, put.nodes_are, put.rows_are)
      (sym (flat_map-map node_words (λ (raw : RawNode). resolved text (rule_rows 0 rules) d.kinds raw.node raw.place) (raw_rules 0 rules))
      ∙ ap (flat_map node_words) (nodes_are (sheet_told text read) d.kinds put.kinds_are)
      ∙ sym (nodes_gathered (λ n. node_words (get_or (rules_nodes rules 0 rules) n Fail)) (rules_nodes rules 0 rules) 0
      (λ i below. rw zero-add))
      ∙ ap (λ (count : ℕ). lists_from (λ n. node_words (get_or (rules_nodes rules 0 rules) n Fail)) count 0) (length_rules_nodes rules 0 rules))

  body_is : (length d.kinds ∷ last_of d.rows 0 ∷ nodes_words d) ≡ body_words book
  unfolding body_words sheet_book
  body_is = rw (written_nodes, many_is, put.rows_are, start_is first further)

  sizes_are : book.count ≡ sizes rules
  unfolding sheet_book
  sizes_are = refl

  -- all that is written is the book with its kinds' names
  pub made_is : made_bytes d ≡ named_bytes book (kind_names rules)
  unfolding made_bytes named_bytes
  made_is = rw (body_is, names_are, count_is, sizes_are)

  small_body : Below 65536 (length d.kinds ∷ last_of d.rows 0 ∷ nodes_words d)
  small_body = rw body_is (body_small book well_formed)

  pub can_write : Writable d
  unfolding sheet_book
  can_write =
      record {
        few_nodes = omega (arith, count_is, well_formed.few_nodes);
        some_rule = omega (arith, ap length put.rows_are, rows_length 0 rules);
        few_kinds = omega (arith, many_is, well_formed.few_kinds);
        small = largest_below (omega arith) (behind small_body);
        short = rw names_are (lengths_upto 16 (kind_names rules) (λ n below. ((text_words 0 text read).kinds n below).few_letters));
        some_letter = rw names_are (λ n below. ((text_words 0 text read).kinds n below).some_letter);
      }
    where
      behind : {k : ℕ} {more : List ℕ} → Below 65536 (k ∷ more) → Below 65536 more
      behind (below_more one rest) = rest
