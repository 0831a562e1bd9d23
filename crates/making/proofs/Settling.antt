-- A sheet is settled step by step: it is read, its names are new, its nodes are few, its kinds are few and some.
use mathlib.Core.Path.{◌≡◌, refl, sym, ap, ◌∙◌}
use mathlib.Core.Bool.{Bool, true, false}
use mathlib.Core.List.{List, [], ◌∷◌}
use Prim.Native.Nat.{ℕ, ◌+◌, ◌≤◌, ◌<◌}
use native.Mathlib.Omega.{arith}
use borrow.Author.Tests.{ltb-true, ltb-false, lt-ltb, le-ltb}
use lib.Dec.{ltb}
use lib.ListN.{length, take, drop, length-take, length-map}
use lib.Seq.{sets, take-append_seam}
use Rattle.std.proofs.lemmas.List.Edits.{sets-eq}
use Rattle.words.proofs.Tests.{or_right}
use Rattle.sheets.specs.Grammar.{Rule, Sheet}
use Rattle.sheets.specs.Nodes.{kind_names, kinds_after, sizes}
use Rattle.sheets.specs.Made.{too_big}
use Rattle.syntax.proofs.ReadSheets.{read_is_a_sheet}
use Rattle.outline.specs.Raw.{raw_rules, rule_rows, cut}
use Rattle.outline.specs.Outlined.{OutlinedAs}
use Rattle.outline.specs.declared.Outline.{Outline}
use Rattle.outline.specs.declared.RawNode.{RawNode}
use Rattle.outline.specs.declared.Row.{Row}
use Rattle.outline.proofs.Sheets.{few_rules, raw_rules_length, rows_length}
use Rattle.resolving.specs.Letters.{word_at}
use Rattle.resolving.specs.Lines.{AgainAt, NoneAgain}
use Rattle.resolving.specs.Words.{kinds_at, names_at, words_of_nodes, Collected, TooMany}
use Rattle.resolving.proofs.Again.{comes_again, never_again}
use Rattle.resolving.proofs.Placed.{sheet_told}
use Rattle.resolving.proofs.Nodes.{names_are, words_are}
use Rattle.making.specs.Bytes.{down, Writable}
use Rattle.making.specs.Settled.{twice, big, kindless, SettledAs, RefusedAs, refused}
use Rattle.making.specs.declared.Refusal.TheVariants.{NamedTwice, TooBig, Kindless}
use Rattle.making.proofs.Passing.{can_write}

-- a count that is cut at 512
cut_few : (n : ℕ) → cut n ≤ 512 → (n ≤ 512) × (cut n ≡ n)
unfolding cut
cut_few n few = go (ltb 512 n) refl
  where
    go : (t : Bool) → ltb 512 n ≡ t → (n ≤ 512) × (cut n ≡ n)
    go true is = let many : 513 ≤ 512 = rw is at few in absurd (omega arith)
    go false is = (ltb-false 512 n is, rw is)

cut_many : (n : ℕ) → 512 < cut n → 512 < n
unfolding cut
cut_many n many = go (ltb 512 n) refl
  where
    go : (t : Bool) → ltb 512 n ≡ t → 512 < n
    go true is = ltb-true 512 n is
    go false is = rw is at many

cut-whole : (n : ℕ) → n ≤ 512 → cut n ≡ n
unfolding cut
cut-whole n few = rw (le-ltb 512 n few)

-- what is stored from the front stands there
take_sets : {A : Type 0} (l xs : List A) → length xs ≤ length l → take (length xs) (sets l 0 xs) ≡ xs
take_sets l xs fits = rw (sets-eq xs l 0 (omega arith)) (take-append_seam xs (drop (0 + length xs) l))

-- a sheet that is read
pub record Good (text : List ℕ) (nodes : List RawNode) (rows : List Row) (read : Outline) (nodes' : List RawNode) (rows' : List Row)
    : Type 0 where
  pub first : Rule
  pub further : List Rule
  pub is_sheet : Sheet text first further
  pub nodes_cut : read.nodes ≡ cut (sizes (first ∷ further))
  pub rules_cut : read.rules ≡ cut (length (first ∷ further))
  pub nodes_put : sizes (first ∷ further) ≤ 512 → 512 ≤ length nodes → nodes' ≡ sets nodes 0 (raw_rules 0 (first ∷ further))
  pub rows_put : sizes (first ∷ further) ≤ 512 → 512 ≤ length rows → rows' ≡ sets rows 0 (rule_rows 0 (first ∷ further))

pub read_good : {text : List ℕ} {nodes : List RawNode} {rows : List Row} {nodes' : List RawNode} {rows' : List Row} {read : Outline}
    → OutlinedAs text nodes rows read nodes' rows' → Good text nodes rows read nodes' rows'
read_good {text} o =
    let found = read_is_a_sheet text o.read in
    record {
      first = found.first;
      further = found.further;
      is_sheet = found.is_sheet;
      nodes_cut = rw found.are at o.nodes_counted;
      rules_cut = rw found.are at o.rules_counted;
      nodes_put = rw found.are at o.nodes_put;
      rows_put = rw found.are at o.rows_put;
    }

module _ {text : List ℕ} {nodes : List RawNode} {rows : List Row} {read : Outline} {nodes' : List RawNode} {rows' : List Row}
    (g : Good text nodes rows read nodes' rows') where
  abbrev rules : List Rule
  rules = g.first ∷ g.further

  -- a name comes again
  pub name_again : {at : ℕ} → AgainAt text at → RefusedAs text (NamedTwice at)
  name_again found =
      let (repeated, place) = comes_again g.is_sheet found in
      refused g.is_sheet (rw (← place) (twice repeated))

  module _ (once : NoneAgain text) where
    -- there are too many nodes
    pub many_nodes : 512 < read.nodes → RefusedAs text TooBig
    unfolding too_big
    many_nodes many =
        refused g.is_sheet
        (big (never_again g.is_sheet once) (rw (lt-ltb 512 (sizes rules) (cut_many (sizes rules) (rw g.nodes_cut at many)))))

    -- there are few: as many nodes and rules are put down as there are
    module _ (few : read.nodes ≤ 512) (room : 512 ≤ length nodes) (rows-room : 512 ≤ length rows) where
      few_are : (sizes rules ≤ 512) × (read.nodes ≡ sizes rules)
      few_are = let t = cut_few (sizes rules) (rw g.nodes_cut at few) in (t.0, g.nodes_cut ∙ t.1)

      rules_are : read.rules ≡ length rules
      rules_are = g.rules_cut ∙ cut-whole (length rules) (omega (arith, few_are.0, few_rules rules))

      nodes_are : take read.nodes nodes' ≡ raw_rules 0 rules
      nodes_are =
          let size : read.nodes ≡ length (raw_rules 0 rules) = few_are.1 ∙ sym (raw_rules_length 0 rules) in
          rw (g.nodes_put few_are.0 room, size) (take_sets nodes (raw_rules 0 rules) (omega (arith, raw_rules_length 0 rules, few_are.0)))

      rows_are : take read.rules rows' ≡ rule_rows 0 rules
      rows_are =
          let size : read.rules ≡ length (rule_rows 0 rules) = rules_are ∙ sym (rows_length 0 rules) in
          rw (g.rows_put few_are.0 rows-room, size)
          (take_sets rows (rule_rows 0 rules) (omega (arith, rows_length 0 rules, few_are.0, few_rules rules)))

      pub rows_fit : read.rules ≡ length (take read.rules rows')
      rows_fit = rules_are ∙ sym (ap length rows_are ∙ rows_length 0 rules)

      -- the kinds that are put down are the sheet's
      abbrev wanted : List (List ℕ)
      wanted = kinds_after (names_at text (take read.rules rows')) [] (words_of_nodes text (take read.nodes nodes'))

      wanted_are : wanted ≡ kind_names rules
      wanted_are =
          let told = sheet_told text g.is_sheet in
          rw (nodes_are, rows_are, names_are told, words_are text 0 told)

      -- there are too many kinds
      pub many_kinds : TooMany wanted → RefusedAs text TooBig
      unfolding too_big
      many_kinds over =
          refused g.is_sheet
          (big (never_again g.is_sheet once)
          (or_right (ltb 512 (sizes rules)) _ (lt-ltb 64 (length (kind_names rules)) (rw wanted_are at over))))

      -- there are few
      module _ {kinds kinds' : List ℕ} {many : ℕ} (kinds-room : 64 ≤ length kinds) (put : Collected text wanted kinds kinds' many) where
        kinds_are : kinds_at text (take many kinds') ≡ kind_names rules
        kinds_are = put.are ∙ wanted_are

        many_is : many ≡ length (kind_names rules)
        many_is =
            let size = length-take many kinds' in
            let long = put.long in
            let few = put.few in
            omega (arith, ap length kinds_are, length-map (take many kinds') (word_at text))

        small : too_big rules ≡ false
        unfolding too_big
        small =
            let few = put.few in
            rw (le-ltb 512 (sizes rules) few_are.0, le-ltb 64 (length (kind_names rules)) (omega (arith, many_is)))

        pub no_kind : many ≡ 0 → RefusedAs text Kindless
        no_kind none = refused g.is_sheet (kindless (never_again g.is_sheet once) small (sym many_is ∙ none))

        pub all_settled : (many ≡ 0 → ⊥)
            → SettledAs text (down text (take read.nodes nodes') (take read.rules rows') (take many kinds'))
        all_settled some =
            record {
              first = g.first;
              further = g.further;
              sheet = g.is_sheet;
              pass = record { once = never_again g.is_sheet once; small = small; some_kind = omega (arith, many_is) };
              put = record { text_is = refl; nodes_are = nodes_are; rows_are = rows_are; kinds_are = kinds_are };
            }

        pub settled_writes : (many ≡ 0 → ⊥) → Writable (down text (take read.nodes nodes') (take read.rules rows') (take many kinds'))
        settled_writes some = let s = all_settled some in can_write s.sheet s.pass s.put
