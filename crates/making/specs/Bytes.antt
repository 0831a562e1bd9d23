-- What is put down of a sheet, and the bytes that are written of it.
use Rattle.std.specs.Prelude.{ℕ, ◌≤◌, ◌<◌, cond, ltb, max, List, [], ◌∷◌, ◌++◌, length, get_or, map}
use Rattle.std.specs.List.{flat_map}
use Rattle.words.specs.Words.{word_bytes}
use Rattle.forms.specs.Forms.{contents_of}
use Rattle.names.specs.Names.{names_bytes}
use Rattle.written.specs.Written.{written}
use Rattle.written.specs.declared.Written.{Written}
use Rattle.book.specs.Form.{named_sections, DONE, NODE}
use Rattle.book.specs.Encode.{node_words}
use Rattle.book.specs.declared.Node.TheVariants.{Fail}
use Rattle.outline.specs.declared.RawNode.{RawNode}
use Rattle.outline.specs.declared.Row.{Row}
use Rattle.resolving.specs.Words.{kinds_at}
use Rattle.resolving.specs.Writing.{last_of, resolved}

-- a sheet's text, and its nodes, rules and kinds as they are put down
pub record Down : Type 0 where
  pub text : List ℕ
  pub nodes : List RawNode
  pub rows : List Row
  pub kinds : List ℕ

abbrev pub down : List ℕ → List RawNode → List Row → List ℕ → Down
down text nodes rows kinds = record { text = text; nodes = nodes; rows = rows; kinds = kinds }

-- the largest of numbers
unfoldable pub largest : List ℕ → ℕ
largest [] = 0
largest (n ∷ more) = max n (largest more)

module _ (d : Down) where
  -- the names of the kinds
  abbrev pub names_down : List (List ℕ)
  names_down = kinds_at d.text d.kinds

  -- type, left and right of a node that is put down, and of all
  abbrev pub node_written : RawNode → List ℕ
  node_written raw = node_words (resolved d.text d.rows d.kinds raw.node raw.place)

  abbrev pub nodes_words : List ℕ
  nodes_words = flat_map node_written d.nodes

  -- contents, kinds and start, the nodes, and the names
  unfoldable pub made_bytes : List ℕ
  made_bytes =
      word_bytes (contents_of (named_sections (length d.nodes) (length (names_bytes names_down)))
      ++ (length d.kinds ∷ last_of d.rows 0 ∷ nodes_words))
      ++ names_bytes names_down

  -- there is a rule, nodes and kinds are few, all numbers take 16 bits, and each name has 1 to 16 letters
  pub record Writable : Type 0 where
    pub few_nodes : length d.nodes ≤ 512
    pub some_rule : 1 ≤ length d.rows
    pub few_kinds : length d.kinds ≤ 64
    pub small : largest (last_of d.rows 0 ∷ nodes_words) < 65536
    pub short : largest (map length names_down) ≤ 16
    pub some_letter : (k : ℕ) → k < length names_down → 1 ≤ length (get_or names_down k [])

  -- the place of the text from which a node comes, or 4 with the number of nodes
  unfoldable pub place_down : ℕ → Written
  place_down node =
      cond (ltb node (length d.nodes))
      (written DONE 0 (get_or d.nodes node (record { node = Fail; place = 0 })).place)
      (written NODE 0 (length d.nodes))
