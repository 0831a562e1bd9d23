-- The worked table, in document 01's own digits: cases of compiling and reading, and what it means that one holds.
use Rattle.std.specs.Prelude.{ℕ, ◌*◌, ◌≡◌, length, take, drop, set, replicate}
use mathlib.Core.List.{List, [], ◌∷◌, ◌++◌, flat_map}
use Rattle.words.specs.Words.{word_bytes, zeros}
use Rattle.book.specs.Encode.{node_words}
use Rattle.book.specs.declared.Node.{Node}
use Rattle.book.specs.declared.Node.TheVariants.{Fail, Empty, Token, Either, Then, Tagged, Ref}
use Rattle.compiler.specs.declared.Compiled.{Compiled}
use Rattle.compiler.specs.Compiles.{answer, Compiles}
use Rattle.reader.specs.declared.Reading.{Reading}
use Rattle.reader.specs.Numbers.{answered, told}
use Rattle.reader.specs.Reads.{outcome, read_of}

-- the bytes of the book with these kinds, start and nodes
unfoldable pub book : ℕ → ℕ → List Node → List ℕ
book kinds start nodes =
    word_bytes (2 ∷ 1 ∷ 14 ∷ 4 ∷ 2 ∷ 18 ∷ (6 * length nodes) ∷ kinds ∷ start ∷ flat_map node_words nodes)

-- a case: a book compiled with so much plan room, the answer, the plan buffer after it; or a plan, a run read by it
-- with so many slots and so much tree room, the answer, the tree buffer after it
pub data Case : Type 0 where
  compiled : List ℕ → ℕ → Compiled → List ℕ → Case
  read : List ℕ → List ℕ → ℕ → ℕ → Reading → List ℕ → Case

-- what it means that a case holds
abbrev pub Holds : Case → Type 0
Holds (compiled bytes room a buffer) = Compiles bytes room a buffer
Holds (read bytes run slots room a buffer) = read_of bytes run slots room ≡ outcome a buffer

-- something holds of each entry of a list
pub data Each {A : Type 0} (Of : A → Type 0) : List A → Type 0 where
  no_more : Each Of []
  and : {x : A} {xs : List A} → Of x → Each Of xs → Each Of (x ∷ xs)

-- the rinse book: token 0; token 1; token 2; empty; ref 6; then 1 4; either 5 3; then 6 2; then 0 7
abbrev pub rinse : List ℕ
rinse = 2 ∷ 0 ∷ 1 ∷ 0 ∷ 14 ∷ 0 ∷ 4 ∷ 0 ∷ 2 ∷ 0 ∷ 18 ∷ 0 ∷ 54 ∷ 0 ∷ 3 ∷ 0 ∷ 8 ∷ 0 ∷ 2 ∷ 0 ∷ 0 ∷ 0 ∷ 0 ∷ 0
    ∷ 2 ∷ 0 ∷ 1 ∷ 0 ∷ 0 ∷ 0 ∷ 2 ∷ 0 ∷ 2 ∷ 0 ∷ 0 ∷ 0 ∷ 1 ∷ 0 ∷ 0 ∷ 0 ∷ 0 ∷ 0 ∷ 6 ∷ 0 ∷ 6 ∷ 0 ∷ 0 ∷ 0
    ∷ 4 ∷ 0 ∷ 1 ∷ 0 ∷ 4 ∷ 0 ∷ 3 ∷ 0 ∷ 5 ∷ 0 ∷ 3 ∷ 0 ∷ 4 ∷ 0 ∷ 6 ∷ 0 ∷ 2 ∷ 0 ∷ 4 ∷ 0 ∷ 0 ∷ 0 ∷ 7 ∷ 0 ∷ []

-- the rinse book with names: contents of three sections, its settings and nodes, then fill, rinse and tip
abbrev pub named_rinse : List ℕ
named_rinse = 3 ∷ 0 ∷ 1 ∷ 0 ∷ 20 ∷ 0 ∷ 4 ∷ 0 ∷ 2 ∷ 0 ∷ 24 ∷ 0 ∷ 54 ∷ 0 ∷ 3 ∷ 0 ∷ 78 ∷ 0 ∷ 15 ∷ 0 ∷ drop 14 rinse
    ++ (4 ∷ 102 ∷ 105 ∷ 108 ∷ 108 ∷ 5 ∷ 114 ∷ 105 ∷ 110 ∷ 115 ∷ 101 ∷ 3 ∷ 116 ∷ 105 ∷ 112 ∷ [])

-- its plan: contents and settings; nodes; rows; what is due
abbrev pub plan : List ℕ
plan = 4 ∷ 0 ∷ 1 ∷ 0 ∷ 26 ∷ 0 ∷ 4 ∷ 0 ∷ 2 ∷ 0 ∷ 30 ∷ 0 ∷ 54 ∷ 0 ∷ 3 ∷ 0 ∷ 84 ∷ 0 ∷ 36 ∷ 0 ∷ 4 ∷ 0 ∷ 120 ∷ 0 ∷ 18 ∷ 0
    ∷ 3 ∷ 0 ∷ 8 ∷ 0
    ∷ 2 ∷ 0 ∷ 0 ∷ 0 ∷ 0 ∷ 0 ∷ 2 ∷ 0 ∷ 1 ∷ 0 ∷ 0 ∷ 0 ∷ 2 ∷ 0 ∷ 2 ∷ 0 ∷ 0 ∷ 0 ∷ 1 ∷ 0 ∷ 0 ∷ 0 ∷ 0 ∷ 0
    ∷ 6 ∷ 0 ∷ 6 ∷ 0 ∷ 0 ∷ 0 ∷ 4 ∷ 0 ∷ 1 ∷ 0 ∷ 4 ∷ 0 ∷ 3 ∷ 0 ∷ 5 ∷ 0 ∷ 3 ∷ 0 ∷ 4 ∷ 0 ∷ 6 ∷ 0 ∷ 2 ∷ 0
    ∷ 4 ∷ 0 ∷ 0 ∷ 0 ∷ 7 ∷ 0 ∷ 1 ∷ 0 ∷ 0 ∷ 0 ∷ 0 ∷ 1 ∷ 0 ∷ 0 ∷ 0 ∷ 0 ∷ 1 ∷ 0 ∷ 0 ∷ 0 ∷ 0 ∷ 1
    ∷ 0 ∷ 2 ∷ 0 ∷ 1 ∷ 0 ∷ 3 ∷ 0 ∷ 0 ∷ 0 ∷ 2 ∷ 0 ∷ 1 ∷ 0 ∷ 3 ∷ 4 ∷ 0 ∷ 3 ∷ 0 ∷ 0 ∷ 0
    ∷ 1 ∷ 0 ∷ 1 ∷ 0 ∷ 1 ∷ 0 ∷ 0 ∷ 0 ∷ 0 ∷ 0 ∷ 1 ∷ 0 ∷ 0 ∷ 0 ∷ 1 ∷ 0 ∷ 2 ∷ 0 ∷ []

-- the cases, with the plans of a lone empty, of a harmless left recursion, of two nodes over 64 kinds, and of stages
-- (token 0; token 1; tagged 1 9; then 0 2; tagged 3 7; then 4 0), and a book with two names
unfoldable pub table : List Case
table =
    let lone : List ℕ = 4 ∷ 0 ∷ 1 ∷ 0 ∷ 26 ∷ 0 ∷ 4 ∷ 0 ∷ 2 ∷ 0 ∷ 30 ∷ 0 ∷ 6 ∷ 0 ∷ 3 ∷ 0 ∷ 36 ∷ 0 ∷ 2 ∷ 0 ∷ 4
    ∷ 0 ∷ 38 ∷ 0
    ∷ 2 ∷ 0 ∷ 1 ∷ 0 ∷ 0 ∷ 0 ∷ 1 ∷ 0 ∷ 0 ∷ 0 ∷ 0 ∷ 0 ∷ 0 ∷ 1 ∷ 0 ∷ 0 ∷ [] in
    let loop : List ℕ = 4 ∷ 0 ∷ 1 ∷ 0 ∷ 26 ∷ 0 ∷ 4 ∷ 0 ∷ 2 ∷ 0 ∷ 30 ∷ 0 ∷ 30 ∷ 0 ∷ 3 ∷ 0 ∷ 60 ∷ 0 ∷ 10 ∷ 0 ∷ 4
    ∷ 0 ∷ 70 ∷ 0 ∷ 10 ∷ 0
    ∷ 1 ∷ 0 ∷ 4 ∷ 0 ∷ 6 ∷ 0 ∷ 4 ∷ 0 ∷ 0 ∷ 0 ∷ 0 ∷ 0 ∷ 0 ∷ 0 ∷ 0 ∷ 0 ∷ 4 ∷ 0 ∷ 0 ∷ 0 ∷ 1 ∷ 0
    ∷ 2 ∷ 0 ∷ 0 ∷ 0 ∷ 0 ∷ 0 ∷ 3 ∷ 0 ∷ 2 ∷ 0 ∷ 3 ∷ 0 ∷ 2 ∷ 0 ∷ 0 ∷ 0 ∷ 0 ∷ 0 ∷ 1 ∷ 0 ∷ 5 ∷ 0
    ∷ 1 ∷ 0 ∷ 255 ∷ 255 ∷ 255 ∷ 255 ∷ 1 ∷ 0 ∷ 1 ∷ 0 ∷ [] in
    let wide : List ℕ = 4 ∷ 0 ∷ 1 ∷ 0 ∷ 26 ∷ 0 ∷ 4 ∷ 0 ∷ 2 ∷ 0 ∷ 30 ∷ 0 ∷ 12 ∷ 0 ∷ 3 ∷ 0 ∷ 42 ∷ 0 ∷ 130 ∷ 0 ∷ 4
    ∷ 0 ∷ 172 ∷ 0
    ∷ 4 ∷ 0 ∷ 64 ∷ 0
    ∷ 1 ∷ 0 ∷ 2 ∷ 0 ∷ 63 ∷ 0 ∷ 0 ∷ 0 ∷ 5 ∷ 0 ∷ 0 ∷ 0 ∷ 255 ∷ 255 ∷ zeros 63 ++ 1 ∷ 0 ∷ zeros 63 ++ 2 ∷ 0
    ∷ 1 ∷ 0 ∷ 1 ∷ 0 ∷ [] in
    let stages : List ℕ = 4 ∷ 0 ∷ 1 ∷ 0 ∷ 26 ∷ 0 ∷ 4 ∷ 0 ∷ 2 ∷ 0 ∷ 30 ∷ 0 ∷ 36 ∷ 0 ∷ 3 ∷ 0 ∷ 66 ∷ 0 ∷ 18 ∷ 0 ∷ 4 ∷ 0 ∷ 84 ∷ 0
    ∷ 12 ∷ 0 ∷ 2 ∷ 0 ∷ 5 ∷ 0 ∷ 2 ∷ 0 ∷ 0 ∷ 0 ∷ 0 ∷ 0 ∷ 2 ∷ 0 ∷ 1 ∷ 0 ∷ 0 ∷ 0 ∷ 5 ∷ 0 ∷ 1 ∷ 0 ∷ 9 ∷ 0
    ∷ 4 ∷ 0 ∷ 0 ∷ 0 ∷ 2 ∷ 0 ∷ 5 ∷ 0 ∷ 3 ∷ 0 ∷ 7 ∷ 0 ∷ 4 ∷ 0 ∷ 4 ∷ 0 ∷ 0 ∷ 0
    ∷ 1 ∷ 0 ∷ 0 ∷ 0 ∷ 1 ∷ 0 ∷ 0 ∷ 2 ∷ 0 ∷ 3 ∷ 0 ∷ 0 ∷ 2 ∷ 0 ∷ 0 ∷ 3 ∷ 0 ∷ 0
    ∷ 1 ∷ 0 ∷ 1 ∷ 0 ∷ 1 ∷ 0 ∷ 2 ∷ 0 ∷ 2 ∷ 0 ∷ 3 ∷ 0 ∷ [] in
    let pair : List ℕ = 3 ∷ 0 ∷ 1 ∷ 0 ∷ 20 ∷ 0 ∷ 4 ∷ 0 ∷ 2 ∷ 0 ∷ 24 ∷ 0 ∷ 6 ∷ 0 ∷ 3 ∷ 0 ∷ 30 ∷ 0 ∷ 4 ∷ 0
    ∷ 2 ∷ 0 ∷ 0 ∷ 0 ∷ 2 ∷ 0 ∷ 0 ∷ 0 ∷ 0 ∷ 0 ∷ 1 ∷ 97 ∷ 1 ∷ 98 ∷ [] in
    compiled rinse 138 (answer 0 0 138 0 0) plan ∷ compiled rinse 137 (answer 7 0 138 0 0) (zeros 137)
    ∷ read plan (0 ∷ 1 ∷ 2 ∷ []) 2 8 (answered 0 3 8 0) (8 ∷ 0 ∷ 7 ∷ 6 ∷ 5 ∷ 1 ∷ 32772 ∷ 2 ∷ [])
    ∷ read plan (0 ∷ 1 ∷ 2 ∷ []) 1 8 (answered 11 1 0 0) (zeros 8) ∷ read plan [] 0 0 (answered 11 0 0 0) []
    ∷ read plan (0 ∷ 1 ∷ 2 ∷ []) 2 7 (answered 16 0 8 0) (zeros 7)
    ∷ read plan (0 ∷ 2 ∷ []) 2 8 (answered 0 2 5 0) (8 ∷ 0 ∷ 7 ∷ 32774 ∷ 2 ∷ 0 ∷ 0 ∷ 0 ∷ [])
    ∷ read plan (0 ∷ 0 ∷ []) 2 8 (answered 13 1 0 6) (zeros 8)
    ∷ read plan [] 2 0 (answered 14 0 0 1) [] ∷ read plan (0 ∷ 1 ∷ 1 ∷ []) 2 0 (answered 14 3 0 6) []
    ∷ read plan (0 ∷ 2 ∷ 1 ∷ []) 2 0 (answered 13 2 0 0) [] ∷ read plan (0 ∷ 3 ∷ []) 2 0 (answered 12 1 0 6) []
    ∷ compiled (book 1 2 (Token 0 ∷ Token 0 ∷ Either 0 1 ∷ [])) 2 (answer 6 2 0 0 1) (0 ∷ 0 ∷ [])
    ∷ compiled (book 1 2 (Empty ∷ Empty ∷ Either 0 1 ∷ [])) 2 (answer 6 2 0 1 0) (0 ∷ 0 ∷ [])
    ∷ compiled (book 1 3 (Token 0 ∷ Empty ∷ Either 0 1 ∷ Then 2 0 ∷ [])) 2 (answer 6 3 0 0 1) (0 ∷ 0 ∷ [])
    ∷ compiled (book 2 4 (Ref 4 ∷ Token 0 ∷ Then 0 1 ∷ Token 1 ∷ Either 2 3 ∷ [])) 2 (answer 6 4 0 0 2) (0 ∷ 0 ∷ [])
    ∷ compiled (book 2 3 (Token 0 ∷ Token 1 ∷ Either 0 1 ∷ Either 2 2 ∷ [])) 0 (answer 6 3 0 0 3) []
    ∷ compiled (book 1 3 (Empty ∷ Token 0 ∷ Either 0 1 ∷ Either 2 2 ∷ [])) 0 (answer 6 3 0 1 1) []
    ∷ compiled (book 3 5 (Token 0 ∷ Token 2 ∷ Either 0 1 ∷ Empty ∷ Either 2 3 ∷ Then 4 2 ∷ [])) 0 (answer 6 5 0 0 5) []
    ∷ compiled (book 64 1 (Token 63 ∷ Either 0 0 ∷ [])) 0 (answer 6 1 0 0 9223372036854775808) []
    ∷ compiled (book 1 4 (Ref 4 ∷ Fail ∷ Then 0 1 ∷ Token 0 ∷ Either 2 3 ∷ [])) 80 (answer 0 0 80 0 0) loop
    ∷ read loop (0 ∷ []) 1 2 (answered 0 1 2 0) (4 ∷ 3 ∷ []) ∷ compiled (book 1 0 (Fail ∷ [])) 0 (answer 5 0 0 0 0) []
    ∷ compiled (book 1 1 (Fail ∷ Then 0 0 ∷ [])) 2 (answer 5 1 0 0 0) (0 ∷ 0 ∷ [])
    ∷ compiled (book 1 1 (Fail ∷ Fail ∷ Token 0 ∷ [])) 2 (answer 22 0 0 0 0) (0 ∷ 0 ∷ [])
    ∷ compiled (book 1 2 (Token 0 ∷ Token 0 ∷ Either 0 1 ∷ Fail ∷ [])) 0 (answer 22 3 0 0 0) []
    ∷ compiled (book 1 0 (Ref 2 ∷ Token 0 ∷ Tagged 1 9 ∷ [])) 0 (answer 7 0 60 0 0) []
    ∷ compiled (book 1 0 (Empty ∷ [])) 41 (answer 0 0 40 0 0) (lone ++ (0 ∷ []))
    ∷ read lone [] 1 1 (answered 0 0 1 0) (32768 ∷ []) ∷ read lone (0 ∷ []) 1 1 (answered 13 0 0 0) (0 ∷ [])
    ∷ compiled (book 1 0 (Token 0 ∷ Token 0 ∷ Either 0 1 ∷ [])) 2 (answer 22 1 0 0 0) (0 ∷ 0 ∷ [])
    ∷ compiled (book 2 5 (Token 0 ∷ Empty ∷ Either 0 1 ∷ Token 1 ∷ Then 2 3 ∷ Then 4 0 ∷ [])) 0 (answer 7 0 96 0 0) []
    ∷ compiled (book 64 1 (Token 63 ∷ Tagged 0 65535 ∷ [])) 176 (answer 0 0 176 0 0) wide
    ∷ read wide (63 ∷ []) 1 2 (answered 0 1 2 0) (1 ∷ 0 ∷ [])
    ∷ read wide (64 ∷ []) 1 0 (answered 12 0 0 9223372036854775808) []
    ∷ read stages [] 2 0 (answered 14 0 0 1) [] ∷ read stages (0 ∷ []) 2 0 (told 14 1 7 2) []
    ∷ read stages (0 ∷ 1 ∷ []) 2 0 (answered 14 2 0 1) [] ∷ read stages (0 ∷ 0 ∷ []) 2 0 (told 13 1 7 2) []
    ∷ read stages (0 ∷ 9 ∷ []) 2 0 (told 12 1 7 2) []
    ∷ compiled (zeros 18) 0 (answer 1 0 0 0 0) [] ∷ compiled (zeros 24) 0 (answer 2 0 0 0 0) []
    ∷ compiled (zeros 3090) 0 (answer 2 0 0 0 0) [] ∷ compiled (zeros 3096) 0 (answer 1 0 0 0 0) []
    ∷ compiled (book 65 0 (Fail ∷ [])) 0 (answer 3 0 0 0 0) []
    ∷ compiled (book 64 1 (Fail ∷ [])) 0 (answer 3 0 0 0 0) []
    ∷ compiled (book 64 511 (Token 63 ∷ Token 64 ∷ replicate 510 Fail)) 0 (answer 4 1 0 0 0) []
    ∷ compiled named_rinse 138 (answer 0 0 138 0 0) plan ∷ compiled named_rinse 137 (answer 7 0 138 0 0) (zeros 137)
    ∷ compiled (3 ∷ zeros 30) 0 (answer 1 0 0 0 0) [] ∷ compiled (3 ∷ zeros 31) 0 (answer 2 0 0 0 0) []
    ∷ compiled (3 ∷ zeros 4183) 0 (answer 2 0 0 0 0) [] ∷ compiled (3 ∷ zeros 4184) 0 (answer 1 0 0 0 0) []
    ∷ compiled (set named_rinse 16 79) 0 (answer 2 0 0 0 0) []
    ∷ compiled (set (set named_rinse 24 7) 78 0) 0 (answer 4 0 0 0 0) []
    ∷ compiled (set named_rinse 78 5) 0 (answer 19 0 0 0 0) []
    ∷ compiled (set named_rinse 88 127) 0 (answer 19 1 0 0 0) []
    ∷ compiled (set named_rinse 89 4) 0 (answer 19 2 0 0 0) [] ∷ compiled (set named_rinse 89 2) 0 (answer 19 3 0 0 0) []
    ∷ compiled pair 0 (answer 7 0 41 0 0) [] ∷ compiled (set pair 33 97) 0 (answer 19 1 0 0 0) []
    ∷ read (take 137 plan) [] 2 0 (answered 8 0 0 0) [] ∷ read (set plan 2 2) [] 2 0 (answered 8 0 0 0) []
    ∷ read (set plan 117 2) [] 2 0 (answered 9 33 0 0) [] ∷ read (set plan 119 2) [] 2 0 (answered 9 35 0 0) []
    ∷ read plan (zeros 65535) 2 0 (answered 13 1 0 6) [] ∷ read plan (zeros 65536) 0 0 (answered 10 0 0 0) []
    ∷ read (set plan 0 3) [] 2 0 (answered 8 0 0 0) []
    ∷ read (set plan 137 255) (0 ∷ 0 ∷ []) 2 8 (answered 13 1 0 6) (zeros 8)
    ∷ read (take 30 lone ++ (6 ∷ 0 ∷ 0 ∷ 0 ∷ 0 ∷ 0 ∷ 2 ∷ 0 ∷ 0 ∷ 0 ∷ [])) (0 ∷ []) 1 1 (answered 15 0 0 0) (0 ∷ []) ∷ []
