-- The bytes of a text.
use Rattle.std.specs.Prelude.{ℕ, List, [], ◌∷◌}
use Prim.Native.Char.{code}
use Prim.Native.String.{String, [] as empty, ◌∷◌ as ◌then◌}

-- one byte a character, which is its own number
abbrev pub text : String → List ℕ
text empty = []
text (c then rest) = code c ∷ text rest
