-- Lists made by number, parts of lists, and the first of so many numbers at which a test fails.
use Rattle.std.specs.Prelude.{ℕ, zero, suc, Bool, cond, ◌&&◌, List, [], ◌∷◌, ◌++◌, leb, eqb, length, get_or, take, drop}

-- so many values, from a number on
unfoldable pub values_from : (ℕ → ℕ) → ℕ → ℕ → List ℕ
values_from value zero n = []
values_from value (suc left) n = value n ∷ values_from value left (suc n)

-- so many lists one after the other, from a number on
unfoldable pub lists_from : (ℕ → List ℕ) → ℕ → ℕ → List ℕ
lists_from list zero n = []
lists_from list (suc left) n = list n ++ lists_from list left (suc n)

-- the first number from a place on, of so many, at which a test fails; the next past them if none does
unfoldable pub first_bad : (ℕ → Bool) → ℕ → ℕ → ℕ
first_bad good zero n = n
first_bad good (suc left) n = cond (good n) (first_bad good left (suc n)) n

-- whether every number below a count passes a test
unfoldable pub every : (ℕ → Bool) → ℕ → Bool
every good count = leb count (first_bad good count 0)

-- so many elements of a list, from a place on
abbrev pub part_at : List ℕ → ℕ → ℕ → List ℕ
part_at list at size = take size (drop at list)

-- whether two lists are the same
unfoldable pub same : List ℕ → List ℕ → Bool
same xs ys = eqb (length xs) (length ys) && every (λ i. eqb (get_or xs i 0) (get_or ys i 0)) (length xs)
