-- Where a list first goes wrong, for any language of lists.
use Rattle.std.specs.Prelude.{ℕ, suc, ◌<◌, List, ◌++◌, length, take}

module _ (In : List ℕ → Type 0) where
  -- a beginning of something in the language
  pub record Starts (xs : List ℕ) : Type 0 where
    pub rest : List ℕ
    pub within : In (xs ++ rest)

  -- it goes wrong at a place: what is before the place begins something in the language, what is up to it and with it
  -- begins nothing
  pub record Parts (xs : List ℕ) (i : ℕ) : Type 0 where
    pub inside : i < length xs
    pub agrees : Starts (take i xs)
    pub differs : Starts (take (suc i) xs) → ⊥

  -- more is due at its end: it begins something in the language and is not in it
  pub record Lacks (xs : List ℕ) : Type 0 where
    pub agrees : Starts xs
    pub unfinished : In xs → ⊥
