-- A line of text as words, and the decimal numbers that the words write. Assumes nothing.
use Rattle.std.specs.Prelude.{◌≡◌, ℕ, ◌<◌, List, [], ◌∷◌, ◌++◌, length, slice_index, slice_index_or}
use Rattle.std.specs.Str.Parse.{IsNumeral, digits_value, without_leading_plus}
use Rattle.std.specs.Char.{is_whitespace, is_not_whitespace}
use Rattle.std.specs.Str.{NoCharPasses, EmptyOrStartsWithPassing}

-- bs is white space, the word w, and rest, which is empty or begins with white space
pub record First (bs w rest : List ℕ) : Type 0 where
  pub gap : List ℕ
  pub cut : bs ≡ gap ++ (w ++ rest)
  pub some : 0 < length w
  pub blank : NoCharPasses is_not_whitespace gap
  pub solid : NoCharPasses is_whitespace w
  pub ends : (more : List ℕ) × EmptyOrStartsWithPassing is_whitespace rest more

-- ws are the words of bs
abbrev pub Words : List ℕ → List (List ℕ) → Type 0
Words bs [] = NoCharPasses is_not_whitespace bs
Words bs (w ∷ ws) = (rest : List ℕ) × First bs w rest × Words rest ws

-- the word writes n in decimal, a plus before it or not
abbrev pub Writes : List ℕ → ℕ → Type 0
Writes w n = IsNumeral 10 (without_leading_plus w) × (digits_value 10 (without_leading_plus w) ≡ n)

-- the words write the numbers, one each
pub record Write (ws : List (List ℕ)) (ns : List ℕ) : Type 0 where
  pub many : length ws ≡ length ns
  pub each : (k : ℕ) → k < length ns → Writes (slice_index_or ws k []) (slice_index ns k)
