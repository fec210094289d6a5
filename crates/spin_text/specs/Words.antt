-- Words, the lines that they make, and the text that lines make.
use Rattle.std.specs.Prelude.{ℕ, List, [], ◌∷◌, ◌++◌}
use Rattle.std.specs.List.{flat_map}

-- a word, as its bytes
abbrev pub Word : Type 0
Word = List ℕ

-- each word with a space before it
abbrev pub spaced : List Word → List ℕ
spaced words = flat_map (λ w. 32 ∷ w) words

-- a line of words, with one space between them
abbrev pub line_of : List Word → List ℕ
line_of [] = []
line_of (w ∷ ws) = w ++ spaced ws

-- a line, ended by a line feed
abbrev pub ended : List ℕ → List ℕ
ended line = line ++ 10 ∷ []

-- the lines, each ended by a line feed
abbrev pub text_of : List (List ℕ) → List ℕ
text_of lines = flat_map ended lines
