-- The words of a line (ours).
use Rattle.std.specs.Prelude.{ℕ, not, Bool, nat_eq, List, [], ◌∷◌, length, filter, Result, Ok, Err}
use Rattle.std.specs.List.{slice_split}
use Rattle.std.specs.Cmp.Lexicographic.{pointwise}
use Rattle.fault_script.specs.declared.faults.Why.{Why}
use Rattle.fault_script.specs.declared.faults.Why.TheVariants.{BadWord, Missing}
use Rattle.fault_script.specs.Checks.{and_then}

-- the words of a line: what stands between its spaces
abbrev pub words_of : List ℕ → List (List ℕ)
words_of line = filter (λ word. not (nat_eq (length word) 0)) (slice_split (λ b. nat_eq b 32) line)

abbrev pub same_word : List ℕ → List ℕ → Bool
same_word word other = pointwise nat_eq word other

-- just so many words: too few are missing, and then one too many is a bad word
abbrev pub one_word : List (List ℕ) → Result (List ℕ) Why
one_word [] = Err Missing
one_word (a ∷ []) = Ok a
one_word (a ∷ b ∷ rest) = Err BadWord

abbrev pub two_words : List (List ℕ) → Result (List ℕ × List ℕ) Why
two_words [] = Err Missing
two_words (a ∷ rest) = and_then (one_word rest) (λ b. Ok (a, b))

abbrev pub three_words : List (List ℕ) → Result (List ℕ × List ℕ × List ℕ) Why
three_words [] = Err Missing
three_words (a ∷ rest) = and_then (two_words rest) (λ b. Ok (a, b.0, b.1))
