-- The fields of a line (ours).
use Rattle.std.specs.Prelude.{ℕ, ◌+◌, ◌-◌, ◌*◌, ◌^◌, ◌&&◌, not, Bool, nat_eq, nat_le, nat_lt, List, [], ◌∷◌, length, fold, Result, Ok, Err, if◌then◌else◌}
use Rattle.std.specs.List.{list_all, slice_split}
use Rattle.fab_base.specs.declared.limits.TheConstants.{LONGEST_KEY, LONGEST_VALUE}
use Rattle.fault_script.specs.declared.faults.Why.{Why}
use Rattle.fault_script.specs.declared.faults.Why.TheVariants.{BadWord, BadNumber, OutOfRange}
use Rattle.fault_script.specs.Checks.{and_then}
use Rattle.fault_script.specs.Words.{one_word}

abbrev pub is_digit : ℕ → Bool
is_digit b = nat_le 48 b && nat_le b 57

abbrev pub value_of_digits : List ℕ → ℕ
value_of_digits word = fold (λ n b. n * 10 + (b - 48)) 0 word

-- 1 to 20 digits
abbrev pub is_numeral : List ℕ → Bool
is_numeral word = not (nat_eq (length word) 0) && nat_le (length word) 20 && list_all is_digit word

-- a number: 1 to 20 digits, below 2^64
abbrev pub number : List ℕ → Result ℕ Why
number word = if is_numeral word && nat_lt (value_of_digits word) (2 ^ 64) then Ok (value_of_digits word) else Err BadNumber

abbrev pub is_within : ℕ → ℕ → ℕ → Bool
is_within low high n = nat_le low n && nat_le n high

-- a number between two limits
abbrev pub number_within : ℕ → ℕ → List ℕ → Result ℕ Why
number_within low high word = and_then (number word) (λ n. if is_within low high n then Ok n else Err OutOfRange)

-- the whole of a line that sets a number between two limits: just one word, which spells such a number
abbrev pub one_number : ℕ → ℕ → List (List ℕ) → Result ℕ Why
one_number low high words = and_then (one_word words) (number_within low high)

-- two numbers with a point between them
abbrev pub numbers_in : List (List ℕ) → Result (ℕ × ℕ) Why
numbers_in [] = Err BadNumber
numbers_in (a ∷ []) = Err BadNumber
numbers_in (a ∷ b ∷ []) = and_then (number a) (λ m. and_then (number b) (λ n. Ok (m, n)))
numbers_in (a ∷ b ∷ c ∷ rest) = Err BadNumber

abbrev pub two_numbers : List ℕ → Result (ℕ × ℕ) Why
two_numbers word = numbers_in (slice_split (λ b. nat_eq b 46) word)

-- a word of at most so many bytes
abbrev pub word_within : ℕ → List ℕ → Result (List ℕ) Why
word_within longest word = if nat_le (length word) longest then Ok word else Err BadWord

abbrev pub key_of : List ℕ → Result (List ℕ) Why
key_of word = word_within LONGEST_KEY word

abbrev pub value_of : List ℕ → Result (List ℕ) Why
value_of word = word_within LONGEST_VALUE word
