-- What fits a field of a message, and what an operation may hold (ours).
use Rattle.std.specs.Prelude.{ℕ, Bool, ◌&&◌, List, length, nat_le, nat_lt}
use Rattle.std.specs.List.{list_all}
use Rattle.fab_base.specs.declared.limits.TheConstants.{LONGEST_KEY, LONGEST_VALUE}
use Rattle.fab_base.specs.declared.requests.Op.{Op}
use Rattle.fab_base.specs.declared.requests.Op.TheVariants.{Put, Get, Cut, Swap}

abbrev pub are_bytes : List ℕ → Bool
are_bytes bytes = list_all (λ b. nat_lt b 256) bytes

-- at most so many bytes
abbrev pub bytes_fit : ℕ → List ℕ → Bool
bytes_fit longest bytes = nat_le (length bytes) longest && are_bytes bytes

-- the key and the values of an operation
abbrev pub op_fits : Op → Bool
op_fits (Put key value) = bytes_fit LONGEST_KEY key && bytes_fit LONGEST_VALUE value
op_fits (Get key) = bytes_fit LONGEST_KEY key
op_fits (Cut key) = bytes_fit LONGEST_KEY key
op_fits (Swap key expected fresh) = bytes_fit LONGEST_KEY key && (bytes_fit LONGEST_VALUE expected && bytes_fit LONGEST_VALUE fresh)
