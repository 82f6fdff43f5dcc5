-- Among more members than may be faulty there is a correct one.
use Rattle.std.proofs.Common.{◌≡◌, ℕ, ◌+◌, ◌≤◌, ◌<◌, Bool, true, false, ◌&&◌, not, List, refl, arith}
use Rattle.fab_base.specs.Quorums.{greatest_faulty, AreMembers, IsQuorum, is_member, count_members, CorrectMember}
use Rattle.fab_base.proofs.Counting.{without, some_member, length-le_members}

both_pass : (a b : Bool) → (a && not b) ≡ true → (a ≡ true) × (b ≡ false)
both_pass true true h = cc
both_pass true false h = (refl, refl)
both_pass false b h = cc

-- among more members than may be faulty one is correct
pub correct_member : (n : ℕ) (is_faulty : ℕ → Bool) (members : List ℕ) → count_members n is_faulty ≤ greatest_faulty n
    → AreMembers n (greatest_faulty n + 1) members → CorrectMember n is_faulty members
correct_member n is_faulty members few enough =
    let long = length-le_members 0 n members enough.rising in
    let rest = without n (is_member members) is_faulty in
    let found = some_member n (λ k. is_member members k && not (is_faulty k)) (omega (arith, enough.enough)) in
    let passes = both_pass (is_member members found.0) (is_faulty found.0) found.2 in
    record { index = found.0; in_range = found.1; is_in = passes.0; not_faulty = passes.1 }

-- a quorum has more members than may be faulty
pub quorum_is_enough : (n : ℕ) (members : List ℕ) → 1 ≤ n → IsQuorum n members → AreMembers n (greatest_faulty n + 1) members
quorum_is_enough n members some quorum = record { rising = quorum.rising; enough = omega (arith, quorum.enough) }
