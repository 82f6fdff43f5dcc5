-- Where a receiver is listed, and what raising its number does.
use Rattle.std.proofs.Common.{◌≡◌, ℕ, ◌+◌, ◌<◌, ◌≤◌, ◌==◌, ◌&&◌, Bool, true, false, cond, [], ◌∷◌, ◌++◌, take, drop, length, get_or, set, Some, None, sym, ap, subst, ◌∙◌, take_all, append_assoc, add-one}
use Rattle.std.proofs.lemmas.List.{drop_more, take_more, drop_all, set_split, get_or_default}
use Rattle.fab_base.specs.declared.ids.ReplicaId.{ReplicaId}
use Rattle.run_words.specs.Keyed.{is_same}
use Rattle.run_words.proofs.Keys.{same_turned, other_turned}
use Rattle.parcel_post.specs.Posting.{Counts, number_in, raised, IsPlace}

-- the places before this one aren't the receiver's
abbrev pub IsLater : Counts → ReplicaId → ℕ → Type 0
IsLater counts i k = (number_in counts i ≡ number_in (drop k counts) i) × (raised counts i ≡ take k counts ++ raised (drop k counts) i)

same_if : (a b : ReplicaId) (x : Bool) → x ≡ ((a.cluster == b.cluster) && (a.index == b.index)) → is_same a b ≡ x
unfolding is_same
same_if a b x e = sym e

-- a row of the receiver, and one of another
abbrev number_by : ReplicaId × ℕ → Counts → ReplicaId → Bool → ℕ
number_by c rest i b = cond b c.1 (number_in rest i)

abbrev raised_at : ReplicaId × ℕ → Counts → ReplicaId → Bool → Counts
raised_at c rest i b = cond b ((c.0, c.1 + 1) ∷ rest) (c ∷ raised rest i)

found_at : (counts : Counts) (i : ReplicaId) (k : ℕ) (c : ReplicaId × ℕ) → k < length counts → drop k counts ≡ c ∷ drop (k + 1) counts → IsLater counts i k
    → is_same i c.0 ≡ true
    → (number_in counts i ≡ c.1) × (raised counts i ≡ set counts k (c.0, c.1 + 1))
found_at counts i k c lt front later s =
    let rest = drop (k + 1) counts in (
      later.0 ∙ ap (λ (l : Counts). number_in l i) front ∙ ap (number_by c rest i) s,
      later.1 ∙ ap (λ (l : Counts). take k counts ++ raised l i) front ∙ ap (λ (b : Bool). take k counts ++ raised_at c rest i b) s
          ∙ ap (λ (n : ℕ). take k counts ++ (c.0, c.1 + 1) ∷ drop n counts) (add-one k) ∙ sym (set_split counts k (c.0, c.1 + 1) lt),
    )

pub is_found : (counts : Counts) (i : ReplicaId) (k : ℕ) (d : ReplicaId × ℕ) → k < length counts → IsLater counts i k
    → true ≡ (((get_or counts k d).0.cluster == i.cluster) && ((get_or counts k d).0.index == i.index))
    → IsPlace counts i (Some k)
is_found counts i k d lt later e = (
  lt,
  λ c h. (let same : get_or counts k d ≡ c = get_or_default counts k d c lt ∙ h in
      subst (λ (y : ReplicaId × ℕ). (number_in counts i ≡ y.1) × (raised counts i ≡ set counts k (y.0, y.1 + 1))) same
      (found_at counts i k (get_or counts k d) lt (drop_more counts k d lt) later (same_turned _ _ (same_if (get_or counts k d).0 i true e)))),
)

pub is_passed : (counts : Counts) (i : ReplicaId) (k : ℕ) (d : ReplicaId × ℕ) → k < length counts → IsLater counts i k
    → false ≡ (((get_or counts k d).0.cluster == i.cluster) && ((get_or counts k d).0.index == i.index))
    → IsLater counts i (k + 1)
is_passed counts i k d lt later e =
    let c = get_or counts k d in
    let s = other_turned _ _ (same_if c.0 i false e) in
    let front = drop_more counts k d lt in
    let rest = drop (k + 1) counts in (
      later.0 ∙ ap (λ (l : Counts). number_in l i) front ∙ ap (number_by c rest i) s,
      later.1 ∙ ap (λ (l : Counts). take k counts ++ raised l i) front ∙ ap (λ (b : Bool). take k counts ++ raised_at c rest i b) s
          ∙ sym (append_assoc (take k counts) (c ∷ []) (raised rest i))
          ∙ ap (λ (l : Counts). l ++ raised rest i) (sym (take_more counts k d lt)),
    )

pub is_missing : (counts : Counts) (i : ReplicaId) (k : ℕ) → length counts ≤ k → IsLater counts i k → IsPlace counts i None
is_missing counts i k le later =
    let none = drop_all k counts le in (
      later.0 ∙ ap (λ (l : Counts). number_in l i) none,
      later.1 ∙ ap (λ (l : Counts). take k counts ++ raised l i) none ∙ ap (λ (l : Counts). l ++ (i, 1) ∷ []) (take_all k counts le),
    )
