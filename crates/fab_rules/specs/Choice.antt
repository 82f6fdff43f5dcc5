-- The choice of a new view (PBFT, section 4.4: the computation of O; the details are ours).
use Rattle.std.specs.Prelude.{◌≡◌, ℕ, ◌≤◌, List, [], map, max, Option, Some, None, nat_eq, nat_lt, ◌&&◌, if◌then◌else◌}
use Rattle.std.specs.List.{filter, flat_map}
use Rattle.fab_base.specs.declared.requests.Request.{Request}
use Rattle.fab_base.specs.declared.messages.PreparedCert.{PreparedCert}
use Rattle.fab_base.specs.declared.messages.NewView.{NewView}
use Rattle.fab_rules.specs.Lists.{In, first_of, greatest}

-- the prepared certificates of a new view: by the order of its changes, and in a change by that of its list
abbrev pub certificates_of : NewView → List PreparedCert
certificates_of x = flat_map (λ change. change.prepared) x.changes

-- the greatest low mark of the changes: slots up to it are closed
abbrev pub base : NewView → ℕ
base x = greatest (map (λ change. change.low) x.changes)

-- the greatest slot of a certificate above the base, or else the base
abbrev pub top : NewView → ℕ
top x = max (base x) (greatest (map (λ k. k.slot) (certificates_of x)))

abbrev pub certificates_for : NewView → ℕ → List PreparedCert
certificates_for x slot = filter (λ k. nat_eq k.slot slot) (certificates_of x)

-- of some certificates the first whose view is the greatest
abbrev pub of_greatest_view : List PreparedCert → Option PreparedCert
of_greatest_view certificates = first_of (filter (λ k. nat_eq k.view (greatest (map (λ c. c.view) certificates))) certificates)

-- the certificate that decides a slot
abbrev pub deciding : NewView → ℕ → Option PreparedCert
deciding x slot = of_greatest_view (certificates_for x slot)

abbrev pub batch_in : Option PreparedCert → List Request
batch_in None = []
batch_in (Some k) = k.batch

-- the batch of a slot: that of the deciding certificate, or the null batch where there is none
abbrev pub chosen : NewView → ℕ → List Request
chosen x slot = batch_in (deciding x slot)

-- no certificate of the slot is of a later view than the deciding one
pub record IsDecided (x : NewView) (slot : ℕ) (k : PreparedCert) : Type 0 where
  pub certificate : PreparedCert
  pub deciding_is : deciding x slot ≡ Some certificate
  pub inside : In certificate (certificates_of x)
  pub slot_is : certificate.slot ≡ slot
  pub no_older : k.view ≤ certificate.view

-- ---- what one pass over the certificates keeps

-- only a greater view replaces what is kept
abbrev pub better : ℕ → Option PreparedCert → PreparedCert → Option PreparedCert
better slot None k = if nat_eq k.slot slot then Some k else None
better slot (Some kept) k = if nat_eq k.slot slot && nat_lt kept.view k.view then Some k else Some kept
